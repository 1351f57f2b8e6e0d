use Rattle.std.proofs.Common.{◌≡◌, Bool, true, false, sym, ◌∙◌, ◌&&◌}
use Rattle.std.specs.Bool.{Decides}
use Rattle.std.specs.Ordering.{int_eq}
use Rattle.gj_frac.specs.declared.Frac.{Frac}
use Rattle.gj_frac.specs.TotalOrder.{parts_Decides}
use Rattle.gj_shape.specs.FunctionData.{FunctionData, IsWithinBounds}
use Rattle.gj_rule.specs.Kind.{HasPlace}
use Rattle.gj_rule.specs.declared.kind.RuleKind.TheVariants.{Gmic, Table}
use Rattle.gj_cut.specs.RowCuts.{HasPart}
use Rattle.gj_cut.proofs.RightSides.{part_at_place}
use Rattle.gj_problem.proofs.WideRoundings.{handed_on}
use Rattle.gj_safe_cut.proofs.OneCut.{one_kind_value}
use Rattle.gj_safe_cut.proofs.cutters.ByFunctionRowCutter.cut_of_row.Goals as goal

-- `==` tells whether the part r of the right side is the function's f
told : (f : FunctionData) (right r place : Frac) (is : Bool) → IsWithinBounds f →
    HasPart (Gmic r) right → HasPlace (Table f) place →
    is ≡ (int_eq r.num place.num && int_eq r.den place.den) → Decides is (HasPart (Table f) right)
told f right r place is bounds part has_place answer =
    let same = part_at_place (Table f) right r place bounds part has_place in
    let equal = parts_Decides r place in (
      λ yes. same.0 (equal.0 (sym answer ∙ yes)),
      λ at_place. answer ∙ equal.1 (same.1 at_place),
    )

pub returns-then-eq-clause-cut : goal.returns-then-eq-clause-cut
returns-then-eq-clause-cut c =
    let side = c.in-Some.ensures.side in (
      side.0,
      (told c.args.self.now.shape.now c.args.row.right c.in-Some.f c.f.result c.eq.result
          c.f.ensures.limits side.1 c.f.ensures.value c.eq.ensures).0 c.if-eq.true,
      c.in_ok-cut.ensures.cut,
    )

pub returns-in_err-cut-clause-wide : goal.returns-in_err-cut-clause-wide
returns-in_err-cut-clause-wide c = λ fault.
    let side = c.in-Some.ensures.side in (
      side.0,
      (told c.args.self.now.shape.now c.args.row.right c.in-Some.f c.f.result c.eq.result
          c.f.ensures.limits side.1 c.f.ensures.value c.eq.ensures).0 c.if-eq.true,
      c.in_err-cut.ensures.wide
          (handed_on c.from_residual.result _ _ c.from_residual.ensures.1 fault),
    )

pub returns-then-eq-clause-narrow : goal.returns-then-eq-clause-narrow
returns-then-eq-clause-narrow c (not_whole, part, wide) =
    c.in_ok-cut.ensures.narrow
    (one_kind_value (Table c.args.self.now.shape.now) c.f.ensures.limits) wide

pub returns-clause-cut : goal.returns-clause-cut
returns-clause-cut c =
    let side = c.in-Some.ensures.side in (
      side.0,
      λ part.
          let wrong : false ≡ true = sym c.if-eq.false
          ∙ (told c.args.self.now.shape.now c.args.row.right c.in-Some.f c.f.result c.eq.result
          c.f.ensures.limits side.1 c.f.ensures.value c.eq.ensures).1 part in
          cc,
    )

pub returns-clause-narrow : goal.returns-clause-narrow
returns-clause-narrow c (not_whole, part, wide) = (returns-clause-cut c).1 part
