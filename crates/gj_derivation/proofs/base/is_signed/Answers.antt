use Rattle.std.proofs.Common.{◌<◌, List, length, get_or, sym, ap, subst, ◌∙◌}
use Rattle.gj_frac.specs.Fraction.{numerator}
use Rattle.gj_problem.specs.declared.problem.Constraint.{Constraint}
use Rattle.gj_problem.specs.Problems.{IsConstraint}
use Rattle.gj_derivation.specs.Derivations.{IsSignIn}
use Rattle.gj_derivation.proofs.NamedLines.{one_constraint}
use Rattle.gj_derivation.proofs.base.is_signed.Goals as goal

pub returns-in-Some : goal.returns-in-Some
returns-in-Some c =
    let d = c.in-Some.constraint.now in
    let p = c.args.problem.now in
    let m = c.args.multiplier in
    let h = c.in-Some.ensures.lookup in
    let is : IsConstraint p m.line d = record {
      below = subst (λ (cs : List Constraint). m.line < length cs) c.as_slice.ensures h.3.0;
      is = sym (h.1 ∙ ap (λ (cs : List Constraint). get_or cs m.line d) c.as_slice.ensures);
    } in (
      λ t. (d, is, c.has_sign.ensures.0 t),
      λ (e, e_is, sign).
          c.has_sign.ensures.1
          (subst (λ (x : Constraint). IsSignIn c.args.rule x.sense (numerator m.value))
          (one_constraint p m.line e d e_is is) sign),
    )
