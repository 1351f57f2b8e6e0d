use Rattle.std.proofs.Common.{List, get_or, sym, ap, subst, ◌∙◌}
use Rattle.std.proofs.lemmas.Result.{IfOk-weaker, on_ok_weaker}
use Rattle.gj_frac.proofs.Refusals.{on_err_along}
use Rattle.gj_problem.specs.declared.problem.Constraint.{Constraint}
use Rattle.gj_problem.specs.declared.problem.Entry.{Entry}
use Rattle.gj_problem.specs.Problems.{IsConstraint}
use Rattle.gj_derivation.specs.Checks.{IsAdded, IsWideMore, IsWideAddition}
use Rattle.gj_derivation.proofs.CheckedSums.{IsMore, constraint_added}
use Rattle.gj_derivation.proofs.NarrowBases.{narrow_addition}
use Rattle.gj_derivation.proofs.base.add_constraint.Goals as goal

pub returns-clause-added : goal.returns-clause-added
returns-clause-added c =
    let d = c.index-as_slice-multiplier.result in
    let p = c.args.problem.now in
    let m = c.args.multiplier in
    let old = c.args.sum.now in
    let new = c.add.new.self in
    let is : IsConstraint p m.line d = record {
      below = c.requires;
      is = sym (c.index-as_slice-multiplier.is ∙ ap (λ (cs : List Constraint). get_or cs m.line d)
          c.as_slice.ensures);
    } in
    IfOk-weaker c.add.result
    (λ done. IsMore old.coefficients.items new.coefficients.items old.right new.right m.value
    c.as_slice-2.result.now d.right)
    (λ done. IsAdded p m old new)
    (λ done (h : IsMore old.coefficients.items new.coefficients.items old.right new.right m.value
    c.as_slice-2.result.now d.right).
    constraint_added p m d old new is
    (subst (λ (es : List Entry). IsMore old.coefficients.items new.coefficients.items old.right
    new.right m.value es d.right) c.as_slice-2.ensures h))
    c.add.ensures.added

pub returns-clause-wide : goal.returns-clause-wide
returns-clause-wide c =
    let d = c.index-as_slice-multiplier.result in
    let p = c.args.problem.now in
    let m = c.args.multiplier in
    let is : IsConstraint p m.line d = record {
      below = c.requires;
      is = sym (c.index-as_slice-multiplier.is ∙ ap (λ (cs : List Constraint). get_or cs m.line d)
          c.as_slice.ensures);
    } in
    on_err_along c.add.result (IsWideMore c.args.sum.now m.value c.as_slice-2.result.now d.right)
    (IsWideAddition p m c.args.sum.now)
    (λ (wide : IsWideMore c.args.sum.now m.value c.as_slice-2.result.now d.right). (
      d,
      is,
      subst (λ (es : List Entry). IsWideMore c.args.sum.now m.value es d.right)
          c.as_slice-2.ensures wide,
    ))
    c.add.ensures.wide

pub returns-clause-narrow : goal.returns-clause-narrow
returns-clause-narrow c =
    let d = c.index-as_slice-multiplier.result in
    let p = c.args.problem.now in
    let m = c.args.multiplier in
    let is : IsConstraint p m.line d = record {
      below = c.requires;
      is = sym (c.index-as_slice-multiplier.is ∙ ap (λ (cs : List Constraint). get_or cs m.line d)
          c.as_slice.ensures);
    } in
    on_ok_weaker c.add.result
    (λ (narrow : IsWideMore c.args.sum.now m.value c.as_slice-2.result.now d.right → ⊥).
    narrow_addition p m d c.args.sum.now is
    (subst (λ (es : List Entry). IsWideMore c.args.sum.now m.value es d.right → ⊥)
    c.as_slice-2.ensures narrow))
    c.add.ensures.narrow
