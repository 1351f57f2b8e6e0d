use Rattle.std.proofs.Common.{⊎_elim, inl, inr, List, refl, subst, subst₂}
use Rattle.gj_frac.specs.declared.Frac.{Frac}
use Rattle.gj_problem.specs.declared.bounds.Turned.{Turned}
use Rattle.gj_problem.specs.declared.problem.Column.{Column}
use Rattle.gj_problem.specs.declared.problem.Constraint.{Constraint}
use Rattle.gj_problem.specs.Aggregates.{AreMadeOf, HasNoSlack, IsSlack, IsAggregate, weighted, held}
use Rattle.gj_problem.specs.Steps.{AreTurned, AreTurnedOrFree}
use Rattle.gj_problem.specs.WideRows.{IsWideSum, AreWideTurns}
use Rattle.gj_problem.proofs.WideRoundings.{handed_on}
use Rattle.gj_problem.proofs.OneRow.{one_sum}
use Rattle.gj_problem.proofs.row.row_of.Goals as goal

pub returns-in-Bounds-clause-row : goal.returns-in-Bounds-clause-row
returns-in-Bounds-clause-row c =
    let p = c.args.problem.now in
    let ms = c.args.multipliers.now in
    let ups = c.args.at_upper.now in
    let sum = c.in_ok-sum.field-0.sum in
    let slacks = c.in_ok-sum.field-0.slacks in
    let made = c.in-Bounds.field-0 in
    let turned : AreTurned (held 0 p.columns sum.coefficients.items ups) sum.right made.pieces.items
    made.right =
    subst (λ (t : Turned). AreTurnedOrFree (held 0 p.columns sum.coefficients.items ups) sum.right
    t) c.in-Bounds.is
    (subst₂ (λ (ds : List Column) (cs : List Frac). AreTurnedOrFree
    (held 0 ds cs ups) sum.right c.in_ok-turned.turned)
    c.as_slice.ensures c.as_slice-2.ensures.value c.in_ok-turned.ensures.turned) in
    record {
      coefficients = sum.coefficients.items;
      against = sum.right;
      sum = subst (λ (ks : List Constraint). IsAggregate p (weighted ms ks) sum.coefficients.items
          sum.right) c.as_slice-constraints.ensures
          c.in_ok-sum.ensures.sum;
      slacks = slacks.items;
      bounds = made.pieces.items;
      pieces_are = refl;
      slacks_are = subst (λ (ks : List Constraint). AreMadeOf HasNoSlack (IsSlack p)
          (weighted ms ks) slacks.items) c.as_slice-constraints.ensures
          c.in_ok-sum.ensures.slacks;
      bounds_are = turned.made;
      right_is = turned.right_is;
    }

pub returns-clause-row : goal.returns-clause-row
returns-clause-row c =
    let p = c.args.problem.now in
    let ms = c.args.multipliers.now in
    let ups = c.args.at_upper.now in
    let sum = c.in_ok-sum.field-0.sum in
    record {
      coefficients = sum.coefficients.items;
      against = sum.right;
      sum = subst (λ (ks : List Constraint). IsAggregate p (weighted ms ks) sum.coefficients.items
          sum.right) c.as_slice-constraints.ensures
          c.in_ok-sum.ensures.sum;
      first = subst (λ (t : Turned). AreTurnedOrFree (held 0 p.columns sum.coefficients.items ups)
          sum.right t) c.in-Free.is
          (subst₂ (λ (ds : List Column) (cs : List Frac). AreTurnedOrFree
          (held 0 ds cs ups) sum.right c.in_ok-turned.turned)
          c.as_slice.ensures c.as_slice-2.ensures.value c.in_ok-turned.ensures.turned);
    }

pub returns-in_err-sum-clause-wide : goal.returns-in_err-sum-clause-wide
returns-in_err-sum-clause-wide c = λ fault.
    inl (subst (λ (ks : List Constraint). IsWideSum c.args.problem.now
    (weighted c.args.multipliers.now ks)) c.as_slice-constraints.ensures
    (c.in_err-sum.ensures.wide
    (handed_on c.from_residual.result _ _ c.from_residual.ensures.1 fault)))

pub returns-in_err-turned-clause-wide : goal.returns-in_err-turned-clause-wide
returns-in_err-turned-clause-wide c = λ fault.
    let p = c.args.problem.now in
    let ms = c.args.multipliers.now in
    let ups = c.args.at_upper.now in
    let sum = c.in_ok-sum.field-0.sum in
    inr (
      sum.coefficients.items,
      sum.right,
      subst (λ (ks : List Constraint). IsAggregate p (weighted ms ks) sum.coefficients.items
          sum.right) c.as_slice-constraints.ensures
          c.in_ok-sum.ensures.sum,
      subst₂ (λ (ds : List Column) (cs : List Frac). AreWideTurns (held 0 ds cs ups) sum.right)
          c.as_slice.ensures c.as_slice-2.ensures.value
          (c.in_err-turned.ensures.wide
          (handed_on c.from_residual-in_err-turned.result _ _
          c.from_residual-in_err-turned.ensures.1 fault)),
    )

pub returns-in-Bounds-clause-narrow : goal.returns-in-Bounds-clause-narrow
returns-in-Bounds-clause-narrow c =
    let p = c.args.problem.now in
    let ms = c.args.multipliers.now in
    let ups = c.args.at_upper.now in
    let sum = c.in_ok-sum.field-0.sum in
    ⊎_elim
    (subst (λ (ks : List Constraint). IsWideSum p (weighted ms ks) →
    ⊥) c.as_slice-constraints.ensures c.in_ok-sum.ensures.narrow)
    (λ (k : (cs : List Frac) × (r : Frac) × IsAggregate p (weighted ms p.constraints) cs r × AreWideTurns (held 0 p.columns cs ups) r).
    let made : IsAggregate p (weighted ms p.constraints) sum.coefficients.items sum.right =
    subst (λ (ks : List Constraint). IsAggregate p (weighted ms ks) sum.coefficients.items
    sum.right) c.as_slice-constraints.ensures
    c.in_ok-sum.ensures.sum in
    let same = one_sum p (weighted ms p.constraints) k.0 sum.coefficients.items k.1 sum.right k.2
    made in
    subst₂ (λ (ds : List Column) (cs : List Frac). AreWideTurns (held 0 ds cs ups) sum.right →
    ⊥) c.as_slice.ensures c.as_slice-2.ensures.value
    c.in_ok-turned.ensures.narrow
    (subst₂ (λ (cs : List Frac) (r : Frac). AreWideTurns (held 0 p.columns cs ups) r) same.0 same.1
    k.3))

pub returns-clause-narrow : goal.returns-clause-narrow
returns-clause-narrow c =
    let p = c.args.problem.now in
    let ms = c.args.multipliers.now in
    let ups = c.args.at_upper.now in
    let sum = c.in_ok-sum.field-0.sum in
    ⊎_elim
    (subst (λ (ks : List Constraint). IsWideSum p (weighted ms ks) →
    ⊥) c.as_slice-constraints.ensures c.in_ok-sum.ensures.narrow)
    (λ (k : (cs : List Frac) × (r : Frac) × IsAggregate p (weighted ms p.constraints) cs r × AreWideTurns (held 0 p.columns cs ups) r).
    let made : IsAggregate p (weighted ms p.constraints) sum.coefficients.items sum.right =
    subst (λ (ks : List Constraint). IsAggregate p (weighted ms ks) sum.coefficients.items
    sum.right) c.as_slice-constraints.ensures
    c.in_ok-sum.ensures.sum in
    let same = one_sum p (weighted ms p.constraints) k.0 sum.coefficients.items k.1 sum.right k.2
    made in
    subst₂ (λ (ds : List Column) (cs : List Frac). AreWideTurns (held 0 ds cs ups) sum.right →
    ⊥) c.as_slice.ensures c.as_slice-2.ensures.value
    c.in_ok-turned.ensures.narrow
    (subst₂ (λ (cs : List Frac) (r : Frac). AreWideTurns (held 0 p.columns cs ups) r) same.0 same.1
    k.3))
