use Rattle.std.proofs.Common.{◌≡◌, ℤ, pos, to_z, of_z, inl, inr, ⊎_elim, ◌⊎◌, List, sym, ap, subst, ◌∙◌}
use Rattle.gj_frac.specs.Fraction.{numerator}
use Rattle.gj_frac.proofs.Reduced.{read_part}
use Rattle.gj_fields.specs.Rational.{Rational, rational, ◌+ℚ◌, ◌*ℚ◌, ◌-ℚ◌}
use Rattle.gj_problem.specs.declared.problem.Sense.TheVariants.{Equal}
use Rattle.gj_problem.specs.Problems.{sum_at}
use Rattle.gj_problem.specs.Rows.{dot}
use Rattle.gj_problem.specs.declared.problem.Entry.{Entry}
use Rattle.gj_problem.specs.Steps.{IsWideAt, IsWideWithin}
use Rattle.gj_problem.proofs.WideRoundings.{handed_on}
use Rattle.gj_problem.proofs.AddedSums.{none_weighted}
use Rattle.gj_problem.proofs.slacks.add_weighted.Goals as goal
use mir.Syntax.{w128}

pub returns-then-num-eq0-clause-sum : goal.returns-then-num-eq0-clause-sum
returns-then-num-eq0-clause-sum c =
    let m = c.args.multiplier in
    let none : m.num ≡ pos 0 =
    sym (read_part m.num m.lowest.num_fits)
    ∙ ap (λ (z : ℤ). to_z w128 (of_z w128 z)) (sym c.num.ensures)
    ∙ ap (to_z w128) c.if-num-eq0.true in
    λ (point : List Rational).
    let k = c.args.constraint.now in
    let old = c.args.made.now.sum in
    none_weighted m (dot old.coefficients.items point -ℚ rational old.right)
    (sum_at point k.entries -ℚ rational k.right) none

pub returns-clause-slack : goal.returns-clause-slack
returns-clause-slack c =
    let some : numerator c.args.multiplier ≡ pos 0 →
    ⊥ = λ none. c.if-num-eq0.false (ap (of_z w128) (c.num.ensures ∙ none)) in
    let unequal : c.args.constraint.now.sense ≡ Equal → ⊥ = λ equal. let t =
    c.is_equation.ensures.1 equal in absurd (cc) in
    inr (
      λ passed. ⊎_elim some unequal passed,
      c.in_ok-piece.piece,
      c.in_ok-piece.ensures.slack,
      c.in_ok-push.ensures.items,
    )

pub returns-in_err-add-clause-wide : goal.returns-in_err-add-clause-wide
returns-in_err-add-clause-wide c = λ fault.
    let m = c.args.multiplier in
    let k = c.args.constraint.now in
    let sum = c.args.made.now.sum in
    record {
      named = λ none. c.if-num-eq0.false (ap (of_z w128) (c.num.ensures ∙ none));
      wide = inl (subst (λ (es : List Entry). IsWideWithin sum.coefficients.items m es
          ⊎ IsWideAt sum.right m k.right) c.as_slice.ensures
          c.in_err-add.ensures.wide);
    }

pub returns-in_err-piece-clause-wide : goal.returns-in_err-piece-clause-wide
returns-in_err-piece-clause-wide c = λ fault.
    let some : numerator c.args.multiplier ≡ pos 0 →
    ⊥ = λ none. c.if-num-eq0.false (ap (of_z w128) (c.num.ensures ∙ none)) in
    let unequal : c.args.constraint.now.sense ≡ Equal → ⊥ = λ equal. let t =
    c.is_equation.ensures.1 equal in absurd (cc) in
    record {
      named = some;
      wide = inr (
        λ passed. ⊎_elim some unequal passed,
        c.in_err-piece.ensures.wide
            (handed_on c.from_residual-in_err-piece.result _ _
            c.from_residual-in_err-piece.ensures.1 fault),
      );
    }

pub returns-clause-sum : goal.returns-clause-sum
returns-clause-sum c = λ (point : List Rational).
    let k = c.args.constraint.now in
    let sum = c.args.made.now.sum in
    c.in_ok-add.ensures.added point
    ∙ ap (λ (es : List Entry). (dot sum.coefficients.items point -ℚ rational sum.right)
    +ℚ rational c.args.multiplier *ℚ (sum_at point es -ℚ rational k.right)) c.as_slice.ensures

pub returns-then-is_equation-clause-narrow : goal.returns-then-is_equation-clause-narrow
returns-then-is_equation-clause-narrow c w =
    let m = c.args.multiplier in
    let k = c.args.constraint.now in
    let sum = c.args.made.now.sum in
    let equal : k.sense ≡ Equal = c.is_equation.ensures.0 c.if-is_equation.true in
    ⊎_elim
    (subst (λ (es : List Entry). IsWideWithin sum.coefficients.items m es
    ⊎ IsWideAt sum.right m k.right → ⊥) c.as_slice.ensures
    c.in_ok-add.ensures.narrow)
    (λ a. a.0 (inr equal)) w.wide

pub returns-clause-narrow : goal.returns-clause-narrow
returns-clause-narrow c w =
    let m = c.args.multiplier in
    let k = c.args.constraint.now in
    let sum = c.args.made.now.sum in
    ⊎_elim
    (subst (λ (es : List Entry). IsWideWithin sum.coefficients.items m es
    ⊎ IsWideAt sum.right m k.right → ⊥) c.as_slice.ensures
    c.in_ok-add.ensures.narrow)
    (λ a. c.in_ok-piece.ensures.narrow a.1) w.wide
