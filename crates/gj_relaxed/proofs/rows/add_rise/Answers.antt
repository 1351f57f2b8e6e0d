use Rattle.std.proofs.Common.{◌≡◌, ◌⊎◌, inr, List, ℤ, pos, to_z, of_z, refl, sym, ap, subst, ◌∙◌}
use Rattle.gj_frac.specs.Fraction.{numerator}
use Rattle.gj_frac.proofs.Reduced.{read_part}
use Rattle.gj_frac.proofs.Refusals.{on_err}
use Rattle.gj_fields.specs.Rational.{rational, ◌+ℚ◌, ◌*ℚ◌, ◌-ℚ◌}
use Rattle.gj_problem.specs.declared.problem.Entry.{Entry}
use Rattle.gj_problem.specs.Problems.{sum_at, surplus_at}
use Rattle.gj_problem.specs.Steps.{IsWideAt, IsWideWithin}
use Rattle.gj_problem.proofs.AddedSums.{none_weighted}
use Rattle.gj_safe_cut.specs.AddedTerms.{surplus_of_sum}
use Rattle.gj_relaxed.specs.RelaxedRows.{IsWideRise}
use Rattle.gj_relaxed.proofs.RowGaps.{difference_value}
use Rattle.gj_relaxed.proofs.NarrowGaps.{narrow_rise}
use Rattle.gj_relaxed.proofs.rows.add_rise.Goals as goal
use mir.Syntax.{w128}

pub returns-in_err-add-clause-wide : goal.returns-in_err-add-clause-wide
returns-in_err-add-clause-wide c =
    let s = c.args.piece.now in
    let sum = c.args.sum.now in
    let rise = c.in_ok-rise.rise in
    on_err c.from_residual-in_err-add.result
    (IsWideRise sum.coefficients.items sum.right s c.args.entry)
    (inr (
      rise,
      difference_value c.args.entry s.entry rise c.in_ok-rise.ensures.value,
      λ none. c.if-num-ne0.true (ap (of_z w128) (c.num.ensures ∙ none)),
      subst (λ (es : List Entry). IsWideWithin sum.coefficients.items rise es
          ⊎ IsWideAt sum.right rise s.inequality.right) c.as_slice.ensures
          c.in_err-add.ensures.wide,
    ))

pub returns-in_ok-add-clause-rise : goal.returns-in_ok-add-clause-rise
returns-in_ok-add-clause-rise c =
    let s = c.args.piece.now in
    let rise = c.in_ok-rise.rise in
    record {
      count = c.in_ok-add.ensures.count;
      adds = λ point.
          subst
          (λ (es : List Entry). surplus_of_sum c.add.new.self point
          ≡ surplus_of_sum c.args.sum.now point +ℚ rational rise
          *ℚ (sum_at point es -ℚ rational s.inequality.right)) c.as_slice.ensures
          (c.in_ok-add.ensures.added point)
          ∙ ap (λ w. surplus_of_sum c.args.sum.now point +ℚ w *ℚ surplus_at point s.inequality)
          (difference_value c.args.entry s.entry rise c.in_ok-rise.ensures.value);
    }

pub returns-in_ok-add-clause-narrow : goal.returns-in_ok-add-clause-narrow
returns-in_ok-add-clause-narrow c =
    let s = c.args.piece.now in
    let sum = c.args.sum.now in
    let rise = c.in_ok-rise.rise in
    narrow_rise sum.coefficients.items sum.right c.args.entry rise s c.in_ok-rise.ensures.fits
    (difference_value c.args.entry s.entry rise c.in_ok-rise.ensures.value)
    (λ some.
    subst (λ (es : List Entry). IsWideWithin sum.coefficients.items rise es
    ⊎ IsWideAt sum.right rise s.inequality.right → ⊥) c.as_slice.ensures
    c.in_ok-add.ensures.narrow)

pub returns-else-num-ne0-clause-rise : goal.returns-else-num-ne0-clause-rise
returns-else-num-ne0-clause-rise c =
    let s = c.args.piece.now in
    let rise = c.in_ok-rise.rise in
    let none : numerator rise ≡ pos 0 =
    sym (read_part rise.num rise.lowest.num_fits)
    ∙ ap (λ (z : ℤ). to_z w128 (of_z w128 z)) (sym c.num.ensures)
    ∙ ap (to_z w128) c.if-num-ne0.false in
    record {
      count = refl;
      adds = λ point.
          none_weighted rise (surplus_of_sum c.args.sum.now point)
          (surplus_at point s.inequality) none
          ∙ ap (λ w. surplus_of_sum c.args.sum.now point +ℚ w *ℚ surplus_at point s.inequality)
          (difference_value c.args.entry s.entry rise c.in_ok-rise.ensures.value);
    }

pub returns-else-num-ne0-clause-narrow : goal.returns-else-num-ne0-clause-narrow
returns-else-num-ne0-clause-narrow c =
    let s = c.args.piece.now in
    let sum = c.args.sum.now in
    let rise = c.in_ok-rise.rise in
    let none : numerator rise ≡ pos 0 =
    sym (read_part rise.num rise.lowest.num_fits)
    ∙ ap (λ (z : ℤ). to_z w128 (of_z w128 z)) (sym c.num.ensures)
    ∙ ap (to_z w128) c.if-num-ne0.false in
    narrow_rise sum.coefficients.items sum.right c.args.entry rise s c.in_ok-rise.ensures.fits
    (difference_value c.args.entry s.entry rise c.in_ok-rise.ensures.value)
    (λ some. absurd (some none))
