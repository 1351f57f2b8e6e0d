use Rattle.std.proofs.Common.{◌≡◌, ◌-ℤ◌, ◌*ℤ◌, pos, sym, ap, ap₂, subst₂, ◌∙◌, arith}
use Rattle.std.proofs.lemmas.Int.{ints}
use Rattle.gj_frac.specs.Fraction.{IsRatio}
use Rattle.gj_lemmas.proofs.Integers.{one_mul_z}
use Rattle.gj_rule.proofs.ClosedForm.{read, reads_as}
use Rattle.gj_mixed.proofs.SlopeParts.{slope_over}
use Rattle.gj_mixed.proofs.slopes.SlopesAtZero.of_gmic.Goals as goal

-- 1/f and 1/(1 - f), as the code makes them
pub returns-clause-slopes : goal.returns-clause-slopes
returns-clause-slopes c =
    let f = c.args.f in
    let up = c.quotient.result in
    let down = c.quotient-2.result in
    let d = reads_as c.den-d.result f.den c.den-d.ensures f.lowest.den_fits in
    let p = reads_as c.num.result f.num c.num.ensures f.lowest.num_fits in
    let n = reads_as c.num-2.result f.num c.num-2.ensures f.lowest.num_fits in
    let inside = c.requires.0 in
    let fine = c.requires.1 in
    let rest : read (read c.den-d.result -ℤ read c.num-2.result) ≡ f.den -ℤ f.num =
    reads_as (read c.den-d.result -ℤ read c.num-2.result) (f.den -ℤ f.num) (ap₂ (λ a b. a -ℤ b) d n)
    (omega (arith, ints, inside.0, inside.1)) in
    let one_times : f.den ≡ pos 1 *ℤ f.den = sym (one_mul_z f.den) in
    let ones : f.den -ℤ f.num ≡ pos 1 *ℤ f.den -ℤ f.num *ℤ pos 1 = omega (arith, ints) in
    record {
      up_is = subst₂ (λ a b. IsRatio up (pos 1 *ℤ a) (pos 1 *ℤ b)) d p c.quotient.ensures;
      down_is = subst₂ (λ a b. IsRatio down (pos 1 *ℤ a) (pos 1 *ℤ b)) (d ∙ one_times) (rest ∙ ones)
          c.quotient-2.ensures;
    }

pub returns-clause-up : goal.returns-clause-up
returns-clause-up c =
    let f = c.args.f in
    let d = reads_as c.den-d.result f.den c.den-d.ensures f.lowest.den_fits in
    let p = reads_as c.num.result f.num c.num.ensures f.lowest.num_fits in
    let inside = c.requires.0 in
    let fine = c.requires.1 in
    slope_over c.quotient.result f.den f.num (omega (arith, ints, inside.0, inside.1)) inside.0
    (omega (arith, ints))
    (omega (arith, ints, inside.0, inside.1))
    (subst₂ (IsRatio c.quotient.result) (ap (λ z. pos 1 *ℤ z) d ∙ one_mul_z f.den)
    (ap (λ z. pos 1 *ℤ z) p ∙ one_mul_z f.num) c.quotient.ensures)

pub returns-clause-down : goal.returns-clause-down
returns-clause-down c =
    let f = c.args.f in
    let d = reads_as c.den-d.result f.den c.den-d.ensures f.lowest.den_fits in
    let p = reads_as c.num-2.result f.num c.num-2.ensures f.lowest.num_fits in
    let inside = c.requires.0 in
    let fine = c.requires.1 in
    let rest : read (read c.den-d.result -ℤ read c.num-2.result) ≡ f.den -ℤ f.num =
    reads_as (read c.den-d.result -ℤ read c.num-2.result) (f.den -ℤ f.num) (ap₂ (λ a b. a -ℤ b) d p)
    (omega (arith, ints, inside.0, inside.1)) in
    slope_over c.quotient-2.result f.den (f.den -ℤ f.num) (omega (arith, ints, inside.0, inside.1))
    (omega (arith, ints, inside.1))
    (omega (arith, ints)) (omega (arith, ints, inside.0, inside.1))
    (subst₂ (IsRatio c.quotient-2.result) (ap (λ z. pos 1 *ℤ z) d ∙ one_mul_z f.den)
    (ap (λ z. pos 1 *ℤ z) rest ∙ one_mul_z (f.den -ℤ f.num))
    c.quotient-2.ensures)
