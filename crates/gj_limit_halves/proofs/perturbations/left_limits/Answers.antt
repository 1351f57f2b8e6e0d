use Rattle.std.proofs.Common.{◌≡◌, ◌-◌, ◌+◌, ◌*◌, pos, ◌+ℤ◌, length, get_or, refl, sym, subst, ◌∙◌, rules}
use Rattle.std.proofs.lemmas.Int.{to_z-of_z}
use Rattle.gj_frac.specs.Fraction.{Fits}
use Rattle.gj_shape.specs.Elimination.{at_column}
use Rattle.gj_shape.specs.SlopeRows.{component_in}
use Rattle.gj_limit_system.specs.Unknowns.{limits_from}
use Rattle.gj_perturb.proofs.MovedEntries.{wide}
use Rattle.gj_limit_halves.proofs.ListedNumbers.{listed_more, fits_more, left_here, wide_here}
use Rattle.gj_limit_halves.proofs.perturbations.left_limits.Goals as goal
use mir.Syntax.{w128}

pub loop-i-preserved : goal.loop-i-preserved
loop-i-preserved c =
    let component = c.args.component.now in
    let numbers = c.args.numbers.now in
    let q = length component in
    let i = c.loop-i.i in
    let before = c.wrapped-before.result in
    let x = get_or numbers (2 * (q - 1 - before)) (pos 0) in
    let y = get_or numbers (2 * q - 1 + get_or component before 0) (pos 0) in
    let z = c.in_ok-sum.field-0 in
    let z_read : wide c.in_ok-sum.field-0 ≡ c.in_ok-sum.field-0 = to_z-of_z w128 z (search rules) in
    let here =
    left_here component numbers i before (wide x) (wide y) (wide z) c.wrapped-before.ensures.value
    (to_z-of_z w128 x (search rules)) (to_z-of_z w128 y (search rules))
    (z_read ∙ c.in_ok-sum.ensures.1) in
    let w = limits_from q (component_in component) (at_column numbers) in
    record {
      listed = listed_more w.left c.loop-i.limits.items c.push.new.self.items i
          (wide z) c.loop-i.invariant.listed
          c.in_ok-push.ensures.items here;
      fits = fits_more c.loop-i.limits.items c.push.new.self.items (wide z) c.loop-i.invariant.fits
          c.in_ok-push.ensures.items
          (subst Fits (sym (z_read ∙ c.in_ok-sum.ensures.1)) c.in_ok-sum.ensures.0);
    }

pub returns-in_err-sum-clause-wide : goal.returns-in_err-sum-clause-wide
returns-in_err-sum-clause-wide c =
    let component = c.args.component.now in
    let numbers = c.args.numbers.now in
    let q = length component in
    let i = c.loop-i.i in
    let before = c.wrapped-before.result in
    let x = get_or numbers (2 * (q - 1 - before)) (pos 0) in
    let y = get_or numbers (2 * q - 1 + get_or component before 0) (pos 0) in
    let here =
    left_here component numbers i before (wide x) (wide y)
    (wide x +ℤ wide y) c.wrapped-before.ensures.value
    (to_z-of_z w128 x (search rules)) (to_z-of_z w128 y (search rules)) refl in
    λ is. wide_here component numbers i (wide x +ℤ wide y) c.loop-i-test.true here
    c.in_err-sum.ensures
