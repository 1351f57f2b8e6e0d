use Rattle.std.proofs.Common.{◌≡◌, pos, ◌-ℤ◌, ◌*ℤ◌, to_z, of_z, ap₂, subst₂, ◌∙◌, rules}
use mir.Syntax.{w128}
use Rattle.gj_frac.specs.Fraction.{IsRatio, numerator, denominator}
use Rattle.gj_check.proofs.ShownPoints.{one_fine, one_small}
use Rattle.gj_check.proofs.Ratios.{difference_read}
use Rattle.gj_check.proofs.points.scaled_opposite.Goals as goal

pub times-requires : goal.times-requires
times-requires c =
    let read : to_z w128 (of_z w128 c.den.result) ≡ denominator c.args.x = search rules in
    rw read (one_fine c.args.x c.requires)

pub times-requires-2 : goal.times-requires-2
times-requires-2 c =
    let read : to_z w128 (of_z w128 c.num.result) ≡ numerator c.args.x = search rules in
    rw read (one_small c.args.x c.requires)

pub returns : goal.returns
returns c =
    let den : to_z w128 (of_z w128 c.den.result) ≡ denominator c.args.x = search rules in
    let num : to_z w128 (of_z w128 c.num.result) ≡ numerator c.args.x = search rules in
    let bottom : to_z w128 (of_z w128 c.den-2.result) ≡ denominator c.args.x = search rules in
    let first = c.times.ensures.value ∙ ap₂ (λ a b. a *ℤ pos b) den c.place.ensures.value in
    let second = c.times-2.ensures.value ∙ ap₂ (λ a b. a *ℤ pos b) num c.order.ensures.value in
    subst₂ (λ a b. IsRatio c.reduced.result a b)
    (difference_read c.times.result c.times-2.result c.times.ensures.fits c.times-2.ensures.fits
    ∙ ap₂ (λ a b. a -ℤ b) first second)
    bottom c.reduced.ensures
