use Rattle.std.proofs.Common.{◌≡◌, ◌+◌, ◌*◌, pos, to_z, of_z, sym, ap, ap₂, subst₂, refl, ◌∙◌, rules}
use Rattle.std.proofs.lemmas.Int.{to_z-of_z}
use Rattle.gj_frac.specs.Fraction.{IsRatio}
use Rattle.gj_lemmas.proofs.Quotients.{parts_of_place}
use Rattle.gj_shape.specs.Refinement.{entry_or_value}
use Rattle.gj_shape.specs.Table.{table, entry}
use Rattle.gj_shape.specs.Values.{IsCongruent}
use Rattle.gj_shape.proofs.ValueLemmas.{entry_of_values, value_from_place}
use Rattle.gj_shape.proofs.GridDenominators.{scale_low, scaled_fits, scaled_read, scaled_some, scaled_below, read_below}
use Rattle.gj_shape.proofs.shape.Shape.value_on_grid.Goals as goal
use mir.Syntax.{w128}

pub returns : goal.returns
unfolding table
returns c =
    let f = c.args.self.now in
    let d = c.args.steps in
    let index = c.place_within-index.result.0 in
    let rest = c.place_within-index.result.1 in
    let place = index * d + rest in
    let parts = parts_of_place place index d rest refl c.place_within-index.ensures.remainder in
    let read : c.entry_or_value-numerator.result ≡ table f d place =
    c.entry_or_value-numerator.ensures.value
    ∙ ap (λ xs. entry_or_value f xs d index rest) c.value_numerators.ensures.value
    ∙ entry_of_values f d index rest ∙ sym (ap₂ (entry f d) parts.0 parts.1) in
    let numerator : to_z w128 (of_z w128 c.entry_or_value-numerator.result) ≡ table f d place =
    to_z-of_z w128 c.entry_or_value-numerator.result (search rules) ∙ read in
    let congruent : IsCongruent c.args.n (pos place) (f.order * d) =
    subst₂ (λ n q. IsCongruent n (pos place) (q * d))
    (to_z-of_z w128 c.args.n c.ranges.n) c.order.ensures.value
    c.place_within-index.ensures.congruent in
    let limits = c.order.ensures.limits in
    let denominator = scaled_read c.common_denominator.result c.from.result f.scale d
    c.common_denominator.ensures.value c.from.ensures
    (scale_low f limits) c.requires.few in
    value_from_place f c.args.n d place c.reduced.result limits c.requires.some congruent
    (subst₂ (λ x y. IsRatio c.reduced.result x y) numerator denominator c.reduced.ensures)

pub overflow_mul-common_denominator : goal.overflow_mul-common_denominator
overflow_mul-common_denominator c =
    let f = c.args.self.now in
    scaled_fits c.common_denominator.result c.from.result f.scale c.args.steps
    c.common_denominator.ensures.value c.from.ensures
    (scale_low f c.order.ensures.limits) c.requires.few

pub reduced-requires-clause-zero : goal.reduced-requires-clause-zero
reduced-requires-clause-zero c =
    let f = c.args.self.now in
    let limits = c.order.ensures.limits in
    scaled_some c.common_denominator.result c.from.result f.scale c.args.steps
    c.common_denominator.ensures.value c.from.ensures
    (scale_low f limits) c.requires.few limits.scale_low c.requires.some

pub reduced-requires-clause-num_fits : goal.reduced-requires-clause-num_fits
reduced-requires-clause-num_fits c =
    read_below c.entry_or_value-numerator.result c.entry_or_value-numerator.ensures.fits

pub reduced-requires-clause-den_fits : goal.reduced-requires-clause-den_fits
reduced-requires-clause-den_fits c =
    let f = c.args.self.now in
    scaled_below c.common_denominator.result c.from.result f.scale c.args.steps
    c.common_denominator.ensures.value c.from.ensures
    (scale_low f c.order.ensures.limits) c.requires.few
