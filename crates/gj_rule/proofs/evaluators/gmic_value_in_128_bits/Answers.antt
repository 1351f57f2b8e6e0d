use Rattle.std.proofs.Common.{rules, ◌≤◌, ◌^◌, ℤ, ◌*ℤ◌, ◌-ℤ◌, ◌≤ℤ◌, ◌<ℤ◌, unsigned_abs, ap₂, subst₂, refl, sym, ◌∙◌, arith}
use Rattle.std.proofs.lemmas.Int.{ints}
use Rattle.gj_frac.specs.Fraction.{IsRatio}
use Rattle.gj_rule.proofs.ClosedForm.{reads_as, rest_parts, rest_fine, parts_read, product_read, difference_read, place_positive, place_below, rising_value, falling_value}
use Rattle.gj_rule.proofs.evaluators.gmic_value_in_128_bits.Goals as goal

-- the parts of the rest are small
pub product-part-requires-clause-n_small : goal.product-part-requires-clause-n_small
product-part-requires-clause-n_small c =
    let rest = c.fract-rest.result in
    let fine : unsigned_abs rest.den ≤ 2 ^ 62 =
    rest_fine c.args.x rest (rest_parts c.args.x rest c.fract-rest.ensures.value)
    c.requires.x_fine in
    let low = c.fract-rest.ensures.not_negative in
    let high = c.fract-rest.ensures.below_one in
    let num = reads_as c.num.result rest.num c.num.ensures rest.lowest.num_fits in
    rw num (omega (arith, ints))

pub product-place-requires-clause-m_small : goal.product-place-requires-clause-m_small
product-place-requires-clause-m_small c =
    let rest = c.fract-rest.result in
    let den = reads_as c.den-2.result rest.den c.den-2.ensures rest.lowest.den_fits in
    rw den (rest_fine c.args.x rest (rest_parts c.args.x rest c.fract-rest.ensures.value)
    c.requires.x_fine)

pub product-one-requires-clause-n_small : goal.product-one-requires-clause-n_small
product-one-requires-clause-n_small c =
    let rest = c.fract-rest.result in
    let den = reads_as c.den-3.result rest.den c.den-3.ensures rest.lowest.den_fits in
    rw den (rest_fine c.args.x rest (rest_parts c.args.x rest c.fract-rest.ensures.value)
    c.requires.x_fine)

-- the place is not 0, and not 1
pub reduced-rising-requires-clause-zero : goal.reduced-rising-requires-clause-zero
reduced-rising-requires-clause-zero c =
    let f = c.args.f in
    let rest = c.fract-rest.result in
    let place = parts_read c.product-place.result c.num-2.result c.den-2.result f rest
    c.num-2.ensures c.den-2.ensures c.product-place.ensures.value in
    let size = c.product-place.ensures.fits in
    let some = place_positive f rest c.requires.inside.0 in
    rw (reads_as c.product-place.result (f.num *ℤ rest.den) place (rw (sym place) (omega arith)))
    (omega (arith, ints))

pub reduced-falling-requires-clause-zero : goal.reduced-falling-requires-clause-zero
reduced-falling-requires-clause-zero c =
    let f = c.args.f in
    let rest = c.fract-rest.result in
    let place = parts_read c.product-place.result c.num-2.result c.den-2.result f rest
    c.num-2.ensures c.den-2.ensures c.product-place.ensures.value in
    let one = product_read c.product-one.result c.den-3.result c.den-4.result rest.den f.den
    c.den-3.ensures c.den-4.ensures rest.lowest.den_fits
    f.lowest.den_fits c.product-one.ensures.value in
    let below = place_below f rest c.requires.inside.1 in
    rw (
      difference_read c.product-one.result c.product-place.result c.product-one.ensures.fits
          c.product-place.ensures.fits,
      one,
      place,
    )
    (omega (arith, ints))

-- the differences fit
pub overflow_sub-one : goal.overflow_sub-one
overflow_sub-one c =
    let one_small = c.product-one.ensures.fits in
    let part_small = c.product-part.ensures.fits in
    let one = reads_as c.product-one.result c.product-one.result refl (omega arith) in
    let part = reads_as c.product-part.result c.product-part.result refl (omega arith) in
    search rules

pub overflow_sub-one-2 : goal.overflow_sub-one-2
overflow_sub-one-2 c =
    let one_small = c.product-one.ensures.fits in
    let place_small = c.product-place.ensures.fits in
    let one = reads_as c.product-one.result c.product-one.result refl (omega arith) in
    let place = reads_as c.product-place.result c.product-place.result refl (omega arith) in
    search rules

pub reduced-falling-requires-clause-num_fits : goal.reduced-falling-requires-clause-num_fits
reduced-falling-requires-clause-num_fits c =
    let one_small = c.product-one.ensures.fits in
    let part_small = c.product-part.ensures.fits in
    rw (difference_read c.product-one.result c.product-part.result one_small part_small)
    (omega (arith, ints))

pub reduced-falling-requires-clause-den_fits : goal.reduced-falling-requires-clause-den_fits
reduced-falling-requires-clause-den_fits c =
    let one_small = c.product-one.ensures.fits in
    let place_small = c.product-place.ensures.fits in
    rw (difference_read c.product-one.result c.product-place.result one_small place_small)
    (omega (arith, ints))

pub returns-then-part-place : goal.returns-then-part-place
returns-then-part-place c =
    let f = c.args.f in
    let rest = c.fract-rest.result in
    let part = parts_read c.product-part.result c.num.result c.den.result rest f c.num.ensures
    c.den.ensures c.product-part.ensures.value in
    let place = parts_read c.product-place.result c.num-2.result c.den-2.result f rest
    c.num-2.ensures c.den-2.ensures c.product-place.ensures.value in
    let part_small = c.product-part.ensures.fits in
    let place_small = c.product-place.ensures.fits in
    let part_read = reads_as c.product-part.result (rest.num *ℤ f.den) part
    (rw (sym part) (omega arith)) in
    let place_read = reads_as c.product-place.result (f.num *ℤ rest.den) place
    (rw (sym place) (omega arith)) in
    let here = c.if-part-place.true in
    let low : (rest.num *ℤ f.den) ≤ℤ (f.num *ℤ rest.den) = subst₂ (λ (a b : ℤ). a ≤ℤ b) part_read
    place_read (omega (arith, ints)) in
    rising_value f c.args.x c.reduced-rising.result rest.num rest.den (rest_parts c.args.x rest
    c.fract-rest.ensures.value) (λ above. omega (arith, ints))
    (subst₂ (IsRatio c.reduced-rising.result) part_read place_read c.reduced-rising.ensures)

pub returns : goal.returns
returns c =
    let f = c.args.f in
    let rest = c.fract-rest.result in
    let part = parts_read c.product-part.result c.num.result c.den.result rest f c.num.ensures
    c.den.ensures c.product-part.ensures.value in
    let place = parts_read c.product-place.result c.num-2.result c.den-2.result f rest
    c.num-2.ensures c.den-2.ensures c.product-place.ensures.value in
    let one = product_read c.product-one.result c.den-3.result c.den-4.result rest.den f.den
    c.den-3.ensures c.den-4.ensures rest.lowest.den_fits
    f.lowest.den_fits c.product-one.ensures.value in
    let one_small = c.product-one.ensures.fits in
    let part_small = c.product-part.ensures.fits in
    let place_small = c.product-place.ensures.fits in
    let part_read = reads_as c.product-part.result (rest.num *ℤ f.den) part
    (rw (sym part) (omega arith)) in
    let place_read = reads_as c.product-place.result (f.num *ℤ rest.den) place
    (rw (sym place) (omega arith)) in
    let here = c.if-part-place.false in
    let high : (f.num *ℤ rest.den) <ℤ (rest.num *ℤ f.den) = subst₂ (λ (a b : ℤ). a <ℤ b) place_read
    part_read (omega (arith, ints)) in
    falling_value f c.args.x c.reduced-falling.result rest.num rest.den (rest_parts c.args.x rest
    c.fract-rest.ensures.value) high
    (subst₂ (IsRatio c.reduced-falling.result)
    (difference_read c.product-one.result c.product-part.result one_small part_small ∙
    ap₂ (λ a b. a -ℤ b) one part)
    (difference_read c.product-one.result c.product-place.result one_small place_small ∙
    ap₂ (λ a b. a -ℤ b) one place)
    c.reduced-falling.ensures)
