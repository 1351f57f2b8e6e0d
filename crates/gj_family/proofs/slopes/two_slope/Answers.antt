use Rattle.std.proofs.Common.{◌≡◌, ◌<◌, ◌≤◌, ℕ, ℤ, pos, ◌<ℤ◌, ◌≤ℤ◌, ◌^◌, unsigned_abs, length, w64, to_z, of_z, refl, sym, ap₂, subst, ◌∙◌, arith}
use Rattle.std.proofs.lemmas.Int.{ints, to_z-of_z, fits_signed_from_abs}
use Rattle.gj_family.specs.Signs.{rises, falls, sum_of_steps, height as height_of}
use Rattle.gj_shape.specs.Given.{IsPlace}
use Rattle.gj_shape.proofs.ListEntries.{entries_small}
use Rattle.gj_family.proofs.Heights.{sum_small, counts_small}
use Rattle.gj_family.proofs.Shapes.{heights_are, two_slope_over}
use Rattle.gj_family.proofs.slopes.two_slope.Goals as goal
use Rattle.gj_family.proofs.slopes.two_slope.Goals.{then-k-eq0-via-then-k-eq0, then-k-eq0-via-else-k-eq0+then-k-signs, then-up-eq0-via-then-up-eq0, then-up-eq0-via-else-up-eq0+then-down-eq0, then-up-eq0-via-else-up-eq0+else-down-eq0+then-height-le0}

-- a count that is 0 is not above it
no_falls : (n m : ℕ) → n ≡ m → n ≡ 0 → 0 < m → ⊥
no_falls n m same none some = absurd (omega arith)

-- nor is a height
not_up : (y z : ℤ) → y ≡ z → y ≤ℤ pos 0 → pos 0 <ℤ z → ⊥
not_up y z same low up =
    let above : pos 0 <ℤ y = subst (λ (x : ℤ). pos 0 <ℤ x) (sym same) up in
    absurd (omega (arith, ints))

-- the height is read as it is
height_read : (z : ℤ) → unsigned_abs z ≤ 1000000 → to_z w64 (of_z w64 z) ≡ z
height_read z small = to_z-of_z w64 z (fits_signed_from_abs w64 z (omega arith))

height_low : (z : ℤ) → unsigned_abs z ≤ 1000000 → pos 0 <ℤ z →
    0 < unsigned_abs (to_z w64 (of_z w64 z))
height_low z small up =
    let some : 0 < unsigned_abs z = omega (arith, ints) in
    subst (λ (y : ℤ). 0 < unsigned_abs y) (sym (height_read z small)) some

height_high : (z : ℤ) → unsigned_abs z ≤ 1000000 → unsigned_abs (to_z w64 (of_z w64 z)) < 2 ^ 31
height_high z small =
    let below : unsigned_abs z < 2 ^ 31 = omega arith in
    subst (λ (y : ℤ). unsigned_abs y < 2 ^ 31) (sym (height_read z small)) below

pub shape_over-requires-clause-low : goal.shape_over-requires-clause-low
shape_over-requires-clause-low c =
    let small = c.last_sum-height.ensures.small in
    let up : pos 0 <ℤ c.last_sum-height.result = let h = c.if-height-le0.false in
    omega (arith, ints) in
    height_low c.last_sum-height.result small up

pub shape_over-requires-clause-high : goal.shape_over-requires-clause-high
shape_over-requires-clause-high c =
    height_high c.last_sum-height.result c.last_sum-height.ensures.small

pub shape_over-requires-clause-lengths : goal.shape_over-requires-clause-lengths
shape_over-requires-clause-lengths c = refl

pub shape_over-requires-clause-limits_small : goal.shape_over-requires-clause-limits_small
shape_over-requires-clause-limits_small c =
    let signs = c.args.signs.now in
    let n = length signs in
    let few : n ≤ 1000 = omega arith in
    let d = unsigned_abs (to_z w64 (of_z w64 c.last_sum-height.result)) in
    let small = c.last_sum-height.ensures.small in
    let low : 1 ≤ d = omega (arith, ints) in
    let counts = counts_small signs in
    let entries = heights_are _ _ n signs _ _ c.count_falls-up.ensures c.count_rises-down.ensures
    c.as_slice-values.ensures.value c.in_ok-entries.ensures in
    entries_small (height_of signs) n d _ entries
    (λ i below. let high = sum_small (falls signs) (rises signs) signs i (omega arith)
    (omega arith) few in omega arith)

pub shape_over-requires-clause-values_small : goal.shape_over-requires-clause-values_small
shape_over-requires-clause-values_small c = shape_over-requires-clause-limits_small c

pub returns-clause-closed_form : goal.returns-clause-closed_form
returns-clause-closed_form c =
    let signs = c.args.signs.now in
    let k = c.args.k in
    let d = unsigned_abs (to_z w64 (of_z w64 c.last_sum-height.result)) in
    let small = c.last_sum-height.ensures.small in
    let low : 0 < d = omega (arith, ints) in
    let d_is : pos d ≡ c.last_sum-height.result = omega (arith, ints) in
    let whole = ap₂ (λ u v. sum_of_steps u v signs k) c.count_falls-up.ensures
    c.count_rises-down.ensures in
    let entries = heights_are _ _ (length signs) signs _ _ c.count_falls-up.ensures
    c.count_rises-down.ensures
    c.as_slice-values.ensures.value c.in_ok-entries.ensures in
    two_slope_over k d signs c.as_slice-values.result.now c.in_ok-shape_over.field-0 low
    (d_is ∙ c.last_sum-height.ensures.sum ∙ whole)
    entries c.in_ok-shape_over.ensures

pub returns-clause-ok : goal.returns-clause-ok
returns-clause-ok c =
    let signs = c.args.signs.now in
    let few : length signs ≤ 1000 = let h = c.if-signs.false in omega arith in
    let some : 1 ≤ c.args.k = let apart = c.if-k-eq0.false in omega arith in
    let up_some : 0 < c.count_falls-up.result = let apart = c.if-up-eq0.false in omega arith in
    let down_some : 0 < c.count_rises-down.result = let apart = c.if-down-eq0.false in
    omega arith in
    let whole = ap₂ (λ u v. sum_of_steps u v signs c.args.k) c.count_falls-up.ensures
    c.count_rises-down.ensures in
    let small = c.last_sum-height.ensures.small in
    let up : pos 0 <ℤ c.last_sum-height.result = let h = c.if-height-le0.false in
    omega (arith, ints) in (
      c.if-signs-lt2.false,
      few,
      (some, c.if-k-signs.false),
      (
        subst (λ n. 0 < n) c.count_rises-down.ensures down_some,
        subst (λ n. 0 < n) c.count_falls-up.ensures up_some,
        subst (λ (z : ℤ). pos 0 <ℤ z) (c.last_sum-height.ensures.sum ∙ whole) up,
      ),
    )

pub returns-then-k-eq0-clause-fault : goal.returns-then-k-eq0-clause-fault
returns-then-k-eq0-clause-fault c =
    let few : length c.args.signs.now ≤ 1000 = let h = c.if-signs.false in omega arith in
    elim c.then-k-eq0.branch [
      | then-k-eq0-via-then-k-eq0 w ↦ (
        c.if-signs-lt2.false,
        few,
        λ place. let e =
            w.if-k-eq0.true in let low = place.0 in absurd (omega arith),
      )
      | then-k-eq0-via-else-k-eq0+then-k-signs w ↦ (
        c.if-signs-lt2.false,
        few,
        λ place. let h = w.if-k-signs.true in let high = place.1 in absurd (omega arith),
      )
    ]

pub returns-then-up-eq0-clause-fault : goal.returns-then-up-eq0-clause-fault
returns-then-up-eq0-clause-fault c =
    let signs = c.args.signs.now in
    let few : length signs ≤ 1000 = let h = c.if-signs.false in omega arith in
    let some : 1 ≤ c.args.k = let apart = c.if-k-eq0.false in omega arith in
    let whole = ap₂ (λ u v. sum_of_steps u v signs c.args.k) c.count_falls-up.ensures
    c.count_rises-down.ensures in
    let place : IsPlace (length signs) c.args.k = (some, c.if-k-signs.false) in
    elim c.then-up-eq0.branch [
      | then-up-eq0-via-then-up-eq0 w ↦ (
        c.if-signs-lt2.false,
        few,
        place,
        λ have. no_falls _ _ c.count_falls-up.ensures
            w.if-up-eq0.true have.1,
      )
      | then-up-eq0-via-else-up-eq0+then-down-eq0 w ↦ (
        c.if-signs-lt2.false,
        few,
        place,
        λ have. no_falls _ _ c.count_rises-down.ensures w.if-down-eq0.true have.0,
      )
      | then-up-eq0-via-else-up-eq0+else-down-eq0+then-height-le0 w ↦ (
        c.if-signs-lt2.false,
        few,
        place,
        λ have. let small = c.last_sum-height.ensures.small in
            let low : c.last_sum-height.result ≤ℤ pos 0 = let h = w.if-height-le0.true in
            omega (arith, ints) in
            not_up _ _ (c.last_sum-height.ensures.sum ∙ whole) low have.2,
      )
    ]
