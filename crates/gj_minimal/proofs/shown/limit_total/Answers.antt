use Rattle.std.proofs.Common.{◌≡◌, ◌<◌, ◌≤◌, ◌+ℤ◌, length, ap₂, sym, ◌∙◌, w64, to_z, of_z, arith}
use Rattle.std.proofs.lemmas.Int.{ints, to_z-of_z, fits_signed_from_abs}
use Rattle.gj_complex.specs.Squares.{limits_in}
use Rattle.gj_minimal.proofs.Theory.{some_corners}
use Rattle.gj_minimal.proofs.NearPairs.{as_many_limits_in, total_more}
use Rattle.gj_minimal.proofs.shown.limit_total.Goals as goal

pub overflow_add-total : goal.overflow_add-total
overflow_add-total c =
    let so_far = to_z w64 c.loop-corner.total-bits in
    let few = (some_corners c.args.kind 0 0).1 in
    let corner_low : c.loop-corner.corner ≤ 2 = omega arith in
    let bound = c.loop-corner.invariant.fits in
    let limit_bound = c.limit-total.ensures.fits in
    let limit_is : to_z w64 (of_z w64 c.limit-total.result) ≡ c.limit-total.result =
    to_z-of_z w64 c.limit-total.result
    (fits_signed_from_abs w64 c.limit-total.result (omega arith)) in
    rw limit_is (fits_signed_from_abs w64 (so_far +ℤ c.limit-total.result) (omega (arith, ints)))

pub loop-corner-preserved : goal.loop-corner-preserved
loop-corner-preserved c =
    let limits = limits_in c.args.square.now c.args.kind in
    let corner = c.loop-corner.corner in
    let so_far = to_z w64 c.loop-corner.total-bits in
    let many = as_many_limits_in c.args.square.now c.args.kind in
    let few = (some_corners c.args.kind 0 0).1 in
    let below : c.loop-corner.corner < length (limits_in c.args.square.now c.args.kind) =
    omega arith in
    let corner_low : c.loop-corner.corner ≤ 2 = omega arith in
    let bound = c.loop-corner.invariant.fits in
    let limit_bound = c.limit-total.ensures.fits in
    let limit_is : to_z w64 (of_z w64 c.limit-total.result) ≡ c.limit-total.result =
    to_z-of_z w64 c.limit-total.result
    (fits_signed_from_abs w64 c.limit-total.result (omega arith)) in
    let whole : to_z w64
    (of_z w64 (to_z w64 c.loop-corner.total-bits +ℤ to_z w64 (of_z w64 c.limit-total.result)))
    ≡ to_z w64 c.loop-corner.total-bits +ℤ c.limit-total.result =
    rw limit_is (to_z-of_z w64 (so_far +ℤ c.limit-total.result) (omega (arith, ints))) in
    record {
      so_far = whole ∙ ap₂ (λ x y. x +ℤ y) c.loop-corner.invariant.so_far
          c.limit-total.ensures.value
          ∙ sym (total_more limits corner below);
      fits = rw whole (omega (arith, ints));
    }
