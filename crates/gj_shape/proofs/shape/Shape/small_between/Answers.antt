use Rattle.std.proofs.Common.{◌<◌, ◌+◌, ◌-◌, ◌*◌, ◌^◌, unsigned_abs, to_z, of_z, w64, subst, sym, arith}
use Rattle.std.proofs.lemmas.Int.{ints}
use Rattle.gj_shape.proofs.ValueLemmas.{mean_below}
use Rattle.gj_shape.proofs.shape.Shape.small_between.Goals as goal

pub overflow_add-result : goal.overflow_add-result
overflow_add-result c =
    let m = c.args.steps in
    let r = c.args.remainder in
    let start : unsigned_abs (to_z w64 (of_z w64 c.beside-start.result.0)) < 2 ^ 32 =
    omega (arith, ints) in
    let end : unsigned_abs (to_z w64 (of_z w64 c.beside-start.result.1)) < 2 ^ 32 =
    omega (arith, ints) in
    let below = mean_below m r _ _ c.requires.remainder c.ranges.steps.fits start end in
    record {
      fits = subst (λ n. (n - r) * unsigned_abs (to_z w64 (of_z w64 c.beside-start.result.0))
          + r * unsigned_abs (to_z w64 (of_z w64 c.beside-start.result.1)) < 2 ^ 64)
          (sym c.from.ensures) below;
    }
