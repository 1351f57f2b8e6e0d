use Rattle.std.proofs.Common.{◌≡◌, ◌*◌, ◌≤◌, ◌^◌, take, unsigned_abs}
use Rattle.gj_complex.specs.Squares.{limits_in}
use Rattle.gj_shape.specs.SlopeRows.{total}
use Rattle.gj_minimal.proofs.shown.limit_total.Given as goal

abbrev pub invariant-loop-corner : goal.invariant-loop-corner
invariant-loop-corner l = record {
  so_far : l.total ≡ total (take l.corner (limits_in l.square l.kind));
  fits : unsigned_abs l.total ≤ l.corner * 2 ^ 53;
}
