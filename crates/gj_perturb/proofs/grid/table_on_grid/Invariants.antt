use Rattle.std.proofs.Common.{◌≡◌, map}
use Rattle.std.specs.List.{range_with_len}
use Rattle.gj_shape.specs.Table.{table}
use Rattle.gj_perturb.proofs.grid.table_on_grid.Given as goal

abbrev pub invariant-loop-i : goal.invariant-loop-i
invariant-loop-i l = l.values.items ≡ map (table l.shape l.times) (range_with_len 0 l.i)
