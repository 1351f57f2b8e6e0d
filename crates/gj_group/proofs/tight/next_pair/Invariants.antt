use Rattle.std.proofs.Common.{◌≡◌, ◌<◌, length}
use Rattle.gj_shape.specs.FunctionData.{at}
use Rattle.gj_group.specs.RowsToCome.{pair_rows, rows_from}
use Rattle.gj_group.proofs.tight.next_pair.Given as goal

abbrev pub invariant-loop-row : goal.invariant-loop-row
invariant-loop-row l =
    (l.a < l.row) × (pair_rows (at l.values) (length l.values) l.a l.from
    ≡ rows_from (at l.values) (length l.values) l.row)
