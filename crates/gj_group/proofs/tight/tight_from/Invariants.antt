use Rattle.std.proofs.Common.{◌≡◌, ◌≤◌, length}
use Rattle.gj_shape.specs.FunctionData.{at}
use Rattle.gj_group.specs.RowsToCome.{tight_in_row}
use Rattle.gj_group.proofs.tight.tight_from.Given as goal

abbrev pub invariant-loop-b : goal.invariant-loop-b
invariant-loop-b l =
    (l.from ≤ l.b) × (tight_in_row (at l.values) (length l.values) l.a l.from
    ≡ tight_in_row (at l.values) (length l.values) l.a l.b)
