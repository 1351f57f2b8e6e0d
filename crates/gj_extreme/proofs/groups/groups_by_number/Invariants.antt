use Rattle.std.proofs.Common.{◌≡◌, List, length, map, take, get_or}
use Rattle.gj_shape.specs.Elimination.{KeptRow}
use Rattle.gj_elim.specs.KeptRows.{log_row}
use Rattle.gj_extreme.proofs.groups.groups_by_number.Given as goal

abbrev pub invariant-loop-line : goal.invariant-loop-line
invariant-loop-line g l = (length l.kept.items ≡ l.line-index)
    × ((none : _) (kept : List KeptRow) → l.log ≡ map log_row kept →
    l.kept.items ≡ map (λ k. get_or l.names k.number none) (take l.line-index kept))
