use Rattle.std.proofs.Common.{◌≡◌, map}
use Rattle.std.specs.List.{range_with_len}
use Rattle.gj_limit_halves.specs.Moves.{moved_at}
use Rattle.gj_limit_halves.proofs.moved.moved.Given as goal

abbrev pub invariant-loop-i : goal.invariant-loop-i
invariant-loop-i l =
    l.items.items ≡ map (moved_at l.shape l.entries l.times l.factor l.step l.numbers)
    (range_with_len 0 l.i)
