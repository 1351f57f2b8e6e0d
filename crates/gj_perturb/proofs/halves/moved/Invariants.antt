use Rattle.std.proofs.Common.{◌≡◌, map}
use Rattle.std.specs.List.{range_with_len}
use Rattle.gj_perturb.specs.Moves.{moved_at}
use Rattle.gj_perturb.proofs.halves.moved.Given as goal

abbrev pub invariant-loop-i : goal.invariant-loop-i
invariant-loop-i l =
    l.items.items ≡ map (moved_at l.table l.factor l.values l.step) (range_with_len 0 l.i)
