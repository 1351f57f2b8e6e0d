use Rattle.std.proofs.Common.{◌≡◌, ℕ, ◌+◌, ◌-◌, ◌<◌, ◌+ℤ◌, pos}
use Rattle.gj_shape.specs.FunctionData.{at}
use Rattle.gj_cover.proofs.pairs.is_mirrored.Given as goal

abbrev pub invariant-loop-i : goal.invariant-loop-i
invariant-loop-i l = (i : ℕ) → i < l.i →
    at l.shape.value i +ℤ at l.shape.value (l.shape.place + (l.shape.order - i)) ≡ pos l.shape.scale
