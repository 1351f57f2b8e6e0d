use Rattle.std.proofs.Common.{◌≡◌, ◌≤◌, length, take, map}
use Rattle.std.specs.Vec.{vec_len, vec_capacity}
use Rattle.gj_shape.specs.Given.{numerator_over as over_scale}
use Rattle.gj_shape.proofs.numerators.numerators.Given as goal

abbrev pub invariant-loop-x : goal.invariant-loop-x
invariant-loop-x l =
    (l.items.items ≡ map (over_scale l.scale) (take l.x-index l.xs)) × (vec_len l.items ≡ l.x-index)
    × (length l.xs ≤ vec_capacity l.items)
