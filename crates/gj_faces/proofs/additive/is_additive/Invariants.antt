use Rattle.std.proofs.Common.{ℕ, ◌≡◌, ◌<◌, get_or, pos}
use Rattle.gj_shape.specs.Faces.{limits_of}
use Rattle.gj_faces.proofs.additive.is_additive.Given as goal

abbrev pub invariant-loop-corner : goal.invariant-loop-corner
invariant-loop-corner l =
    (k : ℕ) → k < l.corner → get_or (limits_of l.shape l.face.kind l.face.a l.face.b) k (pos 0)
    ≡ pos 0
