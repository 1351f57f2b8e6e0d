use Rattle.std.proofs.Common.{ℕ, ◌<◌, get_or}
use Rattle.gj_shape.specs.Faces.{corners_of}
use Rattle.gj_faces.specs.Runs.{InRuns}
use Rattle.gj_faces.proofs.search.in_runs.Given as goal

abbrev pub invariant-loop-index : goal.invariant-loop-index
invariant-loop-index l =
    (k : ℕ) → k < l.index →
    InRuns l.q l.runs (get_or (corners_of l.face.kind l.face.a l.face.b) k (0, 0)).0
    (get_or (corners_of l.face.kind l.face.a l.face.b) k (0, 0)).1
