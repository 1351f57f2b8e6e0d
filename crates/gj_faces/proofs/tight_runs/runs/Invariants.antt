use Rattle.gj_shape.specs.Additive.{IsTight}
use Rattle.gj_faces.specs.RunsBefore.{AreRunsBefore}
use Rattle.gj_faces.proofs.tight_runs.runs.Given as goal

abbrev pub invariant-loop-a : goal.invariant-loop-a
invariant-loop-a l = AreRunsBefore l.shape.order (IsTight l.shape) l.a 0 l.runs.items
