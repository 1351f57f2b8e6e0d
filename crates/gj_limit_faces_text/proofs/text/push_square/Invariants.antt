use Rattle.std.proofs.Common.{take}
use Rattle.gj_shape.specs.FunctionData.{FunctionData}
use Rattle.gj_shape.specs.WalkOrder.{faces_in}
use Rattle.gj_limit_faces_text.specs.AdditiveRows.{AreRowsAt}
use Rattle.gj_limit_faces_text.specs.AppendedFaces.{AppendsMaximal}
use Rattle.gj_limit_faces_text.proofs.text.push_square.Given as goal

abbrev pub invariant-loop-kind : goal.invariant-loop-kind
invariant-loop-kind l =
    (f : FunctionData) → AreRowsAt f l.a l.b l.back l.here l.before →
    AppendsMaximal f (faces_in (take l.kind-index l.kind-items) l.a l.b) l.fn.out.items l.out.items
