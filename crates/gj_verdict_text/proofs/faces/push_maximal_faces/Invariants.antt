use Rattle.std.proofs.Common.{◌≡◌, length}
use Rattle.gj_shape.specs.FunctionData.{IsWithinBounds}
use Rattle.gj_verdict_text.specs.FacePieces.{AreEnds}
use Rattle.gj_verdict_text.specs.FacesText.{AreRowsPushed}
use Rattle.gj_verdict_text.proofs.faces.push_maximal_faces.Given as goal

abbrev pub invariant-loop-a : goal.invariant-loop-a
invariant-loop-a l = record {
  pushed : AreRowsPushed l.shape l.a l.fn.out.items l.out.items;
  ends : AreEnds l.ends.items;
  count : length l.ends.items ≡ l.shape.order;
  limits : IsWithinBounds l.shape;
}
