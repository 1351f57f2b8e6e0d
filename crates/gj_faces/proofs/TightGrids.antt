-- The tight pairs of a minimal function, by its maximal faces.
use Rattle.std.proofs.Common.{List, subst}
use Rattle.gj_shape.specs.Additive.{IsTightOnGrid}
use Rattle.gj_shape.specs.FunctionData.{FunctionData, IsWithinBounds, IsContinuous}
use Rattle.gj_shape.specs.Table.{IsMinimal}
use Rattle.gj_shape.specs.declared.faces.Face.{Face}
use Rattle.gj_theory.proofs.TightFaces.{tight_on_grid}
use Rattle.gj_theory.proofs.TightPairs.{tight_pair_in_face}
use Rattle.gj_faces.specs.Listed.{AreMaximalFaces, IsInListed, IsMaximalIn, TellTightPairs}
use Rattle.gj_faces.proofs.Held.{additive_in_listed}
use Rattle.gj_faces.proofs.PickedFaces.{picked_all}

pub listed_tell_tight : (f : FunctionData) (faces : List Face) → IsWithinBounds f → IsContinuous f →
    IsMinimal f →
    AreMaximalFaces f faces → TellTightPairs f faces
listed_tell_tight f faces limits continuous minimal picked m i j some = (to, from)
  where
    to : IsTightOnGrid f m i j → IsInListed f m faces i j
    to tight =
        let face = tight_pair_in_face f m i j limits continuous minimal some tight in
        additive_in_listed f faces limits picked m face.0 face.1 face.2 i j face.4 face.3

    from : IsInListed f m faces i j → IsTightOnGrid f m i j
    from listed =
        let face = listed.1 in
        let maximal = subst (IsMaximalIn f) listed.3
        (picked_all (IsMaximalIn f) picked listed.0 face listed.2) in
        tight_on_grid f m face.kind face.a face.b i j limits continuous some maximal.additive
        listed.4
