-- What holds of a fill-in as a whole.
use Rattle.std.proofs.Common.{◌<◌, ℤ}
use Rattle.gj_shape.specs.FunctionData.{FunctionData, at}
use Rattle.gj_fill.specs.FillIn.{AreGreatestSteps, IsSubadditiveTable}
use Rattle.gj_fill.specs.FillPoints.{IsFillIn}
use Rattle.gj_fill.proofs.FillIns.{at_place, filled_subadditive}
use Rattle.gj_fill.proofs.FillPoints.{affine_between}

pub fill_in_of : (f : FunctionData) (s t : ℤ) → 0 < f.order → IsSubadditiveTable (at f.value) →
    AreGreatestSteps (at f.value) s t →
    IsFillIn f s t
fill_in_of f s t some table h = record {
  value = λ m a positive. at_place (at f.value) s t m a h positive;
  subadditive = λ m positive. filled_subadditive (at f.value) s t m table h positive;
  affine = λ front p q back place. affine_between f s t front p q back some h place;
}
