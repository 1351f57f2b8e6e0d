use Rattle.gj_shape.proofs.TableLemmas.{pieces_of}
use Rattle.gj_limit_averages.proofs.MovedFunctions.{parts_of_perturbation}
use Rattle.gj_limit_averages.proofs.halves.perturbations_give_parts.Goals as goal

pub returns : goal.returns
returns c f m u p w g h bounds minimal some p_some d below bound nonzero up down =
    parts_of_perturbation f m w (pieces_of bounds) minimal some d u p p_some below bound g h up down
    nonzero
