use Rattle.gj_fields.proofs.Mixed.{mixed_cut}
use Rattle.gj_reals.specs.RealFunctions.{real_function, real_place, slope_up, slope_down}
use Rattle.gj_reals.proofs.AtReals.{rules_at_reals}
use Rattle.gj_reals.proofs.SlopesAtZero.{slopes}
use Rattle.gj_reals.proofs.mixed.mixed_cuts_at_reals.Goals as goal
use Rattle.gj_shape.proofs.TableLemmas.{pieces_of}

pub returns : goal.returns
returns g c f bounds continuous minimal =
    let K = g.K.Reals.field in
    let floors = g.K.Reals.floors in
    mixed_cut K floors (real_function K floors f) (real_place K f) (slope_up K f) (slope_down K f)
    (rules_at_reals K floors f (pieces_of bounds) minimal)
    (slopes K floors f bounds continuous minimal)
