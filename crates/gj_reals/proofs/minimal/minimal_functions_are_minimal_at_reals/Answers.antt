use Rattle.gj_fields.proofs.FromRules.{rules_minimal}
use Rattle.gj_fields.proofs.Floors.{rules_of_minimal}
use Rattle.gj_reals.specs.RealFunctions.{real_function, real_place}
use Rattle.gj_reals.proofs.AtReals.{rules_at_reals}
use Rattle.gj_reals.proofs.AtFractions.{rules_give_minimal}
use Rattle.gj_reals.proofs.minimal.minimal_functions_are_minimal_at_reals.Goals as goal

pub returns : goal.returns
returns g c f bounds =
    let K = g.K.Reals.field in
    let floors = g.K.Reals.floors in (
      λ minimal. rules_minimal K (real_function K floors f) (real_place K f)
          (rules_at_reals K floors f bounds minimal),
      λ among. rules_give_minimal K floors f bounds
          (rules_of_minimal K floors (real_function K floors f) (real_place K f) among),
    )
