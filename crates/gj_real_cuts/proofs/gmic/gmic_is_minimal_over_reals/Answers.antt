use Rattle.gj_fields.proofs.FromRules.{rules_minimal}
use Rattle.gj_real_cuts.specs.Gmic.{gmic}
use Rattle.gj_real_cuts.proofs.MixedIntegerCut.{gmic_rules}
use Rattle.gj_real_cuts.proofs.gmic.gmic_is_minimal_over_reals.Goals as goal

pub returns : goal.returns
returns g c f some high =
    let K = g.K.Reals.field in
    let floors = g.K.Reals.floors in
    rules_minimal K (gmic K floors f) f (gmic_rules K floors f some high)
