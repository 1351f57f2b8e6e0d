use Rattle.gj_theory.proofs.SameVerdicts.{refined_minimal, minimal_refined, refined_extreme, extreme_refined}
use Rattle.gj_theory.proofs.decisive_order.refinements_have_same_verdicts.Goals as goal

pub returns-clause-minimal : goal.returns-clause-minimal
returns-clause-minimal c =
    λ f g times l h r. (refined_minimal f g times l h r, minimal_refined f g times l h r)

pub returns-clause-extreme : goal.returns-clause-extreme
returns-clause-extreme c =
    λ f g times l h continuous r.
    (refined_extreme f g times l h r, extreme_refined f g times l h continuous r)
