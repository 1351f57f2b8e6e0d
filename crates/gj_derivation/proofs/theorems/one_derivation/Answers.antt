use Rattle.gj_derivation.proofs.OneClaim.{one_shown_by}
use Rattle.gj_derivation.proofs.OneDerivation.{one_derivation}
use Rattle.gj_derivation.proofs.theorems.one_derivation.Goals as goal

pub returns-clause-step : goal.returns-clause-step
returns-clause-step c = λ f grid p k claim x y usable h l x_tells y_tells.
    one_shown_by f grid p k usable claim x y h l x_tells y_tells

pub returns-clause-steps : goal.returns-clause-steps
returns-clause-steps c = one_derivation
