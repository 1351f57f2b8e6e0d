use Rattle.gj_theory.proofs.Fillings.{filling_minimal, finer_is_filling}
use Rattle.gj_theory.proofs.decisive_order.affine_filling_is_minimal.Goals as goal

pub returns-clause-minimal : goal.returns-clause-minimal
returns-clause-minimal c = filling_minimal

pub returns-clause-finer : goal.returns-clause-finer
returns-clause-finer c = finer_is_filling
