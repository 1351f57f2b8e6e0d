use Rattle.gj_theory.proofs.GmicValues.{closed_form}
use Rattle.gj_theory.proofs.cuts.gmic_has_closed_form.Goals as goal

pub returns : goal.returns
returns c = closed_form
