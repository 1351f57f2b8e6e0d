use Rattle.gj_forms.proofs.StrictLines.{strict_line_is_lenient}
use Rattle.gj_forms.proofs.laws.strict_line_is_lenient.Goals as goal

pub returns : goal.returns
returns c = strict_line_is_lenient
