use Rattle.gj_json.proofs.OneFunction.{no_reason}
use Rattle.gj_json.proofs.laws.no_reason_in_json_function.Goals as goal

pub returns : goal.returns
returns c = no_reason
