use Rattle.gj_json.proofs.OneReason.{one_reason}
use Rattle.gj_json.proofs.laws.one_first_reason.Goals as goal

pub returns : goal.returns
returns c = one_reason
