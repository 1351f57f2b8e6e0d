use Rattle.gj_commands.proofs.ByCheck.{one_kind}
use Rattle.gj_commands.proofs.laws.one_kind_of_proof_text.Goals as goal

pub returns : goal.returns
returns c = one_kind
