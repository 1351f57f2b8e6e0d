use Rattle.gj_json.proofs.OneFunction.{one_function}
use Rattle.gj_json.proofs.laws.one_function_in_json.Goals as goal

pub returns : goal.returns
returns c = one_function
