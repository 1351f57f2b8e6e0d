use Rattle.gj_json.proofs.OneFunction.{only_function}
use Rattle.gj_json.proofs.read.read_json.Goals as goal

pub returns-clause-only : goal.returns-clause-only
returns-clause-only c =
    only_function c.args.bytes.now c.function_of.result c.function_of.ensures.found
    c.function_of.ensures.refused
