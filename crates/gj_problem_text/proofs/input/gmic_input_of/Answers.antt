use Rattle.gj_problem_text.proofs.InputParts.{gmic_read, gmic_fault}
use Rattle.gj_problem_text.proofs.input.gmic_input_of.Goals as goal

pub returns-in-Ok-clause-found : goal.returns-in-Ok-clause-found
returns-in-Ok-clause-found c =
    gmic_read c.args.bytes.now c.requires c.in-Ok.task c.in-Ok.ensures.found

pub returns-in-Err-clause-refused : goal.returns-in-Err-clause-refused
returns-in-Err-clause-refused c =
    gmic_fault c.args.bytes.now c.requires c.in-Err.fault c.in-Err.ensures.refused
