use Rattle.gj_function_text.specs.FirstFault.{IsFirstFaultOfWhole}
use Rattle.gj_top.specs.Forms.{RefusesFunctionText}
use Rattle.gj_top.proofs.InputLines.{input_of_whole}
use Rattle.gj_top.proofs.Refusals.{refused_at}
use Rattle.gj_top.proofs.forms.function_text_of.Goals as goal

pub returns-in-Ok : goal.returns-in-Ok
returns-in-Ok c = input_of_whole c.args.input.now c.in-Ok.shape c.in-Ok.ensures.found

pub returns-in-Err-Refused : goal.returns-in-Err-Refused
returns-in-Err-Refused c =
    refused_at (IsFirstFaultOfWhole c.args.input.now) RefusesFunctionText c.args.input.now
    c.in-Err-Refused.at_line c.in-Err-Refused.reason
    c.refused.result (rw c.in-Err-Refused.field-0-is at c.in-Err-Refused.ensures.refused)
    (λ text h. h) c.refused.ensures
