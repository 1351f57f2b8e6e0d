use Rattle.gj_derivation_text.proofs.TextRead.{function_fault}
use Rattle.gj_derivation_text.proofs.read.function_input_of.Goals as goal

pub returns-in-Err-Refused-clause-refused : goal.returns-in-Err-Refused-clause-refused
returns-in-Err-Refused-clause-refused c =
    rw c.in-Err-Refused.field-0-is
    (function_fault c.args.drafts c.args.bytes.now c.requires _ _
    (rw c.in-Err-Refused.field-0-is at c.in-Err-Refused.ensures.refused))
