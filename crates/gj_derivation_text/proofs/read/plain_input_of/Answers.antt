use Rattle.gj_forms.specs.declared.fault.PartFault.TheVariants.{Refused}
use Rattle.gj_forms.proofs.LineNumbers.{first_fault_of}
use Rattle.gj_derivation_text.specs.DerivationInputs.{input_part}
use Rattle.gj_derivation_text.proofs.TextRead.{plain_read, plain_fault, input_part_is_exact}
use Rattle.gj_derivation_text.proofs.read.plain_input_of.Goals as goal

pub returns-in-Ok-clause-found : goal.returns-in-Ok-clause-found
returns-in-Ok-clause-found c =
    plain_read c.args.drafts c.args.bytes.now c.requires c.in-Ok.told c.in-Ok.ensures.found

pub returns-in-Err-Refused-clause-refused : goal.returns-in-Err-Refused-clause-refused
returns-in-Err-Refused-clause-refused c =
    first_fault_of (input_part c.args.drafts) (input_part_is_exact c.args.drafts) c.args.bytes.now _
    _ _
    (plain_fault c.args.drafts c.args.bytes.now c.requires
    (Refused c.in-Err-Refused.left c.in-Err-Refused.reason)
    (rw c.in-Err-Refused.field-0-is at c.in-Err-Refused.ensures.fault)) c.line_number.ensures
