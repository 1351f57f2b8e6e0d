use Rattle.std.proofs.Common.{◌≡◌, ◌-◌, ℕ, List, true, drop, take, length, subst, arith}
use Rattle.std.proofs.lemmas.List.{length-drop, take_all}
use Rattle.gj_forms.specs.Parts.{IsFaultOf}
use Rattle.gj_forms.specs.declared.fault.PartFault.TheVariants.{Refused}
use Rattle.gj_forms.proofs.LineNumbers.{first_fault_of}
use Rattle.gj_derivation_text.specs.DerivationText.{derivation_part}
use Rattle.gj_derivation_text.specs.DerivationInputs.{input_part, Tells}
use Rattle.gj_derivation_text.proofs.TextRead.{behind_read, behind_fault, input_part_is_exact}
use Rattle.gj_derivation_text.proofs.read.input_behind.Goals as goal

-- the slice behind the function is the rest
whole : (text : List ℕ) (n : ℕ) → take (length text - n) (drop n text) ≡ drop n text
whole text n = let long = length-drop n text in
    take_all (length text - n) (drop n text) (omega arith)

pub returns-in-Ok-clause-found : goal.returns-in-Ok-clause-found
returns-in-Ok-clause-found c =
    let text = c.args.bytes.now in
    behind_read c.args.drafts text c.requires.begins c.args.shape
    (drop c.args.len text) c.requires.function c.in-Ok.told
    (subst (λ (t : List ℕ). Tells (derivation_part c.args.drafts true) t c.in-Ok.told)
    (whole text c.args.len) c.in-Ok.ensures.found)

pub returns-in-Err-Refused-clause-refused : goal.returns-in-Err-Refused-clause-refused
returns-in-Err-Refused-clause-refused c =
    let text = c.args.bytes.now in
    let left = c.in-Err-Refused.left in
    let reason = c.in-Err-Refused.reason in
    rw c.in-Err-Refused.field-0-is
    (first_fault_of (input_part c.args.drafts) (input_part_is_exact c.args.drafts) text left _
    reason
    (behind_fault c.args.drafts text c.requires.begins c.args.shape
    (drop c.args.len text) c.requires.function (Refused left reason)
    (subst (λ (t : List ℕ). IsFaultOf (derivation_part c.args.drafts true) t (Refused left reason))
    (whole text c.args.len)
    (rw c.in-Err-Refused.field-0-is at c.in-Err-Refused.ensures.fault)))
    (rw c.in-Err-Refused.field-0-is at c.line_number.ensures))
