use Rattle.std.proofs.Common.{◌≡◌, ◌-◌, ℕ, List, drop, take, length, subst, arith}
use Rattle.std.proofs.lemmas.List.{length-drop, take_all}
use Rattle.gj_forms.specs.Parts.{IsFaultOf}
use Rattle.gj_forms.specs.declared.fault.PartFault.TheVariants.{Refused}
use Rattle.gj_forms.proofs.LineNumbers.{first_fault_of}
use Rattle.gj_problem_text.specs.SafeInputs.{unruled_text, safe_input}
use Rattle.gj_problem_text.proofs.InputParts.{behind_read, behind_fault, safe_input_is_exact}
use Rattle.gj_problem_text.proofs.input.input_behind.Goals as goal

-- the slice behind the function is the rest
whole : (text : List ℕ) (n : ℕ) → take (length text - n) (drop n text) ≡ drop n text
whole text n = let long = length-drop n text in
    take_all (length text - n) (drop n text) (omega arith)

pub returns-in-Ok-clause-found : goal.returns-in-Ok-clause-found
returns-in-Ok-clause-found c =
    let text = c.args.bytes.now in
    behind_read text c.requires.begins c.args.shape (drop c.args.len text) c.requires.function
    c.in-Ok.task
    (subst (λ (t : List ℕ). (end : List ℕ) × unruled_text.Reads t c.in-Ok.task end)
    (whole text c.args.len) c.in-Ok.ensures.found)

pub returns-in-Err-Refused-clause-refused : goal.returns-in-Err-Refused-clause-refused
returns-in-Err-Refused-clause-refused c =
    let text = c.args.bytes.now in
    let left = c.in-Err-Refused.left in
    let reason = c.in-Err-Refused.reason in
    rw c.in-Err-Refused.field-0-is
    (first_fault_of safe_input safe_input_is_exact text left _ reason
    (behind_fault text c.requires.begins c.args.shape (drop c.args.len text) c.requires.function
    (Refused left reason)
    (subst (λ (t : List ℕ). IsFaultOf unruled_text t (Refused left reason)) (whole text c.args.len)
    (rw c.in-Err-Refused.field-0-is at c.in-Err-Refused.ensures.fault)))
    (rw c.in-Err-Refused.field-0-is at c.line_number.ensures))
