use Rattle.gj_forms.proofs.LineLaws.{no_such_numbers}
use Rattle.gj_proof.specs.ProofGrammar.{head_form}
use Rattle.gj_proof.proofs.BrokenLines.{zero_fraction, of_head, no_head_number}
use Rattle.gj_proof.proofs.cut_rows.head_in.Goals as goal

pub returns-in-Err-clause-fault : goal.returns-in-Err-clause-fault
returns-in-Err-clause-fault c =
    let words = c.in-Some.words in
    let fault = c.in-Err.ensures.fault in
    no_such_numbers head_form _ _
    (record { kind = words.kind; name = words.name.now; right = zero_fraction }) _
    c.in-Some.ensures.found
    (of_head words.kind words.name.now words.right.now) c.in_ok-name.ensures.found.1 fault.0
    (no_head_number _ _ _ fault.1)
