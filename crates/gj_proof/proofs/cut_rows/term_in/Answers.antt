use Rattle.std.proofs.Common.{refl}
use Rattle.gj_forms.proofs.LineLaws.{no_such_numbers}
use Rattle.gj_proof.specs.ProofGrammar.{term_form}
use Rattle.gj_proof.proofs.BrokenLines.{zero_fraction, no_term_numbers}
use Rattle.gj_proof.proofs.cut_rows.term_in.Goals as goal

pub returns-in-Err-clause-fault : goal.returns-in-Err-clause-fault
returns-in-Err-clause-fault c =
    let fault = c.in-Err.ensures.fault in
    no_such_numbers term_form _ _
    (record { name = c.in-Some.word.now; entry = zero_fraction; cut = zero_fraction }) _
    c.in-Some.ensures.found refl c.in_ok-name.ensures.found.1 fault.0
    (no_term_numbers _ _ _ fault.1)
