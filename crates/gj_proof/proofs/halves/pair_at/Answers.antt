use Rattle.gj_forms.proofs.LineLaws.{line_is_read}
use Rattle.gj_proof.specs.ProofGrammar.{pair_form}
use Rattle.gj_proof.proofs.ClearLines.{pair_is_clear}
use Rattle.gj_proof.proofs.halves.pair_at.Goals as goal

pub returns-in-Some : goal.returns-in-Some
returns-in-Some c =
    let printed = c.in-Some.ensures in
    rw printed.0 (line_is_read pair_form pair_is_clear c.in-Some.pair _ (printed.1, printed.2))
