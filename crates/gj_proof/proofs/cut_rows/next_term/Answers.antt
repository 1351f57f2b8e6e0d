use Rattle.std.proofs.Common.{refl, codes}
use Rattle.gj_forms.proofs.LineLaws.{line_is_read, begins_so}
use Rattle.gj_proof.specs.ProofGrammar.{term_form}
use Rattle.gj_proof.proofs.ClearLines.{term_is_clear}
use Rattle.gj_proof.proofs.cut_rows.next_term.Goals as goal

pub returns-in-Some-clause-found : goal.returns-in-Some-clause-found
returns-in-Some-clause-found c =
    let printed = c.in-Some.ensures in
    rw printed.0 (line_is_read term_form term_is_clear c.in-Some.term _ printed.1)

pub returns-in-Some-clause-begins : goal.returns-in-Some-clause-begins
returns-in-Some-clause-begins c =
    let printed = c.in-Some.ensures in
    rw printed.0 (begins_so term_form term_is_clear c.in-Some.term
    (codes "term") _ _ printed.1 refl)

pub returns-in_ok-term_at-in-Some-line_with_word-clause-found :
    goal.returns-in_ok-term_at-in-Some-line_with_word-clause-found
returns-in_ok-term_at-in-Some-line_with_word-clause-found c =
    c.in_ok-term_at-in-Some-line_with_word.ensures.found c.args.text.now
    c.in-Some-line_with_word.ensures.found
