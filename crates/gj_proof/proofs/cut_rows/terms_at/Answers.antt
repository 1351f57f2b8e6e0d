use Rattle.gj_lex.specs.declared.spelling.Spelling.TheVariants.{Strict}
use Rattle.std.proofs.lemmas.Result.{err_from_is_err_and}
use Rattle.gj_forms.proofs.WhereLaws.{shorter_behind_line}
use Rattle.gj_forms.specs.LineForms.{rule_of}
use Rattle.gj_proof.specs.ProofGrammar.{term_form, form_part}
use Rattle.gj_proof.proofs.CutTexts.{BeginsTerm}
use Rattle.gj_forms.proofs.ListRead.{while_on, while_end, while_at_fault}
use Rattle.gj_proof.proofs.cut_rows.terms_at.Goals as goal

pub loop-terms-preserved : goal.loop-terms-preserved
loop-terms-preserved c =
    let begins = simp c.in-Some.is at c.in_ok-term.ensures.begins in
    let found = simp c.in-Some.is at c.in_ok-term.ensures.found in
    while_on (form_part term_form) BeginsTerm _ _ _ _ _ c.in-Some.term c.loop-terms.invariant begins
    found c.in_ok-push.ensures.items

pub loop-terms-smaller : goal.loop-terms-smaller
loop-terms-smaller c =
    let found = simp c.in-Some.is at c.in_ok-term.ensures.found in
    shorter_behind_line Strict (rule_of term_form) _ _ c.in-Some.term found

pub returns : goal.returns
returns c =
    let none = simp c.in_default.is at c.in_ok-term.ensures.none in
    while_end (form_part term_form) BeginsTerm _ _ _ c.loop-terms.invariant none

pub returns-in_err-term : goal.returns-in_err-term
returns-in_err-term c =
    let p = err_from_is_err_and c.from_residual.result c.from_residual.ensures.1 in
    let fault = c.in_err-term.ensures.fault in
    rw (p.1, p.2)
    (while_at_fault (form_part term_form) BeginsTerm _ _ _ _ c.loop-terms.invariant fault.0 fault.1)
