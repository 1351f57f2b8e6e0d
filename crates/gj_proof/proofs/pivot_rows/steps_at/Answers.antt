use Rattle.gj_lex.specs.declared.spelling.Spelling.TheVariants.{Strict}
use Rattle.std.proofs.lemmas.Bool.{false≢true}
use Rattle.std.proofs.lemmas.Result.{err_from_is_err_and}
use Rattle.gj_forms.proofs.WhereLaws.{shorter_behind_line}
use Rattle.gj_forms.specs.LineForms.{rule_of}
use Rattle.gj_proof.specs.ProofGrammar.{form_part}
use Rattle.gj_proof.proofs.ExtremeTexts.{BeginsStep, reduce_form}
use Rattle.gj_forms.proofs.ListRead.{while_on, while_end, while_at_fault}
use Rattle.gj_proof.proofs.pivot_rows.steps_at.Goals as goal

pub loop-rest-preserved : goal.loop-rest-preserved
loop-rest-preserved c =
    while_on (form_part (reduce_form c.args.limit)) BeginsStep _ _ _ _ _ _ c.loop-rest.invariant
    (c.begins_with_word.ensures.0 c.loop-rest-test.true)
    c.in_ok-column.ensures c.in_ok-push.ensures.items

pub loop-rest-smaller : goal.loop-rest-smaller
loop-rest-smaller c =
    shorter_behind_line Strict (rule_of (reduce_form c.args.limit)) _ _ c.in_ok-column.column
    c.in_ok-column.ensures

pub returns : goal.returns
returns c =
    while_end (form_part (reduce_form c.args.limit)) BeginsStep _ _ _ c.loop-rest.invariant
    (λ is. false≢true (c.loop-rest-test.ensures.1 is))

pub returns-in_err-column : goal.returns-in_err-column
returns-in_err-column c =
    let p = err_from_is_err_and c.from_residual.result c.from_residual.ensures.1 in
    rw (p.1, p.2)
    (while_at_fault (form_part (reduce_form c.args.limit)) BeginsStep _ _ _ _ c.loop-rest.invariant
    (c.begins_with_word.ensures.0 c.loop-rest-test.true)
    c.in_err-column.ensures)
