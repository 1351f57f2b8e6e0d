use Rattle.std.proofs.Common.{refl}
use Rattle.std.proofs.lemmas.Bool.{false≢true}
use Rattle.std.proofs.lemmas.Result.{err_from_is_err_and}
use Rattle.gj_lex.specs.declared.spelling.Spelling.TheVariants.{Lenient}
use Rattle.gj_forms.proofs.LoopRead.{leads_at_first}
use Rattle.gj_forms.proofs.WhereLaws.{shorter_behind_line}
use Rattle.gj_function_text.specs.BreaksText.{break_rule, next_break}
use Rattle.gj_function_text.proofs.BreaksRead.{break_on, breaks_end, fault_in_break}
use Rattle.gj_function_text.proofs.breaks.more_breaks_at.Goals as goal

pub loop-breaks-init : goal.loop-breaks-init
loop-breaks-init c = leads_at_first next_break c.args.first c.args.text.now

pub loop-breaks-preserved : goal.loop-breaks-preserved
loop-breaks-preserved c =
    break_on c.args.first c.args.text.now _ _ _ _ c.loop-breaks.invariant
    (λ is. false≢true (c.loop-breaks-test.ensures.1 is))
    c.in_ok-rest.ensures.found

pub loop-breaks-smaller : goal.loop-breaks-smaller
loop-breaks-smaller c =
    shorter_behind_line Lenient (break_rule c.loop-breaks.breaks) _ _ _ c.in_ok-rest.ensures.found

pub returns-in_err-rest : goal.returns-in_err-rest
returns-in_err-rest c =
    let p = err_from_is_err_and c.from_residual.result c.from_residual.ensures.1 in
    rw (p.1, p.2)
    (fault_in_break c.args.first c.args.text.now _ _ _ c.loop-breaks.invariant
    (λ is. false≢true (c.loop-breaks-test.ensures.1 is))
    c.in_err-rest.ensures.fault)

pub returns : goal.returns
returns c =
    breaks_end c.args.first c.args.text.now _ _ _ c.loop-breaks.invariant
    (c.loop-breaks-test.ensures.0 refl) c.last_at.ensures
