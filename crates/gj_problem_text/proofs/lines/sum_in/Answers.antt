use Rattle.std.proofs.Common.{◌≡◌, List, sym, subst}
use Rattle.gj_frac.specs.declared.Frac.{Frac}
use Rattle.gj_lex.specs.Words.{word_texts}
use Rattle.gj_problem_text.proofs.LinesTold.{AreRead, none_read, one_more_read, with_zeros_read, all_read, not_read}
use Rattle.gj_problem_text.proofs.lines.sum_in.Goals as goal

pub loop-word-init : goal.loop-word-init
loop-word-init c =
    let words = word_texts c.args.rest.now in
    let (n, left, numbers) = c.in_ok-left.ensures in
    with_zeros_read n words words (word_texts c.in_ok-left.left.now) c.new-multipliers.result _
    (subst (λ (xs : List Frac). AreRead words xs words) (sym c.new-multipliers.ensures)
    (none_read words))
    left numbers

pub loop-word-preserved : goal.loop-word-preserved
loop-word-preserved c =
    let words = word_texts c.args.rest.now in
    let behind = word_texts c.in-Some.behind.now in
    let (n, left, numbers) = c.in_ok-left-2.ensures in
    with_zeros_read n words behind _ _ _
    (subst (λ (xs : List Frac). AreRead words xs behind) (sym c.in_ok-push.ensures)
    (one_more_read words (word_texts c.loop-word.left.now) behind c.loop-word.multipliers
    c.in-Some.word.now c.in-Some-number_of.multiplier c.loop-word.invariant
    c.in-Some.ensures.found c.in-Some-number_of.ensures.found))
    left numbers

pub returns-in_default-number_of-clause-broken : goal.returns-in_default-number_of-clause-broken
returns-in_default-number_of-clause-broken c =
    not_read _ _ _ _ c.in-Some.word.now c.loop-word.invariant c.in-Some.ensures.found
    c.in_default-number_of.ensures.none

pub returns-clause-told : goal.returns-clause-told
returns-clause-told c = all_read _ _ _ c.loop-word.invariant c.in_default.ensures.none
