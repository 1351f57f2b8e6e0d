use Rattle.std.proofs.Common.{◌≡◌, true, sym, ◌∙◌}
use Rattle.gj_top.specs.Promise.{reads}
use Rattle.gj_top.specs.Command.{IsNamed, promise_for}
use Rattle.gj_top.proofs.InputRead.{answer_of_read, answer_of_long}
use Rattle.gj_top.proofs.answer.answer_to.Goals as goal

pub returns-in-Ok-clause-answer : goal.returns-in-Ok-clause-answer
returns-in-Ok-clause-answer g c =
    let named : IsNamed c.args.words.now c.in-Some.request =
    (rw c.in-Some.is at c.in_ok-request.ensures).0 in
    let read : reads (promise_for c.in-Some.request).form ≡ true = sym c.reads_input.ensures
    ∙ c.if-not-reads_input.false in
    answer_of_read c.args.words.now _ c.in-Some.request named read
    (g.S.Source.left c.args.source.now) _ c.in-Ok.input
    c.answer_of-in-Ok.result c.in-Ok.ensures.within c.in-Ok.ensures.told
    (rw c.as_slice.ensures.value at c.answer_of-in-Ok.ensures)

pub returns-in-Err-TooLong-clause-answer : goal.returns-in-Err-TooLong-clause-answer
returns-in-Err-TooLong-clause-answer g c =
    let named : IsNamed c.args.words.now c.in-Some.request =
    (rw c.in-Some.is at c.in_ok-request.ensures).0 in
    let read : reads (promise_for c.in-Some.request).form ≡ true = sym c.reads_input.ensures
    ∙ c.if-not-reads_input.false in
    answer_of_long c.args.words.now _ c.in-Some.request named read
    (g.S.Source.left c.args.source.now) _
    (rw c.in-Err-TooLong.field-0-is at c.in-Err-TooLong.ensures.told)
