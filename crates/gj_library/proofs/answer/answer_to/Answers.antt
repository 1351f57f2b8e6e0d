use Rattle.std.proofs.Common.{◌≡◌, ℕ, List, String, subst, sym}
use Rattle.std.specs.declared.alloc.Global.{Global}
use Rattle.gj_top.specs.declared.status.Status.TheVariants.{Memory}
use Rattle.gj_library.specs.Call.{IsAnswered, AreWordsOf}
use Rattle.gj_library.proofs.Calls.{answered_run}
use Rattle.gj_library.proofs.answer.answer_to.Goals as goal

pub returns-then-is_answered : goal.returns-then-is_answered
returns-then-is_answered c =
    let other : c.run-status.result ≡ Memory → ⊥ = c.is_answered.ensures c.if-is_answered.true in
    let are : AreWordsOf c.args.words.now c.as_slice.result.now =
    subst (λ (w : List (String Global)). AreWordsOf c.args.words.now w)
    (sym c.as_slice.ensures.value) c.in_ok-words.ensures in
    let kept : IsAnswered c.args.words.now c.args.input.now c.run-status.result
    c.run-status.new.sink.bytes.items =
    answered_run _ _ _ _ _ _ _ _ _ _ _ _ are c.in_ok-source.ensures c.new-sink.ensures.bytes
    c.new-sink.ensures.faults c.in_ok-text.ensures.1 other
    c.run-status.ensures.is_run in
    subst (λ (t : List ℕ). IsAnswered c.args.words.now c.args.input.now c.run-status.result t)
    (sym c.in_ok-text.ensures.0) kept
