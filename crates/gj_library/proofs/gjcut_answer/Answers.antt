use Rattle.std.proofs.Common.{inl, inr, sym, ◌∙◌}
use Rattle.gj_library.proofs.Calls.{call_of, memory_of, within_of, room_of, unless, by, headline_of, no_read_fault_of, no_text_of}
use Rattle.gj_library.proofs.gjcut_answer.Goals as goal

pub returns-clause-headline : goal.returns-clause-headline
returns-clause-headline c =
    by (call_of _ _ _ _ _ _ c.answer_to.result c.answer_to.ensures c.hand_over.ensures.answer
    c.hand_over.ensures.none) 0 (λ six. cc)
    (headline_of _ _ _ _ _)

pub returns-clause-run : goal.returns-clause-run
returns-clause-run c =
    unless (call_of _ _ _ _ _ _ c.answer_to.result c.answer_to.ensures c.hand_over.ensures.answer
    c.hand_over.ensures.none) (λ call. call)

pub returns-clause-no_read_fault : goal.returns-clause-no_read_fault
returns-clause-no_read_fault c =
    by (call_of _ _ _ _ _ _ c.answer_to.result c.answer_to.ensures c.hand_over.ensures.answer
    c.hand_over.ensures.none) 4 (λ six. cc)
    (no_read_fault_of _ _ _ _ _)

pub returns-clause-no_text : goal.returns-clause-no_text
returns-clause-no_text c = λ other.
    elim (call_of _ _ _ _ _ _ c.answer_to.result c.answer_to.ensures c.hand_over.ensures.answer
    c.hand_over.ensures.none) [
      | inl six ↦ inr (inr six)
      | inr call ↦ no_text_of _ _ _ _ _ call other
    ]

pub returns-clause-room : goal.returns-clause-room
returns-clause-room c =
    room_of _ _ _ _ _ _ _ c.answer_to.result c.answer_to.ensures c.hand_over.ensures.answer
    c.hand_over.ensures.whole c.hand_over.ensures.full
    c.hand_over.ensures.none

pub returns-clause-full : goal.returns-clause-full
returns-clause-full c = λ five.
    (room_of _ _ _ _ _ _ _ c.answer_to.result c.answer_to.ensures c.hand_over.ensures.answer
    c.hand_over.ensures.whole c.hand_over.ensures.full
    c.hand_over.ensures.none five).longer

pub returns-clause-memory : goal.returns-clause-memory
returns-clause-memory c =
    memory_of _ _ _ _ _ _ c.answer_to.result c.answer_to.ensures c.hand_over.ensures.answer
    c.hand_over.ensures.none

pub returns-clause-within : goal.returns-clause-within
returns-clause-within c =
    within_of _ _ _ _ c.answer_to.result c.hand_over.ensures.answer c.hand_over.ensures.whole
    c.hand_over.ensures.none
