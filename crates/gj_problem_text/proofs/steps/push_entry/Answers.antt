use Rattle.std.proofs.Common.{List, ◌+◌, ◌-◌, ◌≡◌, length, set, sym, ap, ◌∙◌, subst₂, arith, refl}
use Rattle.std.specs.Vec.{vec_len}
use Rattle.gj_problem.specs.declared.problem.Entry.{Entry}
use Rattle.gj_problem_text.specs.Tasks.{AreLonger}
use Rattle.gj_problem_text.proofs.ShortEntries.{longer_at_last}
use Rattle.gj_problem_text.proofs.steps.push_entry.Goals as goal

pub returns : goal.returns
returns c =
    let items = c.into_vec-items.result.items in
    let last = c.in-Some.last.now in
    let k = vec_len c.into_vec-items.result - 1 in
    let some = c.in-Some.ensures.variant.0 refl in
    let last_place : k + 1 ≡ length items = omega (arith, some) in
    subst₂ (λ old new. AreLonger old c.args.entry new)
    (c.into_vec-items.ensures ∙ c.replace.ensures.value)
    (sym (c.of-2.ensures
    ∙ ap (λ (es : List Entry). set items k
    (record { entries = es; sense = last.sense; right = last.right })) c.in_ok-push.ensures))
    (longer_at_last items k last c.args.entry last_place c.in-Some.ensures.value)
