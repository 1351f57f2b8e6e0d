use Rattle.std.proofs.Common.{◌≡◌, ◌<◌, ◌≤◌, ℕ, length, get_or, add-one, refl, sym, subst, ◌∙◌, slice_set}
use Rattle.gj_problem.specs.declared.problem.Entry.{Entry}
use Rattle.gj_problem.specs.Signs.{IsNegated}
use Rattle.gj_problem.proofs.AddedSums.{negation_value}
use Rattle.gj_problem.proofs.DoneUpTo.{AreDoneUpTo, next_same, next_done, all_done}
use Rattle.gj_problem.proofs.slacks.negate.Goals as goal

pub loop-i-init : goal.loop-i-init
loop-i-init c = refl

pub loop-i-preserved : goal.loop-i-preserved
loop-i-preserved c =
    let i = c.loop-i.i in
    let xs = c.args.entries.now.items in
    let ys = c.loop-i.entries.items in
    let e = c.index-entry.result.now in
    let f : Entry = record { column = e.column; value = c.neg.result } in
    let below : i < length xs =
    subst (λ (n : ℕ). i < n) (c.len-i-end.ensures ∙ c.args.entries.now.ok.0)
    c.loop-i-test.true in
    let here : e ≡ get_or xs i e = c.index-entry.ensures
    ∙ next_same IsNegated i xs ys e e c.loop-i.invariant below in
    let negated : IsNegated e f =
    record { column = refl; value = negation_value e.value c.neg.result c.neg.ensures } in
    subst (λ (j : ℕ). AreDoneUpTo IsNegated j xs (slice_set ys i f)) (sym (add-one i))
    (next_done IsNegated i xs ys e f c.loop-i.invariant below
    (subst (λ (d : Entry). IsNegated d f) here negated))

pub returns : goal.returns
returns c =
    let xs = c.args.entries.now.items in
    let i = c.loop-i.i in
    let end : length xs ≤ i =
    subst (λ (n : ℕ). n ≤ i) (c.len-i-end.ensures ∙ c.args.entries.now.ok.0)
    c.loop-i-test.false in
    all_done IsNegated i xs c.loop-i.entries.items end c.loop-i.invariant
