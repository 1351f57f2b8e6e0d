use Rattle.std.proofs.Common.{◌≡◌, ◌≢◌, ◌<◌, ◌+◌, ◌%◌, ap, sym, ◌∙◌, subst}
use Rattle.gj_loops.specs.IndexSets.{has}
use Rattle.gj_cover.specs.Table.{IsTightInTable, CoversBy}
use Rattle.gj_cover.proofs.FirstFaces.{AreSteps, Square, across_none, across_found}
use Rattle.gj_cover.proofs.Merging.{Either, merged}
use Rattle.gj_cover.proofs.first_faces.first_across.Goals as goal

pub returns-in_default : goal.returns-in_default
returns-in_default c =
    let t = c.args.table.now in
    across_none t.order (IsTightInTable t) c.args.i c.covering_across.result c.in_default.ensures
    c.covering_across.ensures.covering

pub difference-step-requires-clause-start : goal.difference-step-requires-clause-start
difference-step-requires-clause-start c =
    subst (λ n. c.in-Some.a < n) (sym c.order-q.ensures.value)
    (c.covering_across.ensures.within c.in-Some.a c.in-Some.ensures.found)

pub returns : goal.returns
returns c =
    let t = c.args.table.now in
    let q = t.order in
    let i = c.args.i in
    let k = c.in-Some.a in
    let step = c.difference-step.result in
    let short = c.difference-short.result in
    let is = c.order-q.ensures.value in
    let steps : AreSteps q k step short i = record {
      start = c.covering_across.ensures.within k c.in-Some.ensures.found;
      end = c.requires;
      step_below = subst (λ n. step < n) is c.difference-step.ensures.below;
      short_below = subst (λ n. short < n) is c.difference-short.ensures.below;
      step_leads = subst (λ n. (k + step) % n ≡ i) is c.difference-step.ensures.value;
      short_leads = subst (λ n. (1 + short) % n ≡ step) is c.difference-short.ensures.value;
    } in
    let other : k ≢ i = λ same.
    let found = c.in-Some.ensures.found in
    let not = ap (has c.covering_across.result) same ∙ c.covering_across.ensures.other in
    cc (found, not) in
    let P = CoversBy t i in
    let two = Either (Square k i) (Square k step) in
    let first = merged (Square k i) (Square k step) P c.covering_in_square-found.result
    c.covering_in_square.result
    c.earlier-found.result c.covering_in_square-found.ensures c.covering_in_square.ensures
    c.earlier-found.ensures in
    let second = merged two (Square k short) P c.earlier-found.result c.covering_in_square-2.result
    c.earlier.result first c.covering_in_square-2.ensures c.earlier.ensures in
    across_found q (IsTightInTable t) i k step short c.covering_across.result c.earlier.result steps
    other c.in-Some.ensures
    c.covering_across.ensures.covering second
