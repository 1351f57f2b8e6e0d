use Rattle.std.proofs.Common.{◌≡◌, ◌-◌, ◌<◌, ◌^◌, count_by, is_some, length, refl, sym, ap, subst, ◌∙◌, arith}
use Rattle.std.proofs.lemmas.List.Sums.{count_by-le-length}
use Rattle.gj_frac.proofs.Refusals.{on_ok_along}
use Rattle.gj_demo.specs.Summary.{HasSummary, lines_with}
use Rattle.gj_demo.proofs.SummaryTexts.{summary_of}
use Rattle.gj_demo.proofs.Values.{demo_continuous}
use Rattle.gj_demo.proofs.summary_text.summary.Goals as goal

pub new-requires : goal.new-requires
new-requires c = demo_continuous c.args.n c.in_ok-shape.shape c.in_ok-shape.ensures.closed_form

pub count_covered-covered-requires : goal.count_covered-covered-requires
count_covered-covered-requires c =
    let bounds = c.in_ok-shape.ensures.within_bounds in
    let long = c.in_ok-cover.ensures.component.length in
    subst (λ xs. length xs < 2 ^ 32) (sym c.as_slice.ensures) (omega arith)

pub halves_of-requires : goal.halves_of-requires
halves_of-requires c =
    (c.in_ok-shape.shape, c.in_ok-proof.ensures.not_extreme.0, c.in_ok-proof.ensures.not_extreme.1)

pub text_of-requires-clause-covered : goal.text_of-requires-clause-covered
text_of-requires-clause-covered c =
    let long = c.in_ok-cover.ensures.component.length in
    let few = count_by-le-length is_some c.in_ok-cover.cover.component in
    let counted = c.count_covered-covered.ensures ∙ ap (count_by is_some) c.as_slice.ensures in
    let order = c.order.ensures.value in
    omega arith

pub returns : goal.returns
returns c =
    let n = c.args.n in
    let f = c.in_ok-shape.shape in
    let cover = c.in_ok-cover.cover in
    let order = c.order.result in
    let triangles = c.count_additive_triangles-triangles.result in
    let covered = c.count_covered-covered.result in
    let h = c.in_ok-proof.ensures.not_extreme.0 in
    let is = c.in_ok-proof.ensures.not_extreme.1 in
    let listed = c.count_additive_triangles-triangles.ensures in
    on_ok_along c.text_of.result
    (λ text. text.items ≡ lines_with n order triangles covered
    (order - covered) cover.count c.halves_of.result.now)
    (λ text. HasSummary n text.items)
    (λ text spelled.
    summary_of n f c.in_ok-proof.proof h listed.0 cover order triangles covered
    (order - covered) text.items
    c.in_ok-shape.ensures.closed_form c.in_ok-shape.ensures.within_bounds
    c.in_ok-proof.ensures.decided is listed.1
    c.in_ok-cover.ensures c.order.ensures.value listed.2
    (c.count_covered-covered.ensures ∙ ap (count_by is_some) c.as_slice.ensures) refl
    (spelled ∙ ap (lines_with n order triangles covered (order - covered) cover.count)
    (c.halves_of.ensures.halves f h is)))
    c.text_of.ensures
