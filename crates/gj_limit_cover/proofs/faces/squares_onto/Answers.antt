use Rattle.std.proofs.Common.{◌<◌, ◌||◌, ◌%◌, eqb, inl, ap, ◌∙◌, arith}
use Rattle.std.proofs.lemmas.Bool.{lt-ltb}
use Rattle.gj_loops.specs.IndexSets.{has}
use Rattle.gj_limit_cover.proofs.RowCovers.{onto_three}
use Rattle.gj_limit_cover.proofs.faces.squares_onto.Goals as goal

pub returns-then-a-i : goal.returns-then-a-i
returns-then-a-i c b below = (
  λ _. inl (inl (ap (λ n. n % c.args.order) c.if-a-i.true)),
  λ _. c.below.ensures b ∙ lt-ltb b c.args.order below,
)

pub returns : goal.returns
returns c b below =
    let q = c.args.order in
    let a = c.args.a in
    let i = c.args.i in
    let step = c.difference-step.result in
    let short = c.difference-short.result in
    let more : 1 < q = omega arith in
    onto_three q a i step short b (has c.insert-3.new.self b) c.requires.within c.requires.interval
    c.difference-step.ensures.below c.difference-short.ensures.below more below c.if-a-i.false
    c.difference-step.ensures.value c.difference-short.ensures.value
    (c.insert-3.ensures b ∙ ap (λ x. x || eqb b short) (c.insert-2.ensures b
    ∙ ap (λ x. x || eqb b step) (c.insert.ensures b
    ∙ ap (λ x. x || eqb b i) (c.empty-squares.ensures b))))
