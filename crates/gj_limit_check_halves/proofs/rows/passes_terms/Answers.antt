use Rattle.std.proofs.Common.{◌+◌, below_more, arith}
use Rattle.std.proofs.lemmas.Int.{ints}
use Rattle.gj_limit_check_halves.proofs.HalfNumbers.{on_side, side_read, rest_of_sum, sum_fits, sum_read}
use Rattle.gj_limit_check_halves.proofs.rows.passes_terms.Goals as goal

pub overflow_add-first : goal.overflow_add-first
overflow_add-first c =
    let h = c.args.half in
    let t = c.args.terms in
    let half = c.requires.half in
    sum_fits h _ _ (c.args.a + t.right) (c.loop-b.b + t.above) _ _ half (on_side h t.x half)
    (on_side h t.y half)
    (side_read h t.x _ _ _ half c.on_side.ensures c.wrapped-x.ensures.value)
    (side_read h t.y _ _ _ half c.on_side-seconds.ensures c.wrapped-y.ensures.value)

pub returns-then-first-seconds : goal.returns-then-first-seconds
returns-then-first-seconds c =
    let h = c.args.half in
    let t = c.args.terms in
    let half = c.requires.half in
    let both = sum_read h _ _ (c.args.a + t.right) (c.loop-b.b + t.above) _ _ half
    (on_side h t.x half) (on_side h t.y half)
    (side_read h t.x _ _ _ half c.on_side.ensures c.wrapped-x.ensures.value)
    (side_read h t.y _ _ _ half c.on_side-seconds.ensures c.wrapped-y.ensures.value) in
    let third = side_read h t.sum _ (c.args.a + t.right + (c.loop-b.b + t.above)) _ half
    c.on_side-sums.ensures
    (rest_of_sum _ _ _ _ _ _ c.wrapped-x.ensures.value c.wrapped-y.ensures.value
    c.wrapped-sum.ensures.value) in
    let negative = c.if-first-seconds.true in (
      λ none. absurd cc,
      λ all. absurd
          (let limit = all c.loop-b.b c.loop-b.auto.b c.loop-b-test.true in omega (arith, ints)),
    )

pub loop-b-preserved : goal.loop-b-preserved
loop-b-preserved c =
    let h = c.args.half in
    let t = c.args.terms in
    let half = c.requires.half in
    let both = sum_read h _ _ (c.args.a + t.right) (c.loop-b.b + t.above) _ _ half
    (on_side h t.x half) (on_side h t.y half)
    (side_read h t.x _ _ _ half c.on_side.ensures c.wrapped-x.ensures.value)
    (side_read h t.y _ _ _ half c.on_side-seconds.ensures c.wrapped-y.ensures.value) in
    let third = side_read h t.sum _ (c.args.a + t.right + (c.loop-b.b + t.above)) _ half
    c.on_side-sums.ensures
    (rest_of_sum _ _ _ _ _ _ c.wrapped-x.ensures.value c.wrapped-y.ensures.value
    c.wrapped-sum.ensures.value) in
    let not_negative = c.if-first-seconds.false in
    below_more _ c.loop-b.b c.loop-b.invariant (λ from. omega (arith, ints))
