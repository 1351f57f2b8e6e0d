use Rattle.std.proofs.Common.{◌+◌, ◌-◌, ◌+ℤ◌, to_z, of_z, ap, sym, ◌∙◌, below_more, arith}
use mir.Syntax.{w128}
use Rattle.gj_shape.specs.FunctionData.{at}
use Rattle.gj_limit_check_halves.proofs.HalfNumbers.{number_read, number_below, sum_fits, sum_read, scale_read}
use Rattle.gj_limit_check_halves.proofs.half.are_opposite.Goals as goal

pub overflow_add-numbers : goal.overflow_add-numbers
overflow_add-numbers c =
    let h = c.args.half in
    let i = c.loop-i.i in
    let half = c.requires.half in
    sum_fits h _ _ i (h.place + (h.order - i)) _ _ half c.requires.numbers c.requires.others
    (number_below h _ i half c.requires.numbers c.loop-i-test.true)
    (number_read h _ _ _ half c.requires.others c.wrapped-opposite.ensures.value)

pub returns-then-numbers-i : goal.returns-then-numbers-i
returns-then-numbers-i c =
    let h = c.args.half in
    let i = c.loop-i.i in
    let half = c.requires.half in
    let len = c.requires.numbers.length in
    let first = number_below h _ i half c.requires.numbers c.loop-i-test.true in
    let second = number_read h _ _ _ half c.requires.others c.wrapped-opposite.ensures.value in
    let index = ap (λ n. at c.args.numbers.now i +ℤ at c.args.others.now (h.place + (n - i))) len in (
      λ none. absurd cc,
      λ all. absurd (c.if-numbers-i.true (ap (of_z w128)
          (λ k. first k +ℤ second k) ∙ ap (of_z w128) (sym index ∙ all i (omega arith)))),
    )

pub loop-i-preserved : goal.loop-i-preserved
loop-i-preserved c =
    let h = c.args.half in
    let i = c.loop-i.i in
    let half = c.requires.half in
    let both = sum_read h _ _ i (h.place + (h.order - i)) _ _ half c.requires.numbers
    c.requires.others
    (number_below h _ i half c.requires.numbers c.loop-i-test.true)
    (number_read h _ _ _ half c.requires.others c.wrapped-opposite.ensures.value) in
    let index = ap (λ n. at c.args.numbers.now i +ℤ at c.args.others.now (h.place + (n - i)))
    c.requires.numbers.length in
    below_more _ i c.loop-i.invariant
    (index ∙ sym both ∙ ap (to_z w128) c.if-numbers-i.false ∙ scale_read h half)
