use Rattle.std.proofs.Common.{below_more, arith}
use mir.Syntax.{w128}
use Rattle.std.proofs.lemmas.Int.{ints, to_z-of_z}
use Rattle.gj_check_minimal.proofs.TableTests.{value_read, rest_value, values_fit, sum_of_values}
use Rattle.gj_check_minimal.proofs.tables.is_symmetric_list.Goals as goal

pub overflow_add-values : goal.overflow_add-values
overflow_add-values c =
    let t = c.requires in
    let i = c.loop-i.i in
    values_fit _ _ _ i _ _ _ t (value_read _ _ _ i t (omega arith))
    (rest_value _ _ _ _ _ t c.wrapped-opposite.ensures)

pub returns-then-values-i : goal.returns-then-values-i
returns-then-values-i c =
    let t = c.requires in
    let i = c.loop-i.i in
    let first = value_read _ _ _ i t (omega arith) in
    let second = rest_value c.args.values.now _ _ _ _ t c.wrapped-opposite.ensures in
    let both = sum_of_values c.args.values.now _ _ i _ _ _ t first second in
    let scale = to_z-of_z w128 c.args.scale c.ranges.scale in
    let other = c.if-values-i.true in
    (λ none. absurd cc, λ all. absurd (let h = all i (omega arith) in other (omega (arith, ints))))

pub loop-i-preserved : goal.loop-i-preserved
loop-i-preserved c =
    let t = c.requires in
    let i = c.loop-i.i in
    let first = value_read _ _ _ i t (omega arith) in
    let second = rest_value c.args.values.now _ _ _ _ t c.wrapped-opposite.ensures in
    let both = sum_of_values c.args.values.now _ _ i _ _ _ t first second in
    let scale = to_z-of_z w128 c.args.scale c.ranges.scale in
    let same = c.if-values-i.false in
    below_more _ i c.loop-i.invariant (omega (arith, ints))
