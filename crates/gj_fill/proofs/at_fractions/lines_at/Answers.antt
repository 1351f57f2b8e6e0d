use Rattle.std.proofs.Common.{◌+◌, ◌∙◌, arith}
use Rattle.gj_shape.specs.FunctionData.{at}
use Rattle.gj_fill.proofs.FillPairs.{itself, itself_small, wide_itself}
use Rattle.gj_fill.proofs.FilledValues.{same_sum}
use Rattle.gj_fill.proofs.at_fractions.lines_at.Goals as goal

pub sum_of_products-rising-requires-clause-x : goal.sum_of_products-rising-requires-clause-x
sum_of_products-rising-requires-clause-x c = let small = c.requires.parts in
    itself_small c.args.place.parts (omega arith)

pub sum_of_products-rising-requires-clause-y : goal.sum_of_products-rising-requires-clause-y
sum_of_products-rising-requires-clause-y c =
    let small = c.value_numerator-before.ensures.small in
    itself_small c.value_numerator-before.result (omega arith)

pub sum_of_products-rising-requires-clause-u : goal.sum_of_products-rising-requires-clause-u
sum_of_products-rising-requires-clause-u c = let small = c.requires.part in
    itself_small c.args.place.part (omega arith)

pub sum_of_products-rising-requires-clause-w : goal.sum_of_products-rising-requires-clause-w
sum_of_products-rising-requires-clause-w c = itself_small c.args.steps.rise c.args.steps.rise_small

pub sum_of_products-falling-requires-clause-x : goal.sum_of_products-falling-requires-clause-x
sum_of_products-falling-requires-clause-x c = let small = c.requires.parts in
    itself_small c.args.place.parts (omega arith)

pub sum_of_products-falling-requires-clause-y : goal.sum_of_products-falling-requires-clause-y
sum_of_products-falling-requires-clause-y c =
    let small = c.value_numerator-behind.ensures.small in
    itself_small c.value_numerator-behind.result (omega arith)

pub sum_of_products-falling-requires-clause-u : goal.sum_of_products-falling-requires-clause-u
sum_of_products-falling-requires-clause-u c = let small = c.requires.rest in
    itself_small c.args.place.rest (omega arith)

pub sum_of_products-falling-requires-clause-w : goal.sum_of_products-falling-requires-clause-w
sum_of_products-falling-requires-clause-w c = itself_small c.args.steps.fall c.args.steps.fall_small

pub returns-clause-rising : goal.returns-clause-rising
returns-clause-rising c =
    let p = c.args.place in
    let s = c.args.steps.rise in
    let few = c.requires.parts in
    let fewer = c.requires.part in
    let low = c.value_numerator-before.ensures.small in
    let value = itself c.value_numerator-before.result (omega arith)
    ∙ c.value_numerator-before.ensures.value in
    wide_itself c.sum_of_products-rising.result c.sum_of_products-rising.ensures.small
    ∙ c.sum_of_products-rising.ensures.value
    ∙ same_sum _ p.parts _ (at c.args.shape.now.value p.index) _ p.part _ s
    (itself p.parts (omega arith)) value
    (itself p.part (omega arith)) (itself s c.args.steps.rise_small)

pub returns-clause-falling : goal.returns-clause-falling
returns-clause-falling c =
    let p = c.args.place in
    let s = c.args.steps.fall in
    let few = c.requires.parts in
    let fewer = c.requires.rest in
    let low = c.value_numerator-behind.ensures.small in
    let value = itself c.value_numerator-behind.result (omega arith)
    ∙ c.value_numerator-behind.ensures.value in
    wide_itself c.sum_of_products-falling.result c.sum_of_products-falling.ensures.small
    ∙ c.sum_of_products-falling.ensures.value
    ∙ same_sum _ p.parts _ (at c.args.shape.now.value (p.index + 1)) _ p.rest _ s
    (itself p.parts (omega arith)) value
    (itself p.rest (omega arith)) (itself s c.args.steps.fall_small)
