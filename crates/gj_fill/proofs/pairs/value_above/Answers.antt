use Rattle.std.proofs.Common.{◌≡◌, ◌+◌, ◌-◌, length, sym, ap, ◌∙◌, arith}
use Rattle.gj_shape.specs.FunctionData.{at}
use Rattle.gj_fill.proofs.FillPairs.{itself}
use Rattle.gj_shape.proofs.AtLemmas.{at_plus_length}
use Rattle.gj_fill.proofs.pairs.value_above.Goals as goal

pub returns-clause-value : goal.returns-clause-value
returns-clause-value c =
    let values = c.args.values.now in
    let i = c.args.i in
    let n = length values in
    let turned = c.requires.turned in
    let whole : i - n + n ≡ i = omega arith in
    itself c.value_below.result (omega (arith, c.value_below.ensures.small))
    ∙ c.value_below.ensures.value ∙ sym (at_plus_length values (i - n)) ∙ ap (at values) whole
