use Rattle.std.proofs.Common.{◌∙◌, ◌*◌, ap, arith}
use Rattle.std.proofs.lemmas.Int.{ints}
use Rattle.gj_check_minimal.proofs.TestsInTurn.{in_other_words}
use Rattle.gj_check.proofs.ValuesOfCuts.{minimal_numbers, piece_decides}
use Rattle.gj_check.proofs.cut_values.is_value_at.Goals as goal

pub value_in-value-requires-clause-numbers : goal.value_in-value-requires-clause-numbers
value_in-value-requires-clause-numbers c =
    minimal_numbers c.args.shape.now _ c.at-piece.result c.order.ensures.limits c.requires.minimal
    c.at-piece.ensures

pub returns : goal.returns
returns c =
    let order = c.from.ensures ∙ c.order.ensures.value in
    let scale = c.common_denominator.ensures.value in
    in_other_words _ _ _ c.is_ratio.ensures
    (piece_decides c.args.shape.now c.args.entry c.args.x c.part_of.result
    c.denominator_of-steps.result _ c.value_in-value.result _
    c.at-piece.result c.order.ensures.limits c.part_of.ensures.value
    c.denominator_of-steps.ensures.value
    (ap (λ q. c.part_of.result * q) order) (omega (arith, ints)) c.at-piece.ensures
    c.value_in-value.ensures.at
    c.value_in-value.ensures.between)
