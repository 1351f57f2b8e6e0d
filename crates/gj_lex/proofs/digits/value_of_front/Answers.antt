use Rattle.std.proofs.Common.{◌∙◌}
use Rattle.gj_lex.proofs.DigitLanes.{value_by_lanes}
use Rattle.gj_lex.proofs.digits.value_of_front.Goals as goal

pub returns : goal.returns
returns c =
    c.from.ensures ∙ value_by_lanes c.args.word.now c.args.count c.requires.length c.requires.count
    c.requires.digits
