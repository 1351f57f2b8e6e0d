use Rattle.std.proofs.Common.{rules}
use Rattle.gj_shape.proofs.AtLemmas.{at_below}
use Rattle.gj_limit_check_halves.proofs.pairs.is_between.Goals as goal

pub returns-then-number-ge0 : goal.returns-then-number-ge0
returns-then-number-ge0 c = rw (at_below c.args.numbers.now c.args.index c.requires) (search rules)

pub returns-else-number-ge0 : goal.returns-else-number-ge0
returns-else-number-ge0 c = rw (at_below c.args.numbers.now c.args.index c.requires) (search rules)
