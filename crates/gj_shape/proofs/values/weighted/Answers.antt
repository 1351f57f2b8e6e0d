use Rattle.gj_shape.proofs.GridDenominators.{weighted_read, weighted_small, weighted_fits}
use Rattle.gj_shape.proofs.values.weighted.Goals as goal

pub overflow_mul-result : goal.overflow_mul-result
overflow_mul-result c =
    weighted_fits c.from.result c.from-2.result c.args.weight c.args.entry c.from.ensures
    c.from-2.ensures c.requires c.ranges.entry

pub returns-clause-value : goal.returns-clause-value
returns-clause-value c =
    weighted_read c.from.result c.from-2.result c.args.weight c.args.entry c.from.ensures
    c.from-2.ensures c.requires c.ranges.entry

pub returns-clause-fits : goal.returns-clause-fits
returns-clause-fits c =
    weighted_small c.from.result c.from-2.result c.args.weight c.args.entry c.from.ensures
    c.from-2.ensures c.requires c.ranges.entry
