use Rattle.gj_fill.proofs.FillPairs.{small_product}
use Rattle.gj_fill.proofs.fill_in.product.Goals as goal

pub overflow_mul-result : goal.overflow_mul-result
overflow_mul-result c =
    (small_product c.from.result c.from-2.result c.args.x c.args.y c.from.ensures c.from-2.ensures
    c.requires.first c.requires.second).fits

pub returns-clause-value : goal.returns-clause-value
returns-clause-value c =
    (small_product c.from.result c.from-2.result c.args.x c.args.y c.from.ensures c.from-2.ensures
    c.requires.first c.requires.second).value

pub returns-clause-small : goal.returns-clause-small
returns-clause-small c =
    (small_product c.from.result c.from-2.result c.args.x c.args.y c.from.ensures c.from-2.ensures
    c.requires.first c.requires.second).small
