use Rattle.std.proofs.Common.{arith}
use Rattle.gj_sparse_elim.proofs.ColumnSets.{empty_start, empty_set, none_in_parts}
use Rattle.gj_sparse_elim.proofs.columns.remove_columns.Goals as goal

pub loop-part-init : goal.loop-part-init
loop-part-init c = empty_start c.args.parts.now

pub loop-part-preserved : goal.loop-part-preserved
loop-part-preserved c =
    empty_set c.loop-part.parts c.loop-part.part-index c.empty.result c.loop-part.invariant
    (omega arith) c.empty.ensures

pub returns : goal.returns
returns c = none_in_parts c.loop-part.parts c.loop-part.part-index (omega arith)
    c.loop-part.invariant
