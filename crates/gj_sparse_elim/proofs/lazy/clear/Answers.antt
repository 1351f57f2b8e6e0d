use Rattle.gj_sparse_elim.proofs.ColumnSets.{support_empty}
use Rattle.gj_sparse_elim.proofs.lazy.clear.Goals as goal

pub returns-clause-support : goal.returns-clause-support
returns-clause-support c =
    support_empty c.args.touched.now c.remove_columns.new.parts c.args.row.now c.erase.new.row
    c.requires
    c.remove_columns.auto.parts c.erase.auto.row c.remove_columns.ensures c.erase.ensures
