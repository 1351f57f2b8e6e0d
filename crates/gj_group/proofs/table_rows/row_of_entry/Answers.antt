use Rattle.std.proofs.lemmas.Result.{err_from_is_err_and}
use Rattle.gj_group.proofs.DenseRows.{zeros_made, entry_written}
use Rattle.gj_group.proofs.table_rows.row_of_entry.Goals as goal

pub returns-in_err-row : goal.returns-in_err-row
returns-in_err-row c =
    rw (err_from_is_err_and c.from_residual.result c.from_residual.ensures.1).1 tt

pub returns : goal.returns
returns c =
    entry_written c.args.order c.args.place c.in_ok-row.row.items
    (zeros_made c.args.order c.in_ok-row.row.items
    (c.in_ok-row.ensures.items_if_clones_equal (λ y e. e))) c.requires
