use Rattle.std.proofs.Common.{◌≡◌, length, ap₂, ◌∙◌, arith}
use Rattle.std.proofs.lemmas.List.{with_items_is}
use Rattle.gj_sparse_elim.specs.Sparse.{dense}
use Rattle.gj_limit_extreme.specs.SystemRows.{columns_in}
use Rattle.gj_limit_extreme.proofs.SystemRows.{written_row}
use Rattle.gj_limit_extreme.proofs.named_rows.dense_row.Goals as goal

pub returns : goal.returns
returns c =
    let columns : length c.as_mut_slice.result.now ≡ columns_in c.args.system.now =
    omega (arith, c.as_mut_slice.ensures.len, c.in_ok-row.ensures.len, c.columns.ensures.value) in
    with_items_is c.in_ok-row.row c.write_entries.new.row
    (c.write_entries.auto.row ∙ c.as_mut_slice.ensures.len)
    ∙ c.write_entries.ensures ∙ ap₂ dense columns c.as_slice.ensures.value
    ∙ written_row c.args.system.now c.args.name c.write_row.new.entries.items
    c.in_ok-write_row.ensures.sparse c.in_ok-write_row.ensures.row
