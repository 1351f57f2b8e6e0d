use Rattle.std.proofs.Common.{length, sym, ◌∙◌, arith}
use Rattle.std.specs.Prelude.{None}
use Rattle.std.proofs.lemmas.List.{get_or_default}
use Rattle.gj_sparse_elim.specs.Sparse.{dense}
use Rattle.gj_check_groups.proofs.Tables.{no_new_pivot}
use Rattle.gj_limit_check_groups.specs.SparseRows.{dense_rows}
use Rattle.gj_limit_check_groups.proofs.SparseTables.{row_some, row_none, some_taken, none_taken, pivot_tested}
use Rattle.gj_limit_check_groups.proofs.pivot.meets_pivot.Goals as goal

pub returns-then-is_some : goal.returns-then-is_some
returns-then-is_some c kept rows =
    let table = c.args.table.now in
    let n = length table in
    let read = c.index-table-place.is
    ∙ get_or_default table c.args.column c.index-table-place.result None (omega arith) in
    let (e, is) = some_taken table c.args.column c.index-table-place.result read
    (sym c.is_some.ensures ∙ c.if-is_some.true) in (
      λ t. absurd cc,
      λ h. absurd (no_new_pivot kept (dense_rows n table) c.args.column (dense n e) rows
          (row_some n table c.args.column e is) h.new),
    )

pub returns : goal.returns
returns c kept rows =
    let table = c.args.table.now in
    let n = length table in
    let read = c.index-table-place.is
    ∙ get_or_default table c.args.column c.index-table-place.result None (omega arith) in
    let none = none_taken table c.args.column c.index-table-place.result read (sym c.is_some.ensures
    ∙ c.if-is_some.false) in
    pivot_tested c.starts_at.result kept (dense_rows n table) n c.args.row.now c.args.column rows
    c.requires
    c.if-place-table.false (row_none n table c.args.column none) c.starts_at.ensures
