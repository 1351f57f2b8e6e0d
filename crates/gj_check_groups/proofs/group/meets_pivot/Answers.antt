use Rattle.std.proofs.Common.{pos, get_or, sym, ◌∙◌, arith}
use Rattle.std.specs.Prelude.{None}
use Rattle.std.proofs.lemmas.List.{get_or_default}
use Rattle.gj_theory.proofs.WideNumbers.{some_from_bits}
use Rattle.gj_check_groups.proofs.Tables.{taken, not_taken, no_new_pivot, pivot_tested}
use Rattle.gj_check_groups.proofs.group.meets_pivot.Goals as goal

pub returns-then-is_some-clause-outcome : goal.returns-then-is_some-clause-outcome
returns-then-is_some-clause-outcome c kept rows =
    let table = c.args.table.now in
    let read = c.index-table-column.is
    ∙ get_or_default table c.args.column c.index-table-column.result None
    (omega (arith, c.requires)) in
    let some = taken table c.args.column c.index-table-column.result read
    (sym c.is_some.ensures ∙ c.if-is_some.true) in
    (λ t. absurd cc, λ h. absurd (no_new_pivot kept table c.args.column some.0 rows some.1 h.new))

pub returns-then-row-column-ne0-clause-outcome : goal.returns-then-row-column-ne0-clause-outcome
returns-then-row-column-ne0-clause-outcome c kept rows =
    let table = c.args.table.now in
    let read = c.index-table-column.is
    ∙ get_or_default table c.args.column c.index-table-column.result None
    (omega (arith, c.requires)) in
    let none = not_taken table c.args.column c.index-table-column.result read
    (sym c.is_some.ensures ∙ c.if-is_some.false) in
    pivot_tested c.are_zeros.result kept table c.args.row.now c.args.column rows
    c.if-column-row.false none
    (some_from_bits (get_or c.args.row.now c.args.column (pos 0)) c.if-row-column-ne0.true)
    c.are_zeros.ensures
