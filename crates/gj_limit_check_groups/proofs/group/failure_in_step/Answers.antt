use Rattle.std.proofs.Common.{rules, ◌≡◌, ◌≢◌, ℕ, ◌<◌, ◌≤◌, ◌⊎◌, inl, inr, ℤ, pos, List, length, get_or, refl, sym, ap, subst, ◌∙◌, arith}
use Rattle.std.specs.Prelude.{Option, None, Some}
use Rattle.std.proofs.lemmas.Bool.{cases_lt}
use Rattle.std.proofs.lemmas.List.{get_or_past}
use Rattle.gj_shape.specs.Elimination.{at_column, Passes}
use Rattle.gj_theory.proofs.WideNumbers.{some_from_bits, zero_from_bits}
use Rattle.gj_proof.specs.PresentRows.{arithmetic_of}
use Rattle.gj_check_groups.proofs.Tables.{no_step, step_meets, step_too_wide}
use Rattle.gj_sparse_elim.specs.declared.entry.Entry.{Entry}
use Rattle.gj_sparse_elim.specs.Sparse.{factor_at, dense}
use Rattle.gj_sparse_elim.proofs.SparseRows.{at_dense}
use Rattle.gj_limit_check_groups.specs.SparseRows.{dense_rows}
use Rattle.gj_limit_check_groups.proofs.SparseEntries.{few_entries}
use Rattle.gj_limit_check_groups.proofs.SparseTables.{row_some, row_none, row_sparse}
use Rattle.gj_limit_check_groups.proofs.group.failure_in_step.Goals as goal

pub returns-in-None-clause-outcome : goal.returns-in-None-clause-outcome
returns-in-None-clause-outcome c kept rows =
    let table = c.args.table.now in
    let n = length table in
    no_step kept (dense_rows n table) (dense n c.args.row.now.entries.items) c.args.column rows
    (row_none n table c.args.column c.in-None.ensures.none)

-- the entry of the row at a column of the table
entry : (n : ℕ) (table : List (Option (List Entry))) (c : ℕ) (e row read : List Entry) (x : ℤ) →
    n ≡ length table →
    Some e ≡ get_or table c None → x ≡ factor_at read c → read ≡ row → at_column (dense n row) c ≡ x
entry n table c e row read x n_is is x_is read_is = by_place (cases_lt c (length table))
  where
    by_place : (c < length table) ⊎ (length table ≤ c) → at_column (dense n row) c ≡ x
    by_place (inl inside) = at_dense n row c (omega arith) ∙ sym (ap (λ xs. factor_at xs c) read_is)
        ∙ sym x_is
    by_place (inr past) = absurd (let none = get_or_past table c None past in cc)

pub returns-then-factor_of-eq0-clause-outcome : goal.returns-then-factor_of-eq0-clause-outcome
returns-then-factor_of-eq0-clause-outcome c kept rows h =
    let x = c.factor_of.result in
    h.not_zero
    (entry (length c.args.table.now) c.args.table.now c.args.column c.in-Some.kept.now
    c.args.row.now.entries.items
    c.as_slice.result.now x refl c.in-Some.ensures.some c.factor_of.ensures c.as_slice.ensures.value
    ∙ zero_from_bits x (search rules) c.if-factor_of-eq0.true)

-- it is not 0
some_there : (n : ℕ) (table : List (Option (List Entry))) (c : ℕ) (e row read : List Entry)
    (x : ℤ) → n ≡ length table →
    Some e ≡ get_or table c None → x ≡ factor_at read c → read ≡ row → x ≢ pos 0 →
    at_column (dense n row) c ≢ pos 0
some_there n table c e row read x n_is is x_is read_is some none =
    some (sym (entry n table c e row read x n_is is x_is read_is) ∙ none)

pub make_room-requires : goal.make_room-requires
make_room-requires c =
    let t = c.requires.table in
    let e = row_sparse c.args.numbers (length c.args.table.now) c.args.table.now c.args.column
    c.in-Some.kept.now t
    c.in-Some.ensures.some in
    let few = few_entries (length c.args.table.now) c.in-Some.kept.now e.0 in
    omega (arith, t.few)

pub reduce-requires-clause-kept : goal.reduce-requires-clause-kept
reduce-requires-clause-kept c =
    (row_sparse c.args.numbers (length c.args.table.now) c.args.table.now c.args.column
    c.in-Some.kept.now c.requires.table
    c.in-Some.ensures.some).1

pub returns-in-Ok-clause-outcome : goal.returns-in-Ok-clause-outcome
returns-in-Ok-clause-outcome c kept rows =
    let table = c.args.table.now in
    let n = length table in
    let row = c.args.row.now.entries.items in
    let e = c.in-Some.kept.now in
    let same = c.in_ok-make_room.ensures.entries in
    step_meets c.args.numbers kept (dense_rows n table) (dense n row) (dense n e)
    (dense n c.reduce.new.row.entries.items)
    c.args.column rows (row_some n table c.args.column e c.in-Some.ensures.some)
    (some_there n table c.args.column e row c.as_slice.result.now c.factor_of.result refl
    c.in-Some.ensures.some
    c.factor_of.ensures c.as_slice.ensures.value
    (some_from_bits c.factor_of.result c.if-factor_of-eq0.false))
    (λ passes. c.in-Ok.ensures.narrow
    (subst (λ (xs : List Entry). Passes
    ((arithmetic_of c.args.numbers).marked (dense n e) (dense n xs) c.args.column))
    (sym same) passes))
    (c.in-Ok.ensures.reduced.value
    ∙ ap (λ xs. (arithmetic_of c.args.numbers).step (dense n e) (dense n xs) c.args.column) same)

pub returns-in-Err-clause-outcome : goal.returns-in-Err-clause-outcome
returns-in-Err-clause-outcome c kept rows =
    let table = c.args.table.now in
    let n = length table in
    let row = c.args.row.now.entries.items in
    let e = c.in-Some.kept.now in
    step_too_wide c.args.numbers kept (dense_rows n table) (dense n row) (dense n e) c.args.column
    rows
    (row_some n table c.args.column e c.in-Some.ensures.some)
    (some_there n table c.args.column e row c.as_slice.result.now c.factor_of.result refl
    c.in-Some.ensures.some
    c.factor_of.ensures c.as_slice.ensures.value
    (some_from_bits c.factor_of.result c.if-factor_of-eq0.false))
    (subst (λ (xs : List Entry). Passes
    ((arithmetic_of c.args.numbers).marked (dense n e) (dense n xs) c.args.column))
    c.in_ok-make_room.ensures.entries c.in-Err.ensures.wide)
