use Rattle.std.proofs.Common.{rules, get_or, drop, ◌+◌, sym, ap, ◌∙◌}
use Rattle.std.proofs.lemmas.Int.{to_z-of_z}
use Rattle.std.proofs.lemmas.List.{drop_more, drop_all}
use mir.Syntax.{w128}
use Rattle.gj_sparse_elim.specs.Sparse.{factor_at}
use Rattle.gj_sparse_elim.proofs.SparseRows.{no_entry, factor_here, factor_later}
use Rattle.gj_limit_check_groups.proofs.row.factor_of.Goals as goal

pub returns-then-entry-column : goal.returns-then-entry-column
returns-then-entry-column c =
    let row = c.args.row.now in
    let i = c.loop-entry.entry-index in
    let e = get_or row i no_entry in
    to_z-of_z w128 e.factor (search rules)
    ∙ sym (factor_here e (drop (i + 1) row) c.args.column c.if-entry-column.true)
    ∙ sym (ap (λ xs. factor_at xs c.args.column) (drop_more row i no_entry c.loop-entry-test.true))
    ∙ sym c.loop-entry.invariant

pub loop-entry-preserved : goal.loop-entry-preserved
loop-entry-preserved c =
    let row = c.args.row.now in
    let i = c.loop-entry.entry-index in
    let e = get_or row i no_entry in
    c.loop-entry.invariant
    ∙ ap (λ xs. factor_at xs c.args.column) (drop_more row i no_entry c.loop-entry-test.true)
    ∙ factor_later e (drop (i + 1) row) c.args.column c.if-entry-column.false

pub returns : goal.returns
returns c =
    sym (c.loop-entry.invariant
    ∙ ap (λ xs. factor_at xs c.args.column)
    (drop_all c.loop-entry.entry-index c.args.row.now c.loop-entry-test.false))
