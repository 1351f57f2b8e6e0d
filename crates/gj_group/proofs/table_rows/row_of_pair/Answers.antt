use Rattle.std.proofs.Common.{inl, inr, ◌+◌, ◌%◌, to_z, of_z, refl, ap}
use Rattle.std.proofs.lemmas.Result.{err_from_is_err_and}
use mir.Syntax.{w128}
use Rattle.gj_group.proofs.DenseRows.{pair_written}
use Rattle.gj_group.proofs.table_rows.row_of_pair.Goals as goal

pub returns-in_err-row : goal.returns-in_err-row
returns-in_err-row c =
    rw (err_from_is_err_and c.from_residual.result c.from_residual.ensures.1).1 tt

pub returns : goal.returns
returns c =
    pair_written c.args.order c.args.a c.args.b ((c.args.a + c.args.b) % c.args.order) _
    c.in_ok-row.row.items
    (c.in_ok-row.ensures.items_if_clones_equal (λ y e. e)) c.requires.some c.requires.ordered
    c.requires.within refl
    (elim c.times_in_pair.ensures [
      | inl h ↦ inl (h.0, ap (λ z. to_z w128 (of_z w128 z)) h.1)
      | inr h ↦ inr (h.0, ap (λ z. to_z w128 (of_z w128 z)) h.1)
    ])
