use Rattle.std.proofs.Common.{◌%◌, ◌<◌, length, ap, sym, ◌∙◌, arith}
use Rattle.std.proofs.Math.Nat.{mod-eq_of_lt}
use Rattle.gj_cover.specs.SetRows.{in_row}
use Rattle.gj_cover.specs.Table.{is_tight_in}
use Rattle.gj_cover.proofs.SetRows.{row_has}
use Rattle.gj_cover.proofs.table.Table.row.Goals as goal

pub returns : goal.returns
unfolding is_tight_in
returns c b below =
    let t = c.args.self.now in
    let a = c.wrapped.result in
    sym (row_has t.rows.items a b c.index.result.now (let in' : a < length t.rows.items =
    omega (arith, c.wrapped.ensures.below, t.rows_length) in in') c.index.ensures)
    ∙ ap (λ n. in_row t.rows.items n b) c.wrapped.ensures.value
    ∙ ap (in_row t.rows.items (c.args.a % t.order)) (sym (mod-eq_of_lt below))
