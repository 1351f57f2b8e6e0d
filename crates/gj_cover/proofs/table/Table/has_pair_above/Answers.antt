use Rattle.std.proofs.Common.{◌%◌, ◌<◌, length, refl, ap, sym, ◌∙◌, arith}
use Rattle.std.proofs.Math.Nat.{mod-mod}
use Rattle.gj_cover.specs.Table.{IsTightInTable}
use Rattle.gj_cover.proofs.SetRows.{row_has}
use Rattle.gj_cover.proofs.TablePairs.{read_tight, same_tight}
use Rattle.gj_cover.proofs.table.Table.has_pair_above.Goals as goal

pub returns : goal.returns
unfolding IsTightInTable
returns c =
    let t = c.args.self.now in
    let i = c.args.i in
    let j = c.wrapped.result in
    let in' : i < length t.rows.items = omega (arith, c.requires.first, t.rows_length) in
    let at = c.contains.ensures
    ∙ sym (row_has t.rows.items i j c.index.result.now in' c.index.ensures)
    ∙ read_tight t i j c.requires.first c.wrapped.ensures.below
    ∙ same_tight t i j i c.args.j refl (ap (λ n. n % t.order) c.wrapped.ensures.value
    ∙ mod-mod c.args.j t.order) in
    (λ h. sym at ∙ h, λ h. at ∙ h)
