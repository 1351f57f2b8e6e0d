use Rattle.std.proofs.Common.{◌≡◌, ◌+◌, ◌%◌, ◌<◌, length, ap, sym, ◌∙◌, subst, arith}
use Rattle.gj_cover.specs.SetRows.{in_row}
use Rattle.gj_cover.specs.Sides.{AreApart, AreSides}
use Rattle.gj_cover.proofs.SetRows.{row_has}
use Rattle.gj_cover.proofs.TablePairs.{read_tight}
use Rattle.gj_cover.proofs.table.Table.firsts.Goals as goal

pub returns-in-Apart : goal.returns-in-Apart
returns-in-Apart c a b a_below b_below e =
    let t = c.args.self.now in
    let s = c.wrapped.result in
    let sets = c.in-Apart in
    let apart : AreApart t.order t.rows.items sets.columns.items sets.firsts.items
    sets.seconds.items =
    subst (AreSides t.order t.rows.items) sets.is t.sides_are in
    let in' : s < length sets.firsts.items =
    omega (arith, c.wrapped.ensures.below, apart.firsts_length) in
    let same : s ≡ (a + b) % t.order = c.wrapped.ensures.value ∙ sym e in
    sym (row_has sets.firsts.items s a c.index.result.now in' c.index.ensures)
    ∙ ap (λ n. in_row sets.firsts.items n a) same ∙ apart.firsts_are a b a_below b_below
    ∙ read_tight t a b a_below b_below
