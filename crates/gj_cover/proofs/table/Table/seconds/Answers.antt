use Rattle.std.proofs.Common.{◌≡◌, ◌+◌, ◌%◌, ◌<◌, length, ap, sym, ◌∙◌, subst, arith}
use Rattle.gj_cover.specs.SetRows.{in_row}
use Rattle.gj_cover.specs.Sides.{AreApart, AreOwnSides, AreSides}
use Rattle.gj_cover.proofs.SetRows.{row_has}
use Rattle.gj_cover.proofs.TablePairs.{read_tight, symmetric_tight}
use Rattle.gj_cover.proofs.table.Table.seconds.Goals as goal

pub returns-in-Apart : goal.returns-in-Apart
returns-in-Apart c a b a_below b_below e =
    let t = c.args.self.now in
    let s = c.wrapped.result in
    let sets = c.in-Apart in
    let apart : AreApart t.order t.rows.items sets.columns.items sets.firsts.items
    sets.seconds.items =
    subst (AreSides t.order t.rows.items) sets.is t.sides_are in
    let in' : s < length sets.seconds.items =
    omega (arith, c.wrapped.ensures.below, apart.seconds_length) in
    let same : s ≡ (a + b) % t.order = c.wrapped.ensures.value ∙ sym e in
    sym (row_has sets.seconds.items s b c.index.result.now in' c.index.ensures)
    ∙ ap (λ n. in_row sets.seconds.items n b) same ∙ apart.seconds_are a b a_below b_below
    ∙ read_tight t a b a_below b_below

pub returns-in-Rows : goal.returns-in-Rows
returns-in-Rows c a b a_below b_below e =
    let t = c.args.self.now in
    let own : AreOwnSides t.order t.rows.items c.in-Rows.place =
    subst (AreSides t.order t.rows.items) c.in-Rows.is t.sides_are in
    let turned : b + a ≡ a + b = omega arith in
    c.row_of_sum.ensures b a b_below a_below (ap (λ n. n % t.order) turned ∙ e)
    ∙ symmetric_tight t own.columns_are b a
