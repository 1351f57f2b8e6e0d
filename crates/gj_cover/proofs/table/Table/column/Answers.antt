use Rattle.std.proofs.Common.{◌%◌, ◌<◌, length, refl, ap, sym, ◌∙◌, subst, arith}
use Rattle.std.proofs.Math.Nat.{mod-mod}
use Rattle.gj_cover.specs.Sides.{AreApart, AreOwnSides, AreSides}
use Rattle.gj_cover.proofs.SetRows.{row_has}
use Rattle.gj_cover.proofs.TablePairs.{same_tight, read_tight, symmetric_tight}
use Rattle.gj_cover.proofs.table.Table.column.Goals as goal

pub returns-in-Apart : goal.returns-in-Apart
returns-in-Apart c a below =
    let t = c.args.self.now in
    let b = c.wrapped.result in
    let sets = c.in-Apart in
    let apart : AreApart t.order t.rows.items sets.columns.items sets.firsts.items
    sets.seconds.items =
    subst (AreSides t.order t.rows.items) sets.is t.sides_are in
    let in' : b < length sets.columns.items =
    omega (arith, c.wrapped.ensures.below, apart.columns_length) in
    sym (row_has sets.columns.items b a c.index.result.now in' c.index.ensures)
    ∙ apart.columns_are a b below c.wrapped.ensures.below
    ∙ read_tight t a b below c.wrapped.ensures.below
    ∙ same_tight t a b a c.args.b refl (ap (λ n. n % t.order) c.wrapped.ensures.value
    ∙ mod-mod c.args.b t.order)

pub returns-in-Rows : goal.returns-in-Rows
returns-in-Rows c a below =
    let t = c.args.self.now in
    let own : AreOwnSides t.order t.rows.items c.in-Rows.place =
    subst (AreSides t.order t.rows.items) c.in-Rows.is t.sides_are in
    c.row.ensures a below ∙ symmetric_tight t own.columns_are c.args.b a
