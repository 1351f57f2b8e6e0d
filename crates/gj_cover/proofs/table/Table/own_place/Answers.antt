use Rattle.std.proofs.Common.{subst}
use Rattle.gj_cover.specs.Sides.{AreSides}
use Rattle.gj_cover.proofs.table.Table.own_place.Goals as goal

pub returns-in-Rows : goal.returns-in-Rows
returns-in-Rows c =
    let t = c.args.self.now in
    subst (AreSides t.order t.rows.items) c.in-Rows.is t.sides_are
