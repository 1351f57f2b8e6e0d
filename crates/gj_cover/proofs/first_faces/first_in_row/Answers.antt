use Rattle.gj_cover.specs.Table.{IsTightInTable}
use Rattle.gj_cover.proofs.FirstFaces.{in_row_none, in_row_found}
use Rattle.gj_cover.proofs.first_faces.first_in_row.Goals as goal

pub returns-in_default : goal.returns-in_default
returns-in_default c =
    let t = c.args.table.now in
    in_row_none t.order (IsTightInTable t) c.args.i c.covering_row.result c.in_default.ensures
    c.covering_row.ensures.covering

pub covering_in_square-requires-clause-second : goal.covering_in_square-requires-clause-second
covering_in_square-requires-clause-second c =
    c.covering_row.ensures.within c.in-Some.b c.in-Some.ensures.found

pub returns : goal.returns
returns c =
    let t = c.args.table.now in
    in_row_found t.order (IsTightInTable t) c.args.i c.in-Some.b c.covering_row.result
    c.covering_in_square.result
    c.in-Some.ensures c.covering_row.ensures.within c.covering_row.ensures.covering
    c.covering_in_square.ensures
