use Rattle.gj_loops.specs.IndexSets.{has}
use Rattle.gj_jumps.specs.LimitCover.{IsTightAt}
use Rattle.gj_limit_faces.proofs.RowSets.{tells_both}
use Rattle.gj_limit_faces.proofs.row_joins.along.Goals as goal

pub returns : goal.returns
returns c b =
    let f = c.args.shape.now in
    tells_both (has c.and.result b) (has c.row-first.result b) (has c.row.result b) b f.order
    (IsTightAt f c.args.kind c.args.a b 0) (IsTightAt f c.args.kind c.args.a b 1) (c.and.ensures b)
    (c.row-first.ensures b) (c.row.ensures b)
