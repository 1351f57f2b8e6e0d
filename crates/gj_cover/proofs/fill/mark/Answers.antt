use Rattle.std.proofs.Common.{length, refl}
use Rattle.gj_cover.proofs.Marks.{marked_run}
use Rattle.gj_cover.proofs.fill.mark.Goals as goal

pub returns-clause-marked : goal.returns-clause-marked
returns-clause-marked c =
    marked_run (length c.args.rows.now.items) c.args.run c.args.rows.now.items c.index.result.now
    c.between-places.result c.or.result
    refl c.requires.run.row c.index.ensures c.between-places.ensures c.or.ensures
