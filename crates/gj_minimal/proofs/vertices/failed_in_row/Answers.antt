use Rattle.gj_minimal.proofs.FailedVertices.{row_from_ahead}
use Rattle.gj_minimal.proofs.vertices.failed_in_row.Goals as goal

pub returns-then-row_passes-clause-none : goal.returns-then-row_passes-clause-none
returns-then-row_passes-clause-none g c =
    row_from_ahead c.args.shape.now c.args.a c.requires.limits c.requires.symmetry c.requires.within
    c.requires.rows
    (c.row_passes.ensures c.if-row_passes.true)
