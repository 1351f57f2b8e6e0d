use Rattle.gj_faces.proofs.lanes.wide_rows.Goals as goal

pub rows_over-requires-clause-range : goal.rows_over-requires-clause-range
rows_over-requires-clause-range c = c.requires.range
