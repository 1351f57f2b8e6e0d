use Rattle.gj_real_cuts.proofs.RowCuts.{row_cut}
use Rattle.gj_real_cuts.proofs.rows.row_cuts_over_reals.Goals as goal

pub returns : goal.returns
returns g c = row_cut g.K.Reals.field g.K.Reals.floors
