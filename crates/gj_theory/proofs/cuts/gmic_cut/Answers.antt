use Rattle.gj_theory.proofs.RowGrids.{cut_by_gmic}
use Rattle.gj_theory.proofs.cuts.gmic_cut.Goals as goal

pub returns : goal.returns
returns c = cut_by_gmic
