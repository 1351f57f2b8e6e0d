use Rattle.gj_theory.proofs.GmicTable.{gmic_minimal}
use Rattle.gj_theory.proofs.cuts.gmic_table_is_minimal.Goals as goal

pub returns : goal.returns
returns c = gmic_minimal
