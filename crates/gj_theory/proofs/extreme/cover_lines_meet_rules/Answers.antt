use Rattle.gj_theory.proofs.CoverLines.{lines_meet_rules}
use Rattle.gj_theory.proofs.extreme.cover_lines_meet_rules.Goals as goal

pub returns : goal.returns
returns c f = lines_meet_rules f.order _
