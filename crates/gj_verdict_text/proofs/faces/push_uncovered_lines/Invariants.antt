use Rattle.gj_verdict_text.specs.FacesText.{ArePushed}
use Rattle.gj_verdict_text.proofs.faces.push_uncovered_lines.Given as goal

abbrev pub invariant-loop-interval : goal.invariant-loop-interval
invariant-loop-interval l = ArePushed l.component l.interval l.fn.out.items l.out.items
