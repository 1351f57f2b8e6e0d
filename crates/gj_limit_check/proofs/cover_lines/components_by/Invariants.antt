use Rattle.gj_limit_check.proofs.LimitNumberedLines.{AreNumberedBy}
use Rattle.gj_limit_check.proofs.cover_lines.components_by.Given as goal

abbrev pub invariant-loop-index : goal.invariant-loop-index
invariant-loop-index l =
    AreNumberedBy l.shape l.lines l.index l.has_line.items l.number.items l.count
