use Rattle.gj_cover.specs.Progress.{IsProgress, unnumbered}
use Rattle.gj_cover.specs.Table.{IsTightInTable}
use Rattle.gj_cover.proofs.progress.Progress.of.Given as goal

abbrev pub invariant-loop-next : goal.invariant-loop-next
invariant-loop-next l = IsProgress l.table.order (IsTightInTable l.table) l.progress

abbrev pub decreases-loop-next : goal.decreases-loop-next
decreases-loop-next l = unnumbered l.progress.component.items
