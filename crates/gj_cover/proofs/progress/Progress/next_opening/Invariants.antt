use Rattle.gj_cover.specs.Progress.{AreSearched}
use Rattle.gj_cover.specs.Table.{IsTightInTable}
use Rattle.gj_cover.proofs.progress.Progress.next_opening.Given as goal

abbrev pub invariant-loop-interval : goal.invariant-loop-interval
invariant-loop-interval l =
    AreSearched l.table.order (IsTightInTable l.table) l.self.component.items l.interval
