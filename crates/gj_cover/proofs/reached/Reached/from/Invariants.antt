use Rattle.gj_cover.specs.Reached.{reached_data, AreReached, unfinished}
use Rattle.gj_cover.specs.Linking.{tight_linking}
use Rattle.gj_cover.specs.Table.{IsTightInTable}
use Rattle.gj_cover.proofs.reached.Reached.from.Given as goal

abbrev pub invariant-loop-interval : goal.invariant-loop-interval
invariant-loop-interval l =
    AreReached (tight_linking l.table.order (IsTightInTable l.table)) l.start
    (reached_data l.found)

abbrev pub decreases-loop-interval : goal.decreases-loop-interval
decreases-loop-interval l = unfinished (reached_data l.found) 1024
