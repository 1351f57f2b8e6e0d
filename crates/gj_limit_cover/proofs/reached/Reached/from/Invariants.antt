use Rattle.gj_cover.specs.Reached.{AreReached, unfinished}
use Rattle.gj_limit_cover.specs.Linking.{limit_linking}
use Rattle.gj_limit_cover.specs.Reached.{reached_data}
use Rattle.gj_jumps.specs.LimitCover.{IsTightAt}
use Rattle.gj_limit_cover.proofs.reached.Reached.from.Given as goal

abbrev pub invariant-loop-interval : goal.invariant-loop-interval
invariant-loop-interval l = AreReached (limit_linking l.shape.order (IsTightAt l.shape)) l.start
    (reached_data l.found)

abbrev pub decreases-loop-interval : goal.decreases-loop-interval
decreases-loop-interval l = unfinished (reached_data l.found) 1024
