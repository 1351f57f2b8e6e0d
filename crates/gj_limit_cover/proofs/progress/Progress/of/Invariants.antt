use Rattle.gj_cover.specs.Progress.{unnumbered}
use Rattle.gj_limit_cover.specs.Progress.{IsProgress}
use Rattle.gj_jumps.specs.LimitCover.{IsTightAt}
use Rattle.gj_limit_cover.proofs.progress.Progress.of.Given as goal

abbrev pub invariant-loop-next : goal.invariant-loop-next
invariant-loop-next l = IsProgress l.shape.order (IsTightAt l.shape) l.progress

abbrev pub decreases-loop-next : goal.decreases-loop-next
decreases-loop-next l = unnumbered l.progress.component.items
