use Rattle.std.proofs.Common.{◌-◌}
use Rattle.gj_jumps.specs.LimitCover.{IsTightAt}
use Rattle.gj_limit_cover.proofs.RowCovers.{NoneBefore}
use Rattle.gj_limit_cover.proofs.faces.covering_in_row.Given as goal

abbrev pub invariant-squares : goal.invariant-squares
invariant-squares l = NoneBefore l.shape.order (IsTightAt l.shape) l.a l.i l.from

abbrev pub decreases-squares : goal.decreases-squares
decreases-squares l = 1024 - l.from
