use Rattle.std.proofs.Common.{flat_map}
use Rattle.std.specs.List.{AllZip, range_with_len}
use Rattle.gj_fill.specs.FillPoints.{IsPairOf, points_from}
use Rattle.gj_fill.proofs.fill_in.points_of.Given as goal

abbrev pub invariant-loop-a : goal.invariant-loop-a
invariant-loop-a l =
    AllZip IsPairOf (flat_map (points_from l.shape l.steps.rise l.steps.fall)
    (range_with_len 0 l.a)) l.points.items
