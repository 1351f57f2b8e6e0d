use Rattle.std.proofs.Common.{inl}
use Rattle.gj_problem.proofs.AddedSums.{negation_value}
use Rattle.gj_safe_cut.proofs.PointCuts.{is_true}
use Rattle.gj_derivation.proofs.CheckedMoves.{rounded_from_floor}
use Rattle.gj_derivation.proofs.moves.rounded_if.Goals as goal

pub returns : goal.returns
returns c =
    inl (
      is_true c.args.is_whole c.if-not-is_whole.false,
      rounded_from_floor c.args.x c.neg.result c.rounded_down-down.result c.neg-2.result
          (negation_value c.args.x c.neg.result c.neg.ensures)
          c.rounded_down-down.ensures (negation_value c.rounded_down-down.result c.neg-2.result
          c.neg-2.ensures),
    )
