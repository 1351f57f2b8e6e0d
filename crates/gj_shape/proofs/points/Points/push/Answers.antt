use Rattle.std.proofs.Common.{◌++◌, ◌∷◌, [], ap, ◌∙◌}
use Rattle.std.proofs.lemmas.Result.{err_from_is_err_and}
use Rattle.gj_shape.proofs.PointLists.{kept_fractions, kept_more, points_more, point_refused}
use Rattle.gj_shape.proofs.LeastDenominator.{within_of_least}
use Rattle.gj_shape.proofs.points.Points.push.Goals as goal

pub returns-in_err-scale-clause-fault : goal.returns-in_err-scale-clause-fault
returns-in_err-scale-clause-fault c =
    let p = err_from_is_err_and c.from_residual.result c.from_residual.ensures.1 in
    rw (p.1, p.2, ← c.self.view_is)
    (point_refused _ _ _ c.args.point _ c.in_err-scale.field-0.0 c.self.invariant
    c.in_err-scale.ensures.fault)

pub invariant_of-self-2 : goal.invariant_of-self-2
invariant_of-self-2 c =
    rw (
      c.push_reserved.ensures.items,
      c.reserve.ensures.items,
      c.push_reserved-2.ensures.items,
      c.reserve-2.ensures.items,
      c.push_reserved-3.ensures.items,
      c.reserve-3.ensures.items,
    )
    (kept_more _ _ _ c.args.point _ _ c.self.invariant c.in_ok-scale.ensures.least)

pub returns-clause-ok : goal.returns-clause-ok
returns-clause-ok c =
    rw (
      c.push_reserved.ensures.items,
      c.reserve.ensures.items,
      c.push_reserved-2.ensures.items,
      c.reserve-2.ensures.items,
      c.push_reserved-3.ensures.items,
      c.reserve-3.ensures.items,
    )
    (points_more _ _ _ c.args.point c.self.invariant.value_length c.self.invariant.right_length
    ∙ ap (λ points. points ++ c.args.point ∷ []) c.self.view_is)

pub returns-clause-small : goal.returns-clause-small
returns-clause-small c =
    rw (
      c.push_reserved.ensures.items,
      c.reserve.ensures.items,
      c.push_reserved-2.ensures.items,
      c.reserve-2.ensures.items,
      c.push_reserved-3.ensures.items,
      c.reserve-3.ensures.items,
    )
    (kept_fractions _ _ _ _
    (kept_more _ _ _ c.args.point _ _ c.self.invariant c.in_ok-scale.ensures.least)).small

pub returns-clause-common : goal.returns-clause-common
returns-clause-common c =
    rw (
      c.push_reserved.ensures.items,
      c.reserve.ensures.items,
      c.push_reserved-2.ensures.items,
      c.reserve-2.ensures.items,
      c.push_reserved-3.ensures.items,
      c.reserve-3.ensures.items,
    )
    (within_of_least _ _
    (kept_fractions _ _ _ _
    (kept_more _ _ _ c.args.point _ _ c.self.invariant c.in_ok-scale.ensures.least))).common
