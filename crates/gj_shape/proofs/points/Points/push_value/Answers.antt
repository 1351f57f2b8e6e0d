use Rattle.std.proofs.Common.{rules, ◌++◌, ◌∷◌, [], ap, ◌∙◌}
use Rattle.gj_shape.specs.Points.{even_point}
use Rattle.gj_shape.proofs.PointLists.{kept_fractions, kept_more, points_more}
use Rattle.gj_shape.proofs.LeastDenominator.{least_with_three, within_of_least}
use Rattle.gj_shape.proofs.points.Points.push_value.Goals as goal

pub invariant_of-self-2 : goal.invariant_of-self-2
invariant_of-self-2 c =
    let goes = c.if-not-goes_with.ensures (search rules) in
    rw (
      c.push_reserved.ensures.items,
      c.reserve.ensures.items,
      c.push_reserved-2.ensures.items,
      c.reserve-2.ensures.items,
      c.push_reserved-3.ensures.items,
      c.reserve-3.ensures.items,
    )
    (kept_more _ _ _ (even_point c.args.value) _ _ c.self.invariant
    (least_with_three _ _ _ _ _ _ _ goes goes goes))

pub returns-clause-ok : goal.returns-clause-ok
returns-clause-ok c =
    rw (
      c.push_reserved.ensures.items,
      c.reserve.ensures.items,
      c.push_reserved-2.ensures.items,
      c.reserve-2.ensures.items,
      c.push_reserved-3.ensures.items,
      c.reserve-3.ensures.items,
    )
    (points_more _ _ _ (even_point c.args.value) c.self.invariant.value_length
    c.self.invariant.right_length
    ∙ ap (λ points. points ++ even_point c.args.value ∷ []) c.self.view_is)

pub returns-clause-small : goal.returns-clause-small
returns-clause-small c =
    (kept_fractions _ _ _ _ (invariant_of-self-2 c)).small

pub returns-clause-common : goal.returns-clause-common
returns-clause-common c =
    (within_of_least _ _ (kept_fractions _ _ _ _ (invariant_of-self-2 c))).common
