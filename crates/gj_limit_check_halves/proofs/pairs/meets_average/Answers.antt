use Rattle.gj_limit_check_halves.proofs.Refinements.{averages, average_read}
use Rattle.gj_limit_check_halves.proofs.pairs.meets_average.Goals as goal

pub returns : goal.returns
returns c =
    let f = c.args.shape.now in
    let h = c.args.halves.now in
    let r = c.args.refinement in
    let left = average_read f r c.args.index _ _ _ _ _ _ _ c.left_numerators.ensures.value
    c.as_slice-left.ensures
    c.as_slice-other_left.ensures c.is_average.ensures in
    let value = average_read f r c.args.index _ _ _ _ _ _ _ c.value_numerators.ensures.value
    c.as_slice-value.ensures
    c.as_slice-other_value.ensures c.is_average-2.ensures in
    let right = average_read f r c.args.index _ _ _ _ _ _ _ c.right_numerators.ensures.value
    c.as_slice-right.ensures
    c.as_slice-other_right.ensures c.is_average-3.ensures in
    let all = averages f h r c.args.index c.left_numerators.ensures.limits c.requires.halves
    c.requires.refinement in (
      λ t. all.0 (left.0 c.if-not-is_average.false, value.0 c.if-not-is_average-2.false, right.0 t),
      λ m. right.1 (all.1 m).2,
    )
