use Rattle.std.proofs.Common.{◌*◌, ◌≤◌, subst, arith}
use Rattle.std.proofs.Math.Nat.{mul_comm, mul-le-mul_right}
use Rattle.gj_check_minimal.proofs.TestsInTurn.{in_other_words}
use Rattle.gj_check.proofs.FractionalParts.{are_parts, place_some, gmic_rising, gmic_falling}
use Rattle.gj_check.proofs.cut_values.is_gmic_coefficient.Goals as goal

pub is_ratio-requires : goal.is_ratio-requires
is_ratio-requires c =
    let parts = are_parts c.args.right c.args.entry c.part_of.result
    c.denominator_of-right_den.result c.part_of-2.result
    c.denominator_of-entry_den.result c.part_of.ensures.value
    c.denominator_of-right_den.ensures.value c.part_of-2.ensures.value
    c.denominator_of-entry_den.ensures.value in
    place_some c.args.right c.args.entry _ _ _ _ c.requires.gives parts

pub returns-then-index-place : goal.returns-then-index-place
returns-then-index-place c =
    let parts = are_parts c.args.right c.args.entry c.part_of.result
    c.denominator_of-right_den.result c.part_of-2.result
    c.denominator_of-entry_den.result c.part_of.ensures.value
    c.denominator_of-right_den.ensures.value c.part_of-2.ensures.value
    c.denominator_of-entry_den.ensures.value in
    in_other_words _ _ _ c.is_ratio.ensures
    (gmic_rising c.args.right c.args.entry c.args.x _ _ _ _ parts c.if-index-place.true)

pub returns : goal.returns
returns c =
    let p = c.part_of.result in
    let q = c.denominator_of-right_den.result in
    let r = c.part_of-2.result in
    let d = c.denominator_of-entry_den.result in
    let q_is = c.denominator_of-right_den.ensures.value in
    let d_is = c.denominator_of-entry_den.ensures.value in
    let parts = are_parts c.args.right c.args.entry p q r d c.part_of.ensures.value q_is
    c.part_of-2.ensures.value d_is in
    let place_below = c.part_of.ensures.below in
    let index_below = c.part_of-2.ensures.below in
    let place_low : p * d ≤ q * d = mul-le-mul_right d (omega arith) in
    let index_low : r * q ≤ q * d =
    subst (λ n. r * q ≤ n) (mul_comm d q) (mul-le-mul_right q (omega arith)) in
    in_other_words _ _ _ c.is_ratio-2.ensures
    (gmic_falling c.args.right c.args.entry c.args.x p q r d parts c.if-index-place.false index_low
    place_low)
