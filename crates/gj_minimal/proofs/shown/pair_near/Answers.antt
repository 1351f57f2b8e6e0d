use Rattle.std.proofs.Common.{◌≡◌, ℕ, pos, ◌<ℤ◌, get_or, ap, sym, subst, ◌∙◌, w64, to_z, of_z, arith}
use Rattle.std.proofs.lemmas.Int.{ints}
use Rattle.gj_shape.specs.SlopeRows.{total}
use Rattle.gj_minimal.proofs.FailedFaces.{same_corners}
use Rattle.gj_minimal.proofs.NearPoints.{two_points}
use Rattle.gj_minimal.proofs.Theory.{some_corners}
use Rattle.gj_minimal.proofs.NearPairs.{corner_up_to, sums_below, pair_shown}
use Rattle.gj_minimal.proofs.EntryBounds.{fine_near_corner}
use Rattle.gj_minimal.proofs.shown.pair_near.Goals as goal

pub limit-limit-requires : goal.limit-limit-requires
limit-limit-requires c =
    let many = same_corners c.args.face.kind c.args.face.a c.args.face.b in
    let within = c.requires.corner in
    omega arith

pub least_denominator-h-requires-clause-negative :
    goal.least_denominator-h-requires-clause-negative
least_denominator-h-requires-clause-negative c =
    let bits : to_z w64 (of_z w64 c.limit-limit.result) ≡ c.limit-limit.result =
    let fits = c.limit-limit.ensures.fits in omega (arith, ints) in
    let limit_is = bits ∙ c.limit-limit.ensures.value
    ∙ ap (λ ns. get_or ns c.args.at_corner (pos 0)) (c.of-square.ensures c.args.face.kind) in
    subst (λ z. z <ℤ pos 0) (sym limit_is) c.requires.negative

pub point_near-requires-clause-some : goal.point_near-requires-clause-some
point_near-requires-clause-some c =
    let some = (some_corners c.args.face.kind 0 0).0 in
    let n_is = c.corners-n.ensures in
    omega arith

pub point_near-requires-2-clause-some : goal.point_near-requires-2-clause-some
point_near-requires-2-clause-some c =
    let some = (some_corners c.args.face.kind 0 0).0 in
    let n_is = c.corners-n.ensures in
    omega arith

pub point_near-requires-clause-coordinate : goal.point_near-requires-clause-coordinate
point_near-requires-clause-coordinate c =
    let order = c.order-order.ensures.value in
    let at = ap (λ (p : ℕ × ℕ). p.0) c.corner-a.ensures in
    let high = (corner_up_to c.args.face.kind c.args.face.a c.args.face.b c.args.at_corner
    c.args.shape.now.order
    c.requires.first c.requires.second c.requires.corner).0 in
    omega arith

pub point_near-requires-2-clause-coordinate : goal.point_near-requires-2-clause-coordinate
point_near-requires-2-clause-coordinate c =
    let order = c.order-order.ensures.value in
    let at = ap (λ (p : ℕ × ℕ). p.1) c.corner-a.ensures in
    let high = (corner_up_to c.args.face.kind c.args.face.a c.args.face.b c.args.at_corner
    c.args.shape.now.order
    c.requires.first c.requires.second c.requires.corner).1 in
    omega arith

pub point_near-requires-clause-sum : goal.point_near-requires-clause-sum
point_near-requires-clause-sum c =
    let order = c.order-order.ensures.value in
    let total = c.coordinate_sums-sum_a.ensures.first in
    let n_is = c.corners-n.ensures ∙ same_corners c.args.face.kind c.args.face.a c.args.face.b in
    rw (order, total, n_is)
    (sums_below c.args.face.kind c.args.face.a c.args.face.b c.args.shape.now.order
    c.requires.first c.requires.second).0

pub point_near-requires-2-clause-sum : goal.point_near-requires-2-clause-sum
point_near-requires-2-clause-sum c =
    let order = c.order-order.ensures.value in
    let total = c.coordinate_sums-sum_a.ensures.second in
    let n_is = c.corners-n.ensures ∙ same_corners c.args.face.kind c.args.face.a c.args.face.b in
    rw (order, total, n_is)
    (sums_below c.args.face.kind c.args.face.a c.args.face.b c.args.shape.now.order
    c.requires.first c.requires.second).1

pub point_near-requires-clause-fine : goal.point_near-requires-clause-fine
point_near-requires-clause-fine c =
    let bits : to_z w64 (of_z w64 c.limit_total.result) ≡ c.limit_total.result =
    let fits = c.limit_total.ensures.fits in omega (arith, ints) in
    let total_is = bits ∙ c.limit_total.ensures.value
    ∙ ap total (c.of-square.ensures c.args.face.kind) in
    let n_is = c.corners-n.ensures ∙ same_corners c.args.face.kind c.args.face.a c.args.face.b in
    fine_near_corner c.args.shape.now c.args.face.kind c.args.face.a c.args.face.b
    c.order-order.result
    c.least_denominator-h.result c.corners-n.result _ c.order-order.ensures.limits
    c.requires.symmetry
    c.order-order.ensures.value n_is total_is c.least_denominator-h.ensures.bounded

pub point_near-requires-2-clause-fine : goal.point_near-requires-2-clause-fine
point_near-requires-2-clause-fine c =
    let bits : to_z w64 (of_z w64 c.limit_total.result) ≡ c.limit_total.result =
    let fits = c.limit_total.ensures.fits in omega (arith, ints) in
    let total_is = bits ∙ c.limit_total.ensures.value
    ∙ ap total (c.of-square.ensures c.args.face.kind) in
    let n_is = c.corners-n.ensures ∙ same_corners c.args.face.kind c.args.face.a c.args.face.b in
    fine_near_corner c.args.shape.now c.args.face.kind c.args.face.a c.args.face.b
    c.order-order.result
    c.least_denominator-h.result c.corners-n.result _ c.order-order.ensures.limits
    c.requires.symmetry
    c.order-order.ensures.value n_is total_is c.least_denominator-h.ensures.bounded

pub returns-clause-shows : goal.returns-clause-shows
returns-clause-shows c =
    let kind = c.args.face.kind in
    let a = c.args.face.a in
    let b = c.args.face.b in
    let limit_bits : to_z w64 (of_z w64 c.limit-limit.result) ≡ c.limit-limit.result =
    let fits = c.limit-limit.ensures.fits in omega (arith, ints) in
    let limit_is = limit_bits ∙ c.limit-limit.ensures.value
    ∙ ap (λ ns. get_or ns c.args.at_corner (pos 0)) (c.of-square.ensures kind) in
    let total_bits : to_z w64 (of_z w64 c.limit_total.result) ≡ c.limit_total.result =
    let fits = c.limit_total.ensures.fits in omega (arith, ints) in
    let total_is = total_bits ∙ c.limit_total.ensures.value ∙ ap total (c.of-square.ensures kind) in
    let n_is = c.corners-n.ensures ∙ same_corners kind a b in
    pair_shown c.args.shape.now kind a b c.args.at_corner c.least_denominator-h.result
    c.corners-n.result
    c.order-order.result c.corner-a.result.0 c.corner-a.result.1 c.coordinate_sums-sum_a.result.0
    c.coordinate_sums-sum_a.result.1 _ _ c.point_near.result c.point_near-2.result
    c.order-order.ensures.limits
    c.requires.corner c.order-order.ensures.value n_is c.corner-a.ensures
    c.coordinate_sums-sum_a.ensures.first
    c.coordinate_sums-sum_a.ensures.second limit_is total_is c.least_denominator-h.ensures.least
    c.point_near.ensures.value c.point_near-2.ensures.value

pub returns-clause-points : goal.returns-clause-points
returns-clause-points c =
    let bits : to_z w64 (of_z w64 c.limit_total.result) ≡ c.limit_total.result =
    let fits = c.limit_total.ensures.fits in omega (arith, ints) in
    let total_is = bits ∙ c.limit_total.ensures.value
    ∙ ap total (c.of-square.ensures c.args.face.kind) in
    let n_is = c.corners-n.ensures ∙ same_corners c.args.face.kind c.args.face.a c.args.face.b in
    let fine = fine_near_corner c.args.shape.now c.args.face.kind c.args.face.a c.args.face.b
    c.order-order.result
    c.least_denominator-h.result c.corners-n.result _ c.order-order.ensures.limits
    c.requires.symmetry
    c.order-order.ensures.value n_is total_is c.least_denominator-h.ensures.bounded in
    let some = (some_corners c.args.face.kind c.args.face.a c.args.face.b).0 in
    let from = c.least_denominator-h.ensures.least.from in
    two_points c.args.shape.now c.order-order.result c.least_denominator-h.result _ _
    c.point_near.result
    c.point_near-2.result c.order-order.ensures.value (omega arith) fine c.point_near.ensures.below
    c.point_near-2.ensures.below c.point_near.ensures.value c.point_near-2.ensures.value
