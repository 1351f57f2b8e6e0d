use Rattle.std.proofs.Common.{◌+◌, ◌<◌, ◌≤◌, pos, refl, sym, subst₂, arith, rules}
use Rattle.gj_shape.specs.Faces.{slack_from}
use Rattle.gj_shape.specs.FunctionData.{at}
use Rattle.gj_shape.specs.declared.faces.FaceKind.{FaceKind}
use Rattle.gj_shape.specs.declared.faces.FaceKind.TheVariants.{Vertex, Horizontal, Vertical, Diagonal, Lower, Upper}
use Rattle.gj_limit_halves.specs.LimitLanes.{AreLeastOf, IsSquare, no_lane}
use Rattle.gj_limit_halves.proofs.FaceLanes.{of_one}
use Rattle.gj_limit_halves.proofs.SquareLanes.{pick, are_faces, stands, one_square}
use Rattle.gj_limit_halves.proofs.lanes.least_in_square.Goals as goal

pub returns : goal.returns
returns c =
    let f = c.args.shape.now in
    let lefts = c.args.lefts.now in
    let values = c.args.values.now in
    let rights = c.args.rights.now in
    let a = c.args.a in
    let b = c.args.b in
    let h = c.requires.lanes in
    let a_below : c.args.a < c.args.shape.now.order = c.requires.first in
    let b_below : c.args.b < c.args.shape.now.order = c.requires.second in
    let sign = λ (kind : FaceKind). h.signs kind a b a_below b_below in
    let vertex =
    stands f.order a b a_below b_below values values values f.value f.value f.value a b (a + b)
    c.lane_of-vertex.result h.value h.value h.value (omega arith) (omega arith)
    (omega arith) c.lane_of-vertex.ensures
    (sign Vertex 0 (pos 0) (omega arith)) in
    let bottom =
    stands f.order a b a_below b_below rights values rights f.right f.value f.right a b (a + b)
    c.lane_of-bottom.result h.right h.value h.right (omega arith) (omega arith)
    (omega arith) c.lane_of-bottom.ensures
    (sign Horizontal 0 (pos 0) (omega arith)) in
    let bottom_end =
    stands f.order a b a_below b_below lefts values lefts f.left f.value f.left (a + 1) b
    (a + b + 1)
    c.lane_of-bottom_end.result h.left h.value h.left (omega arith) (omega arith)
    (omega arith) c.lane_of-bottom_end.ensures
    (sign Horizontal 1 (pos 0) (omega arith)) in
    let side =
    stands f.order a b a_below b_below values rights rights f.value f.right f.right a b (a + b)
    c.lane_of-side.result h.value h.right h.right (omega arith) (omega arith)
    (omega arith) c.lane_of-side.ensures
    (sign Vertical 0 (pos 0) (omega arith)) in
    let side_end =
    stands f.order a b a_below b_below values lefts lefts f.value f.left f.left a (b + 1)
    (a + b + 1)
    c.lane_of-side_end.result h.value h.left h.left (omega arith) (omega arith)
    (omega arith) c.lane_of-side_end.ensures
    (sign Vertical 1 (pos 0) (omega arith)) in
    let slope =
    stands f.order a b a_below b_below lefts rights values f.left f.right f.value (a + 1) b
    (a + b + 1)
    c.lane_of-slope.result h.left h.right h.value (omega arith) (omega arith)
    (omega arith) c.lane_of-slope.ensures
    (sign Diagonal 0 (pos 0) (omega arith)) in
    let slope_end =
    stands f.order a b a_below b_below rights lefts values f.right f.left f.value a (b + 1)
    (a + b + 1)
    c.lane_of-slope_end.result h.right h.left h.value (omega arith) (omega arith)
    (omega arith) c.lane_of-slope_end.ensures
    (sign Diagonal 1 (pos 0) (omega arith)) in
    let lower_first =
    stands f.order a b a_below b_below rights rights rights f.right f.right f.right a b (a + b)
    c.lane_of-lower_first.result h.right h.right h.right (omega arith) (omega arith)
    (omega arith) c.lane_of-lower_first.ensures
    (sign Lower 0 (pos 0) (omega arith)) in
    let lower_east =
    stands f.order a b a_below b_below lefts rights lefts f.left f.right f.left (a + 1) b
    (a + b + 1)
    c.lane_of-lower_east.result h.left h.right h.left (omega arith) (omega arith)
    (omega arith) c.lane_of-lower_east.ensures
    (sign Lower 1 (pos 0) (omega arith)) in
    let lower_north =
    stands f.order a b a_below b_below rights lefts lefts f.right f.left f.left a (b + 1)
    (a + b + 1)
    c.lane_of-lower_north.result h.right h.left h.left (omega arith) (omega arith)
    (omega arith) c.lane_of-lower_north.ensures
    (sign Lower 2 (pos 0) (omega arith)) in
    let upper_east =
    stands f.order a b a_below b_below lefts rights rights f.left f.right f.right (a + 1) b
    (a + b + 1)
    c.lane_of-upper_east.result h.left h.right h.right (omega arith) (omega arith)
    (omega arith) c.lane_of-upper_east.ensures
    (sign Upper 0 (pos 0) (omega arith)) in
    let upper_north =
    stands f.order a b a_below b_below rights lefts rights f.right f.left f.right a (b + 1)
    (a + b + 1)
    c.lane_of-upper_north.result h.right h.left h.right (omega arith) (omega arith)
    (omega arith) c.lane_of-upper_north.ensures
    (sign Upper 1 (pos 0) (omega arith)) in
    let upper_last =
    stands f.order a b a_below b_below lefts lefts lefts f.left f.left f.left (a + 1) (b + 1)
    (a + b + 1 + 1)
    c.lane_of-upper_last.result h.left h.left h.left (omega arith) (omega arith)
    (omega arith) c.lane_of-upper_last.ensures
    (sign Upper 2 (pos 0) (omega arith)) in
    let v = c.lane_of-vertex.result in
    let h' = c.of_two-horizontal.result in
    let w' = c.of_two-vertical.result in
    let d' = c.of_two-diagonal.result in
    let l' = c.of_three-lower.result in
    let u' = c.of_three-upper.result in
    let fits : c.of_two-horizontal.result.beside_zero ≤ no_lane = search rules in
    let faces =
    are_faces f a b v h'.any w'.any d'.any l'.any u'.any h'.beside_zero w'.beside_zero
    d'.beside_zero l'.beside_zero
    u'.beside_zero (of_one (slack_from (at f.value a) (at f.value b) (at f.value (a + b))) v vertex)
    (c.of_two-horizontal.ensures _ _ bottom bottom_end)
    (c.of_two-vertical.ensures _ _ side side_end)
    (c.of_two-diagonal.ensures _ _ slope slope_end)
    (c.of_three-lower.ensures _ _ _ lower_first lower_east lower_north)
    (c.of_three-upper.ensures _ _ _ upper_east upper_north upper_last) in
    subst₂ (AreLeastOf f (IsSquare a b)) (sym c.of_square.ensures.any)
    (sym c.of_square.ensures.beside)
    (one_square f a b a_below b_below (pick v h'.any w'.any d'.any l'.any u'.any)
    (pick no_lane h'.beside_zero w'.beside_zero d'.beside_zero l'.beside_zero u'.beside_zero) faces
    refl
    (omega (arith, fits)))
