use Rattle.std.proofs.Common.{◌≡◌, ◌&&◌, ◌||◌, ltb, ap, ◌∙◌, subst}
use Rattle.gj_loops.specs.IndexSets.{has}
use Rattle.gj_shape.specs.declared.faces.FaceKind.TheVariants.{Horizontal, Diagonal, Lower, Upper}
use Rattle.gj_limit_faces.specs.RowJoins.{IsTightAlong}
use Rattle.gj_jumps.specs.LimitCover.{IsTightAt}
use Rattle.gj_limit_faces.proofs.RowSets.{tells_both, tells_three, tells_three_back, tells_any, tells_horizontal}
use Rattle.gj_limit_faces.proofs.row_joins.RowJoins.of.Goals as goal

pub returns : goal.returns
returns c =
    let f = c.args.shape.now in
    let a = c.args.a in
    let q = f.order in
    let n = c.order-order.ensures.value in
    let limits = c.order-order.ensures.limits in
    let T = IsTightAt f in
    record {
      horizontal = λ b.
          tells_horizontal q b (has c.and.result b) (has c.or-any.result b)
          (has c.or-level_or_bottom.result b) (has c.along-level.result b) (has c.and-bottom.result
          b)
          (has c.turned_up-top.result b) (has c.and-upper_top.result)
          (IsTightAlong T Horizontal a b 0 1) (IsTightAlong T Lower a b 0 1)
          (λ k. IsTightAlong T Upper a k 1 2) limits.order_low limits.order_high
          (subst (λ m. has c.and.result b ≡ (has c.or-any.result b && ltb b m)) n
          (c.and.ensures b ∙ ap (λ x. has c.or-any.result b && x) (c.below-within.ensures b)))
          (c.or-any.ensures b) (c.or-level_or_bottom.ensures b) (c.along-level.ensures b)
          (tells_both (has c.and-bottom.result b) (has c.row-first.result b)
          (has c.row-east.result b)
          b q (T Lower a b 0) (T Lower a b 1) (c.and-bottom.ensures b) (c.row-first.ensures b)
          (c.row-east.ensures b))
          (λ k. tells_both (has c.and-upper_top.result k) (has c.row-upper_north.result k)
          (has c.row-last.result k) k q (T Upper a k 1) (T Upper a k 2) (c.and-upper_top.ensures k)
          (c.row-upper_north.ensures k) (c.row-last.ensures k))
          (rw (← n) (c.turned_up-top.ensures b));
      diagonal = λ b.
          tells_any (has c.or.result b) (has c.along-slope.result b) (has c.and-lower_slope.result
          b)
          (has c.and-upper_slope.result b) b q (IsTightAlong T Diagonal a b 0 1)
          (IsTightAlong T Lower a b 1 2) (IsTightAlong T Upper a b 0 1)
          (c.or.ensures b ∙ ap (λ x. x || has c.and-upper_slope.result b)
          (c.or-slope_or_lower.ensures b))
          (c.along-slope.ensures b)
          (tells_both (has c.and-lower_slope.result b) (has c.row-east.result b)
          (has c.row-north.result b) b q (T Lower a b 1) (T Lower a b 2) (c.and-lower_slope.ensures
          b)
          (c.row-east.ensures b) (c.row-north.ensures b))
          (tells_both (has c.and-upper_slope.result b) (has c.row-upper_east.result b)
          (has c.row-upper_north.result b) b q (T Upper a b 0) (T Upper a b 1)
          (c.and-upper_slope.ensures b) (c.row-upper_east.ensures b) (c.row-upper_north.ensures b));
      lower = λ b.
          tells_three (has c.and-2.result b) (has c.row-first.result b) (has c.row-east.result b)
          (has c.row-north.result b) b q (T Lower a b 0) (T Lower a b 1) (T Lower a b 2)
          (c.and-2.ensures b ∙ ap (λ x. has c.row-first.result b && x) (c.and-lower_slope.ensures
          b))
          (c.row-first.ensures b) (c.row-east.ensures b) (c.row-north.ensures b);
      upper = λ b.
          tells_three_back (has c.and-3.result b) (has c.row-upper_east.result b)
          (has c.row-upper_north.result b) (has c.row-last.result b) b q (T Upper a b 0)
          (T Upper a b 1) (T Upper a b 2)
          (c.and-3.ensures b ∙ ap (λ x. x && has c.row-last.result b) (c.and-upper_slope.ensures b))
          (c.row-upper_east.ensures b) (c.row-upper_north.ensures b) (c.row-last.ensures b);
    }
