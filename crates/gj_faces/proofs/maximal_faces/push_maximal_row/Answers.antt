use Rattle.std.proofs.Common.{List, ◌≡◌, ◌+◌, ◌-◌, ◌<◌, inl, inr, flat_map, subst, ◌∙◌, sym, arith}
use Rattle.std.specs.List.{range_with_len}
use Rattle.std.proofs.lemmas.Bool.{cases_lt, true≢false}
use Rattle.gj_shape.specs.WalkOrder.{faces_of_square}
use Rattle.gj_shape.specs.declared.faces.Face.{Face}
use Rattle.gj_faces.specs.Added.{AddsMaximal, faces_of_row}
use Rattle.gj_faces.proofs.AddedFaces.{adds_nothing, adds_square, adds_no_squares}
use Rattle.gj_faces.proofs.maximal_faces.push_maximal_row.Goals as goal

pub loop-b-init : goal.loop-b-init
loop-b-init c = (
  adds_nothing c.args.shape.now c.reserve.new.self.items,
  omega arith,
  omega (arith, c.in_ok-reserve.ensures.ok, c.order.ensures.value),
)

pub loop-b-preserved : goal.loop-b-preserved
loop-b-preserved c =
    let f = c.args.shape.now in
    let a = c.args.a in
    let b = c.in-Some.b in
    let old = c.reserve.new.self.items in
    let middle = c.loop-b.faces.items in
    let first = c.in-Some.ensures in
    let behind = first.behind in
    let inside : c.in-Some.b < c.args.shape.now.order =
    elim (cases_lt c.in-Some.b c.args.shape.now.order) [
      | inl below ↦ below
      | inr past ↦ absurd (true≢false (sym first.found ∙ c.of-alone.ensures.within b past))
    ] in
    let e : c.loop-b.from + (c.in-Some.b - c.loop-b.from) ≡ c.in-Some.b = omega arith in
    let before = adds_no_squares f a c.loop-b.from (b - c.loop-b.from) c.of-alone.result old middle
    c.of-alone.ensures (omega arith)
    (λ k from below. first.before k from (omega arith)) c.loop-b.invariant.0 in (
      adds_square f a b old middle c.push_square.new.faces.items
          (subst (λ k. AddsMaximal f (flat_map (faces_of_square a) (range_with_len 0 k)) old middle)
          e before)
          (c.push_square.ensures.added f c.of-alone.ensures inside),
      omega arith,
      omega (arith, c.push_square.ensures.few, c.push_square.ensures.capacity),
    )

pub returns : goal.returns
returns c =
    let f = c.args.shape.now in
    let a = c.args.a in
    let old = c.reserve.new.self.items in
    let new = c.loop-b.faces.items in
    let from = c.loop-b.from in
    let order = c.loop-b.invariant.1 in
    let e : c.loop-b.from + (c.args.shape.now.order - c.loop-b.from) ≡ c.args.shape.now.order =
    omega arith in
    subst (λ (xs : List Face). AddsMaximal f (faces_of_row f.order a) xs new)
    c.in_ok-reserve.ensures.items
    (subst (λ k. AddsMaximal f (flat_map (faces_of_square a) (range_with_len 0 k)) old new) e
    (adds_no_squares f a from (f.order - from) c.of-alone.result old new c.of-alone.ensures
    (omega arith)
    (λ k low high. c.in_default.ensures k low) c.loop-b.invariant.0))
