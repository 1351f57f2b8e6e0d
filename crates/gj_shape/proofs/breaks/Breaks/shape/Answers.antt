use Rattle.std.proofs.Common.{◌≡◌, unsigned_abs, w64, to_z, of_z, sym, subst, subst₂, arith}
use Rattle.std.proofs.lemmas.Int.{ints}
use Rattle.std.proofs.lemmas.Result.{IfOk-weaker}
use Rattle.std.specs.Result.{IfErr}
use Rattle.gj_shape.specs.Given.{IsTooFineOf, numerator_over}
use Rattle.gj_shape.specs.Breaks.{AreOnGrid, AreListsOfBreaks, IsGivenByBreaks}
use Rattle.gj_shape.proofs.BreakLists.{order_some, place_divides, order_fits, place_over, place_ratio, breaks_on_grid}
use Rattle.gj_shape.proofs.breaks.Breaks.shape.Goals as goal

pub numerator_over-k-requires-clause-low : goal.numerator_over-k-requires-clause-low
numerator_over-k-requires-clause-low c = order_some _ c.self.invariant.breaks

pub numerator_over-k-requires-clause-multiple : goal.numerator_over-k-requires-clause-multiple
numerator_over-k-requires-clause-multiple c = place_divides _ c.self.invariant.breaks

pub from_breaks-requires-clause-order : goal.from_breaks-requires-clause-order
from_breaks-requires-clause-order c = order_fits _ c.self.invariant.breaks

pub from_breaks-requires-clause-place : goal.from_breaks-requires-clause-place
from_breaks-requires-clause-place c =
    let over = place_over _ c.self.invariant.breaks in
    let few = c.self.invariant.breaks.few in
    let is = c.numerator_over-k.ensures in
    (omega (arith, ints), omega (arith, ints))

pub from_breaks-requires-clause-on_grid : goal.from_breaks-requires-clause-on_grid
from_breaks-requires-clause-on_grid c =
    subst (AreOnGrid c.self.inside.order) (sym c.as_slice.ensures.value)
    (breaks_on_grid _ c.self.invariant.breaks)

pub returns-clause-given : goal.returns-clause-given
returns-clause-given c =
    let over = place_over _ c.self.invariant.breaks in
    let few = c.self.invariant.breaks.few in
    let is = c.numerator_over-k.ensures in
    let k : unsigned_abs (to_z w64 (of_z w64 c.numerator_over-k.result))
    ≡ unsigned_abs (numerator_over c.self.inside.order c.self.inside.place) =
    omega (arith, ints) in
    rw (← c.self.view_is)
    (IfOk-weaker c.from_breaks.result _ _
    (λ f h. (
      unsigned_abs (numerator_over c.self.inside.order c.self.inside.place),
      place_ratio _ c.self.invariant.breaks,
      subst₂ (λ k bs. IsGivenByBreaks c.self.inside.order k bs f) k c.as_slice.ensures.value h,
    ))
    c.from_breaks.ensures.given)

pub returns-clause-fault : goal.returns-clause-fault
returns-clause-fault c =
    rw (← c.self.view_is)
    (subst (λ bs. IfErr c.from_breaks.result
    (IsTooFineOf (AreListsOfBreaks c.self.inside.order bs))) c.as_slice.ensures.value
    c.from_breaks.ensures.fault)
