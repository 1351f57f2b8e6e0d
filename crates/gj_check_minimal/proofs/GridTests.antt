-- The slacks at grid points of a continuous function, by the table of its values.
use Rattle.std.proofs.Common.{◌≡◌, ◌↔◌, ℕ, ◌+◌, ◌-◌, ◌%◌, ◌<◌, ℤ, pos, ◌+ℤ◌, ◌≤ℤ◌, List, length, get_or, to_z, of_z, w64, subst, sym, ap, ap₂, ◌∙◌, arith}
use mir.Syntax.{w128}
use Rattle.std.proofs.lemmas.Int.{ints, to_z-of_z}
use Rattle.gj_shape.specs.FunctionData.{FunctionData, IsWithinBounds, at}
use Rattle.gj_shape.specs.Faces.{slack_from}
use Rattle.gj_shape.proofs.NumeratorReadings.{value_below, small_read}
use Rattle.gj_theory.specs.EarlierTests.{PassesVertex, PassesSymmetry}
use Rattle.gj_theory.proofs.Lanes.{are_bounded}
use Rattle.gj_check_minimal.specs.Tests.{IsSubadditiveOnGrid}
use Rattle.gj_check_minimal.specs.Tables.{IsTableInRange, IsSymmetricList, IsSubadditivePair, IsSubadditiveList, HasSubadditiveTotals}
use Rattle.gj_check_minimal.proofs.TableTests.{totals_decide}

-- the values lie from 0 to the scale
pub values_in_range : (f : FunctionData) → IsWithinBounds f → PassesSymmetry f →
    IsTableInRange f.value f.place (pos f.scale)
values_in_range f l h =
    let b = are_bounded f l h in
    let len = l.value_length in
    let place = l.place_high in
    let order = l.order_high in
    let scale = l.scale_high in
    record {
      place_below = omega arith;
      few = omega arith;
      low = b.value_low;
      high = b.value_high;
      scale_high = omega (arith, ints);
    }

-- and are symmetric
symmetric_values : (f : FunctionData) → IsWithinBounds f → PassesSymmetry f →
    IsSymmetricList f.value f.place (pos f.scale)
symmetric_values f l h =
    subst (λ (n : ℕ). (i : ℕ) → i < n → at f.value i +ℤ at f.value (f.place + (n - i))
    ≡ pos f.scale) (sym l.value_length)
    h.mirrors.symmetric

-- the totals decide
pub grid_totals : (f : FunctionData) → IsWithinBounds f → PassesSymmetry f →
    HasSubadditiveTotals f.value f.place ↔ IsSubadditiveList f.value
grid_totals f l h = totals_decide f.value f.place (pos f.scale) (values_in_range f l h)
    (symmetric_values f l h)

-- a pair passes if the slack is not negative
slack_of_pair : (x y s : ℤ) → s ≤ℤ (x +ℤ y) ↔ (pos 0 ≤ℤ slack_from x y s)
slack_of_pair x y s = (λ h. omega (arith, ints), λ h. omega (arith, ints))

pair_is_vertex : (f : FunctionData) (a b : ℕ) → IsSubadditivePair f.value a b ↔ PassesVertex f a b
pair_is_vertex f a b = slack_of_pair (at f.value a) (at f.value b) (at f.value (a + b))

pub pairs_are_vertices : (f : FunctionData) → IsWithinBounds f →
    IsSubadditiveList f.value ↔ IsSubadditiveOnGrid f
pairs_are_vertices f l =
    let len = l.value_length in (
      λ all a b a_below b_below. (pair_is_vertex f a b).0 (all a b (omega arith) (omega arith)),
      λ all a b a_below b_below. (pair_is_vertex f a b).1 (all a b (omega arith) (omega arith)),
    )

-- ---- what the code reads

-- a numerator at the remainder of an index
numerator_at : (xs ys : List ℤ) (i k : ℕ) → xs ≡ ys → k ≡ i % length xs →
    get_or xs k (pos 0) ≡ at ys i
unfolding at
numerator_at xs ys i k e k_is =
    ap₂ (λ zs j. get_or zs j (pos 0)) e (k_is ∙ ap (λ zs. i % length zs) e)

pub numerator_read : (f : FunctionData) (xs : List ℤ) (i k : ℕ) (x : ℤ) → IsWithinBounds f →
    xs ≡ f.value → k ≡ i % length xs →
    x ≡ to_z w64 (of_z w64 (get_or xs k (pos 0))) → to_z w128 (of_z w128 x) ≡ at f.value i
numerator_read f xs i k x l e k_is x_is =
    let here = numerator_at xs f.value i k e k_is in
    let small = value_below f i l in
    let is : x ≡ at f.value i = x_is ∙ ap (λ z. to_z w64 (of_z w64 z)) here
    ∙ small_read (at f.value i) small in
    to_z-of_z w128 x (omega (arith, ints)) ∙ is
