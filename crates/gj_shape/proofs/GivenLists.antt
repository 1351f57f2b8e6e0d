-- A function that is given by three lists of fractions: their lengths and sizes, and that they have
-- no fault.
use Rattle.std.proofs.Common.{◌≡◌, ℕ, List, length, All, sym, ap, ◌∙◌}
use Rattle.std.proofs.lemmas.List.{length-map}
use Rattle.gj_frac.specs.declared.Frac.{Frac}
use Rattle.gj_shape.specs.FunctionData.{FunctionData}
use Rattle.gj_shape.specs.Given.{in_order, IsSmall, AreWithinBounds, HaveLength, numerator_over, IsGivenBy}
use Rattle.gj_shape.proofs.InOrder.{all_in_order, all_from_in_order}
use Rattle.gj_shape.proofs.LeastDenominator.{Divides}
use Rattle.gj_shape.proofs.OverScale.{all_small}

lengths_given : (q k : ℕ) (l v r : List Frac) (f : FunctionData) → IsGivenBy q k l v r f →
    HaveLength l v r q
lengths_given q k l v r f g =
    let num = numerator_over f.scale in (
      sym (length-map l num) ∙ sym (ap length g.left_is) ∙ g.within.left_length ∙ g.order,
      sym (length-map v num) ∙ sym (ap length g.value_is) ∙ g.within.value_length ∙ g.order,
      sym (length-map r num) ∙ sym (ap length g.right_is) ∙ g.within.right_length ∙ g.order,
    )

pub all_small_given : (q k : ℕ) (l v r : List Frac) (f : FunctionData) → IsGivenBy q k l v r f →
    All IsSmall (in_order l v r)
all_small_given q k l v r f g =
    let n = lengths_given q k l v r f g in
    let value_length : length v ≡ length l = n.1 ∙ sym n.0 in
    let right_length : length r ≡ length l = n.2 ∙ sym n.0 in
    let d = all_from_in_order (Divides f.scale) l v r value_length right_length g.common in
    all_in_order IsSmall l v r value_length right_length
    (all_small f.scale l f.left g.within.scale_low g.left_is d.0 g.within.left_small)
    (all_small f.scale v f.value g.within.scale_low g.value_is d.1 g.within.value_small)
    (all_small f.scale r f.right g.within.scale_low g.right_is d.2 g.within.right_small)

-- so they are within bounds
pub within_given : (q k : ℕ) (l v r : List Frac) (f : FunctionData) → IsGivenBy q k l v r f →
    AreWithinBounds (in_order l v r)
within_given q k l v r f g = record {
  small = all_small_given q k l v r f g;
  common = (f.scale, g.within.scale_low, g.within.scale_high, g.common);
}
