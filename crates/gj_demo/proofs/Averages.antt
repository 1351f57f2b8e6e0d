-- The function of the demonstration as half the sum of two functions.
use Rattle.std.proofs.Common.{◌≡◌, ℕ, ◌+◌, ◌-◌, ◌*◌, ◌%◌, ◌<◌, ◌≤◌, ⊎_elim, ℤ, pos, ◌+ℤ◌, ◌*ℤ◌, [], ◌∷◌, min, refl, sym, ap, ap₂, ◌∙◌, arith}
use Rattle.std.proofs.Math.Nat.{mod-lt, mod-mod}
use Rattle.std.proofs.lemmas.Bool.{cases_lt}
use Rattle.gj_lemmas.proofs.Integers.{mul_cancel_right_z}
use Rattle.gj_lemmas.proofs.Ring.{by_ring, ring}
use Rattle.gj_shape.specs.Average.{IsAverageOf, half_sum}
use Rattle.gj_shape.specs.FunctionData.{FunctionData, IsWithinBounds, at}
use Rattle.gj_shape.proofs.AtLemmas.{at_wrapped}
use Rattle.gj_shape.proofs.TableLemmas.{left_is_value, right_is_value}
use Rattle.gj_family.specs.Families.{IsGmic}
use Rattle.gj_demo.specs.Demo.{IsAlternating, IsDemo}
use Rattle.gj_demo.proofs.Numbers.{tent, number_is, same_parity, tent_rising, tent_falling}
use Rattle.gj_demo.proofs.Values.{value_at, demo_continuous}

-- ---- numbers

into_parts : (x : ℤ) (k b c : ℕ) → x *ℤ pos (2 * (b * c)) *ℤ pos k ≡ x *ℤ pos (2 * k) *ℤ pos (b * c)
into_parts x k b c = by_ring (x ∷ pos k ∷ pos b ∷ pos c ∷ []) (search ring depth 40) refl

regrouped : (a b c t p k : ℕ) →
    pos (a * (t + k * p)) *ℤ pos (b * c) ≡ (pos c *ℤ pos (t * b) +ℤ pos b *ℤ (pos (c * p) *ℤ pos k))
    *ℤ pos a
regrouped a b c t p k = by_ring (pos a ∷ pos b ∷ pos c ∷ pos t ∷ pos p ∷ pos k ∷ [])
    (search ring depth 40) refl

out_of_parts : (y z : ℤ) (a b c k : ℕ) →
    (pos c *ℤ (y *ℤ pos k) +ℤ pos b *ℤ (z *ℤ pos k)) *ℤ pos a ≡ (pos c *ℤ y +ℤ pos b *ℤ z) *ℤ pos a
    *ℤ pos k
out_of_parts y z a b c k = by_ring (y ∷ z ∷ pos a ∷ pos b ∷ pos c ∷ pos k ∷ [])
    (search ring depth 40) refl

-- x over a is half the sum of y over b and z over c, if they are t/k + p, t/k and p
half_of_sum : (x y z : ℤ) (a b c t p k : ℕ) → 0 < k → x *ℤ pos (2 * k) ≡ pos (a * (t + k * p)) →
    y *ℤ pos k ≡ pos (t * b) →
    z ≡ pos (c * p) → x *ℤ pos (2 * (b * c)) ≡ (pos c *ℤ y +ℤ pos b *ℤ z) *ℤ pos a
half_of_sum x y z a b c t p k some x_is y_is z_is =
    mul_cancel_right_z (x *ℤ pos (2 * (b * c))) ((pos c *ℤ y +ℤ pos b *ℤ z) *ℤ pos a) (pos k)
    (into_parts x k b c ∙ ap (λ w. w *ℤ pos (b * c)) x_is ∙ regrouped a b c t p k
    ∙ ap₂ (λ v w. (pos c *ℤ v +ℤ pos b *ℤ (w *ℤ pos k)) *ℤ pos a) (sym y_is) (sym z_is)
    ∙ out_of_parts y z a b c k)
    (omega arith)

-- ---- values at every index

gmic_within : (k : ℕ) (g : FunctionData) (r : ℕ) → 0 < k → IsGmic (2 * k) k g → r < 2 * k →
    at g.value r *ℤ pos k ≡ pos (tent k r * g.scale)
gmic_within k g r some h below =
    let half : 2 * k - k ≡ k = omega arith in
    ⊎_elim
    (λ (high : k < r).
    let fall = tent_falling k r some (omega arith) (omega arith) in
    let e = rw half at (h.falls r (omega arith) (omega arith)) in
    e ∙ ap (λ t. pos (t * g.scale)) (sym fall))
    (λ (low : r ≤ k). h.rises r low ∙ ap (λ t. pos (t * g.scale)) (sym (tent_rising k r some low)))
    (cases_lt k r)

tent_remainder : (k i : ℕ) → tent k (i % (2 * k)) ≡ tent k i
unfolding tent
tent_remainder k i = ap (λ r. min r (2 * k - r)) (mod-mod i (2 * k))

gmic_at : (k : ℕ) (g : FunctionData) (i : ℕ) → 0 < k → IsGmic (2 * k) k g → IsWithinBounds g →
    at g.value i *ℤ pos k ≡ pos (tent k i * g.scale)
gmic_at k g i some h bounds =
    let order_some : 0 < 2 * k = omega arith in
    ap (λ z. z *ℤ pos k)
    (sym (at_wrapped g.value i (i % (2 * k)) (2 * k) (bounds.value_length ∙ h.order) refl))
    ∙ gmic_within k g (i % (2 * k)) some h (mod-lt i order_some)
    ∙ ap (λ t. pos (t * g.scale)) (tent_remainder k i)

alternating_at : (n : ℕ) (g : FunctionData) (i : ℕ) → IsAlternating n g → IsWithinBounds g →
    at g.value i ≡ pos (g.scale * (i % 2))
alternating_at n g i h bounds =
    let q = 2 * (2 * n + 1) in
    let some : 0 < q = omega arith in
    let order = h.order in
    let small = mod-lt i some in
    sym (at_wrapped g.value i (i % q) q (bounds.value_length ∙ order) refl)
    ∙ h.value_is (i % q) (omega arith)
    ∙ ap (λ p. pos (g.scale * p)) (same_parity (2 * n + 1) i)

-- ---- the average

-- it is if the values are, since all three are continuous
pub demo_average : (n : ℕ) (f g h : FunctionData) → IsDemo n f → IsWithinBounds f →
    IsGmic (2 * (2 * n + 1)) (2 * n + 1) g →
    IsWithinBounds g → IsAlternating n h → IsWithinBounds h → IsAverageOf g h f
demo_average n f g h demo f_bounds gmic g_bounds alternating h_bounds =
    let k = 2 * n + 1 in
    let f_continuous = demo_continuous n f demo in
    let values : (i : ℕ) → at f.value i *ℤ pos (2 * (g.scale * h.scale))
    ≡ half_sum g h g.value h.value i *ℤ pos f.scale =
    λ i. half_of_sum (at f.value i) (at g.value i) (at h.value i) f.scale g.scale h.scale (tent k i)
    (i % 2) k (omega arith)
    (value_at n f i demo f_bounds ∙ ap (λ m. pos (f.scale * m)) (number_is k i))
    (gmic_at k g i (omega arith) gmic g_bounds) (alternating_at n h i alternating h_bounds) in
    record {
      order = demo.order ∙ sym gmic.order;
      place = demo.place ∙ sym gmic.place;
      left_is = λ i.
          ap (λ z. z *ℤ pos (2 * (g.scale * h.scale))) (left_is_value f i f_continuous) ∙ values i
          ∙ sym (ap₂ (λ x y. (pos h.scale *ℤ x +ℤ pos g.scale *ℤ y) *ℤ pos f.scale)
          (left_is_value g i gmic.continuous) (left_is_value h i alternating.continuous));
      value_is = values;
      right_is = λ i.
          ap (λ z. z *ℤ pos (2 * (g.scale * h.scale))) (right_is_value f i f_continuous) ∙ values i
          ∙ sym (ap₂ (λ x y. (pos h.scale *ℤ x +ℤ pos g.scale *ℤ y) *ℤ pos f.scale)
          (right_is_value g i gmic.continuous) (right_is_value h i alternating.continuous));
    }
