-- The greatest and the least of the rises from one place to the next.
use Rattle.std.proofs.Common.{◌≡◌, ◌≢◌, ℕ, ◌⊎◌, inl, inr, ◌+◌, ◌%◌, ◌<◌, ◌^◌, ℤ, pos, neg_ℤ, ◌-ℤ◌, ◌≤ℤ◌, List, length, unsigned_abs, ap₂, sym, subst, ◌∙◌, below_more, arith}
use Rattle.std.specs.Int.{int_max, int_min}
use Rattle.std.proofs.Math.Nat.{mod-lt, mod-mod, mod-add-mod}
use Rattle.std.proofs.lemmas.Int.{ints, by_lt_z, int_max_is, int_min_is}
use Rattle.gj_shape.specs.FunctionData.{FunctionData, IsWithinBounds, IsContinuous, at}
use Rattle.gj_shape.specs.TwoSlopes.{rise, HasTwoSlopes}
use Rattle.gj_theory.proofs.Everywhere.{at_same}
use Rattle.gj_fill.specs.FillIn.{AreGreatestSteps}

-- of the rises before n, the greatest and the least
pub record AreExtremes (values : List ℤ) (n : ℕ) (most least : ℤ) : Type 0 where
  pub high : (a : ℕ) → a < n → (at values (a + 1) -ℤ at values a) ≤ℤ most
  pub low : (a : ℕ) → a < n → least ≤ℤ (at values (a + 1) -ℤ at values a)
  pub highest : (a : ℕ) × (at values (a + 1) -ℤ at values a ≡ most)
  pub lowest : (a : ℕ) × (at values (a + 1) -ℤ at values a ≡ least)
  pub most_small : unsigned_abs most < 2 ^ 52
  pub least_small : unsigned_abs least < 2 ^ 52

pub extremes_begun : (values : List ℤ) (x : ℤ) → x ≡ at values (0 + 1) -ℤ at values 0 →
    unsigned_abs x < 2 ^ 52 → AreExtremes values 1 x x
extremes_begun values x is small = record {
  high = λ a low. first a low (λ y. y ≤ℤ x) (omega (arith, ints));
  low = λ a low. first a low (λ y. x ≤ℤ y) (omega (arith, ints));
  highest = (0, sym is);
  lowest = (0, sym is);
  most_small = small;
  least_small = small;
}
  where
    first : (a : ℕ) → a < 1 → (P : ℤ → Type 0) → P (at values (0 + 1) -ℤ at values 0) →
        P (at values (a + 1) -ℤ at values a)
    first a low P h =
        subst (λ (i : ℕ). P (at values (i + 1) -ℤ at values i)) (let e : 0 ≡ a = omega arith in e) h

greater : (x y : ℤ) → (x ≤ℤ int_max x y) × (y ≤ℤ int_max x y)
    × ((int_max x y ≡ x) ⊎ (int_max x y ≡ y))
greater x y =
    let e = int_max_is x y in (
      omega (arith, ints),
      omega (arith, ints),
      by_lt_z x y (λ less. inr (omega (arith, ints))) (λ more. inl (omega (arith, ints))),
    )

lesser : (x y : ℤ) → (int_min x y ≤ℤ x) × (int_min x y ≤ℤ y)
    × ((int_min x y ≡ x) ⊎ (int_min x y ≡ y))
lesser x y =
    let e = int_min_is x y in (
      omega (arith, ints),
      omega (arith, ints),
      by_lt_z x y (λ less. inl (omega (arith, ints))) (λ more. inr (omega (arith, ints))),
    )

pub extremes_more : (values : List ℤ) (n : ℕ) (most least x u w : ℤ) →
    AreExtremes values n most least →
    x ≡ at values (n + 1) -ℤ at values n → unsigned_abs x < 2 ^ 52 → u ≡ int_max most x →
    w ≡ int_min least x →
    AreExtremes values (n + 1) u w
extremes_more values n most least x u w h is small u_is w_is =
    let up = greater most x in
    let down = lesser least x in
    let most_low = h.most_small in
    let least_low = h.least_small in
    record {
      high = below_more (λ a. (at values (a + 1) -ℤ at values a) ≤ℤ u) n
          (λ a low. let before = h.high a low in omega (arith, ints)) (omega (arith, ints));
      low = below_more (λ a. w ≤ℤ (at values (a + 1) -ℤ at values a)) n
          (λ a low. let before = h.low a low in omega (arith, ints)) (omega (arith, ints));
      highest = elim (up.2) [
        | inl e ↦ (h.highest.0, h.highest.1 ∙ sym e ∙ sym u_is)
        | inr e ↦
            (n, sym is ∙ sym e ∙ sym u_is)
      ];
      lowest = elim (down.2) [
        | inl e ↦ (h.lowest.0, h.lowest.1 ∙ sym e ∙ sym w_is)
        | inr e ↦
            (n, sym is ∙ sym e ∙ sym w_is)
      ];
      most_small = elim (up.2) [ inl e ↦ omega (arith, ints) | inr e ↦ omega (arith, ints) ];
      least_small = elim (down.2) [ inl e ↦ omega (arith, ints) | inr e ↦ omega (arith, ints) ];
    }

-- the rise at any place is that at its remainder
rise_wrapped : (values : List ℤ) (n a : ℕ) → length values ≡ n → 0 < n →
    at values (a + 1) -ℤ at values a ≡ at values (a % n + 1) -ℤ at values (a % n)
rise_wrapped values n a len some =
    ap₂ (λ x y. x -ℤ y) (at_same values (a + 1) (a % n + 1) n len (sym (mod-add-mod a n 1)))
    (at_same values a (a % n) n len (sym (mod-mod a n)))

pub greatest_are : (values : List ℤ) (n : ℕ) (most least s t : ℤ) → length values ≡ n → 0 < n →
    AreExtremes values n most least →
    s ≡ most → t ≡ pos 0 -ℤ least → AreGreatestSteps (at values) s t
greatest_are values n most least s t len some h s_is t_is = record {
  rises = λ a.
      let here = rise_wrapped values n a len some in
      let high = h.high (a % n) (mod-lt a some) in
      omega (arith, ints);
  falls = λ a.
      let here = rise_wrapped values n a len some in
      let low = h.low (a % n) (mod-lt a some) in
      omega (arith, ints);
  rise = (h.highest.0, h.highest.1 ∙ sym s_is);
  fall = (h.lowest.0, let here = h.lowest.1 in omega (arith, ints));
}

-- ---- two slopes

-- of two slopes the greater is the greatest rise, and the lesser the greatest fall turned in sign
slope_is_one : (x y s t r : ℤ) → (s ≡ x) ⊎ (s ≡ y) → (neg_ℤ t ≡ x) ⊎ (neg_ℤ t ≡ y) → s ≢ neg_ℤ t →
    (r ≡ x) ⊎ (r ≡ y) →
    (r ≡ s) ⊎ (r ≡ neg_ℤ t)
slope_is_one x y s t r (inl e) (inl g) apart h = absurd (apart (e ∙ sym g))
slope_is_one x y s t r (inr e) (inr g) apart h = absurd (apart (e ∙ sym g))
slope_is_one x y s t r (inl e) (inr g) apart (inl h) = inl (h ∙ sym e)
slope_is_one x y s t r (inl e) (inr g) apart (inr h) = inr (h ∙ sym g)
slope_is_one x y s t r (inr e) (inl g) apart (inl h) = inr (h ∙ sym g)
slope_is_one x y s t r (inr e) (inl g) apart (inr h) = inl (h ∙ sym e)

pub one_of_steps : (f : FunctionData) (s t : ℤ) (a : ℕ) → AreGreatestSteps (at f.value) s t →
    s ≢ neg_ℤ t → HasTwoSlopes f →
    (rise f a ≡ s) ⊎ (rise f a ≡ neg_ℤ t)
one_of_steps f s t a h apart two =
    let x = rise f two.one in
    let y = rise f two.other in
    let low = h.fall.1 in
    let turned : rise f h.fall.0 ≡ neg_ℤ t = omega (arith, ints) in
    slope_is_one x y s t (rise f a) (along (sym h.rise.1) (two.each h.rise.0))
    (along (sym turned) (two.each h.fall.0)) apart (two.each a)
  where
    along : {z r x y : ℤ} → z ≡ r → (r ≡ x) ⊎ (r ≡ y) → (z ≡ x) ⊎ (z ≡ y)
    along e (inl g) = inl (e ∙ g)
    along e (inr g) = inr (e ∙ g)

-- with one slope no two differ
pub not_one_slope : (f : FunctionData) (s t : ℤ) → AreGreatestSteps (at f.value) s t → s ≡ neg_ℤ t →
    HasTwoSlopes f → ⊥
not_one_slope f s t h same two =
    let one_up = h.rises two.one in
    let one_down = h.falls two.one in
    let other_up = h.rises two.other in
    let other_down = h.falls two.other in
    two.different (omega (arith, ints))

pub are_two_slopes : (f : FunctionData) (s t : ℤ) → IsWithinBounds f → IsContinuous f →
    AreGreatestSteps (at f.value) s t → s ≢ neg_ℤ t →
    ((a : ℕ) → a < f.order → (rise f a ≡ s) ⊎ (rise f a ≡ neg_ℤ t)) → HasTwoSlopes f
are_two_slopes f s t l continuous h apart each = record {
  continuous = continuous;
  one = h.rise.0;
  other = h.fall.0;
  different = λ e. apart (sym h.rise.1 ∙ e ∙ turned);
  each = λ a.
      let some : 0 < f.order = omega (arith, l.order_low) in
      let here = rise_wrapped f.value f.order a l.value_length some in
      elim (each (a % f.order) (mod-lt a some)) [
        | inl e ↦ inl (here ∙ e ∙ sym h.rise.1)
        | inr e ↦ inr (here ∙ e ∙ sym turned)
      ];
}
  where
    turned : rise f h.fall.0 ≡ neg_ℤ t
    turned = let low = h.fall.1 in omega (arith, ints)
