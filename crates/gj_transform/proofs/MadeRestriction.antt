-- The restriction to the multiples of 1/d from its list of values, and if there is one.
use Rattle.std.proofs.Common.{◌≡◌, ◌≢◌, ◌↔◌, ◌⊎◌, ℕ, inl, inr, ◌*◌, ◌/◌, ◌%◌, ◌<◌, ◌≤◌, ◌^◌, ℤ, pos, ◌*ℤ◌, List, [], ◌∷◌, ◌++◌, length, All, unsigned_abs, int_div, refl, sym, ap, ap₂, subst, subst₂, ◌∙◌, arith}
use Rattle.std.specs.Int.{◌∣◌}
use Rattle.std.proofs.Math.Nat.{div-mul_cancel, mul-le-mul_left, dvd-mul_left, dvd-mul_right, mul-dvd-mul_right, dvd_of_mul-dvd-mul_right, le_of_mul-le-mul_right, eq_of_mul-eq-mul_right, div-add-mod', one-mul, mod-lt, lt_of_mul-lt-mul_right, eq-one_of_dvd-one}
use Rattle.std.proofs.lemmas.Int.{unsigned_abs-mul}
use Rattle.std.proofs.lemmas.List.{get_or_default}
use Rattle.std.proofs.lemmas.Nat.Gcd.{mod-eq-zero_of_dvd}
use Rattle.gj_lemmas.proofs.Divisors.{cofactor}
use Rattle.gj_lemmas.proofs.Lists.{All-back}
use Rattle.gj_lemmas.proofs.Ring.{by_ring, ring}
use Rattle.gj_shape.specs.Entries.{HasEntries}
use Rattle.gj_shape.specs.FunctionData.{FunctionData, IsWithinBounds, IsSmallOver, at, function_over}
use Rattle.gj_frac.proofs.Reduced.{quotient_of_divisor}
use Rattle.gj_shape.proofs.AtLemmas.{at_below, at_wrapped, at_value_small}
use Rattle.gj_shape.proofs.TableLemmas.{table_of_order}
use Rattle.gj_transform.specs.GreatestDivisor.{IsGreatestDivisor}
use Rattle.gj_transform.specs.Transforms.{IsRestrictionOf, IsRestrictionStep, HasNoRestriction}
use Rattle.gj_transform.proofs.MadeFunctions.{taken_everywhere}

-- ---- if there is a restriction

pub step_divides : (q d : ℕ) → q % d ≡ 0 → q ≡ d * (q / d)
step_divides q d e = let split = div-add-mod' q d in omega arith

-- a step that is one has a restriction
pub step_has_restriction : (f : FunctionData) (d s : ℕ) → IsRestrictionStep f d s →
    HasNoRestriction f d → ⊥
step_has_restriction f d s h (inl low) = let least = h.at_least in omega arith
step_has_restriction f d s h (inr (inl apart)) =
    apart (subst (λ (q : ℕ). d ∣ q) (sym h.divides) (dvd-mul_right d s))
step_has_restriction f d s h (inr (inr apart)) =
    let (p, place) = cofactor s f.place h.place in
    let whole : f.place * d ≡ p * f.order =
    let scaled : f.place * d ≡ s * p * d = ap (λ k. k * d) place in
    let order : p * f.order ≡ p * (d * s) = ap (λ q. p * q) h.divides in omega arith in
    apart (subst (λ (n : ℕ). f.order ∣ n) (sym whole) (dvd-mul_left f.order p))

-- the result is another, and there is a restriction
pub not_refused : {A : Type 0} (P Q : A) (f : FunctionData) (d s : ℕ) → P ≢ Q →
    IsRestrictionStep f d s → (P ≡ Q) ↔ HasNoRestriction f d
not_refused P Q f d s other step =
    (λ e. absurd (other e), λ none. absurd (step_has_restriction f d s step none))

-- no step
pub no_step : (f : FunctionData) (d : ℕ) → (d < 2) ⊎ (d ∣ f.order → ⊥) → HasNoRestriction f d
no_step f d (inl low) = inl low
no_step f d (inr apart) = inr (inl apart)

-- a place that is no multiple of the step
pub no_place : (f : FunctionData) (d s : ℕ) → 0 < d → f.order ≡ d * s → f.place % s ≢ 0 →
    HasNoRestriction f d
no_place f d s some e apart =
    inr (inr (λ divides.
    let (p, whole) = cofactor f.order (f.place * d) divides in
    let scaled : f.place * d ≡ s * p * d = whole ∙ ap (λ q. q * p) e ∙ omega arith in
    let place : f.place ≡ s * p = eq_of_mul-eq-mul_right d some f.place (s * p) scaled in
    apart (mod-eq-zero_of_dvd s (subst (λ (k : ℕ). s ∣ k) (sym place) (dvd-mul_right s p)))))

-- ---- the list of values

-- xs are the values at each s-th multiple of 1/order, and ys these divided by the greatest number e
-- that divides them and the scale
pub record AreReduced (f : FunctionData) (d s e : ℕ) (xs ys : List ℤ) : Type 0 where
  pub step : IsRestrictionStep f d s
  pub some : 0 < e
  pub taken : HasEntries (λ i. at f.value (i * s)) d xs
  pub divisor : IsGreatestDivisor f.scale xs e
  pub quotients : HasEntries (λ i. int_div (at xs i) (pos e)) (length xs) ys

-- the same under other names for the lists and the scale
pub reduced_as : (f : FunctionData) (d s e scale : ℕ) (values xs same same' ys : List ℤ) →
    IsRestrictionStep f d s → values ≡ f.value →
    HasEntries (λ i. at values (i * s)) d xs → scale ≡ f.scale → same ≡ xs →
    IsGreatestDivisor scale same e → 0 < e →
    same' ≡ xs → HasEntries (λ i. int_div (at same' i) (pos e)) (length same') ys →
    AreReduced f d s e xs ys
reduced_as f d s e scale values xs same same' ys step value_is taken same_scale is divisor some is'
    quotients = record {
      step = step;
      some = some;
      taken = subst (λ vs. HasEntries (λ i. at vs (i * s)) d xs) value_is taken;
      divisor = subst₂ (λ (n : ℕ) zs. IsGreatestDivisor n zs e) same_scale is divisor;
      quotients = subst (λ zs. HasEntries (λ i. int_div (at zs i) (pos e)) (length zs) ys) is'
          quotients;
    }

entry_times : (f : FunctionData) (d s e : ℕ) (xs ys : List ℤ) → AreReduced f d s e xs ys → (i : ℕ) →
    i < d → at ys i *ℤ pos e ≡ at xs i
entry_times f d s e xs ys h i below =
    let count = h.taken.length_is in
    let inside : i < length xs = omega arith in
    let divides : e ∣ unsigned_abs (at xs i) =
    subst (λ x. e ∣ unsigned_abs x) (sym (at_below xs i inside))
    (h.divisor.entries_are i (pos 0) inside) in
    ap (λ z. z *ℤ pos e) (h.quotients.entry_is i inside)
    ∙ quotient_of_divisor (at xs i) (pos e) divides

length_is : (f : FunctionData) (d s e : ℕ) (xs ys : List ℤ) → AreReduced f d s e xs ys →
    length ys ≡ d
length_is f d s e xs ys h = h.quotients.length_is ∙ h.taken.length_is

-- what holds of each entry below the length holds of all
all_entries : (P : ℤ → Type 0) (ys : List ℤ) → ((i : ℕ) → i < length ys → P (at ys i)) → All P ys
all_entries P ys h k z l = subst P (at_below ys k l ∙ get_or_default ys k (pos 0) z l) (h k l)

-- the scale is e times the new one
scale_is : (f : FunctionData) (d s e : ℕ) (xs ys : List ℤ) → AreReduced f d s e xs ys →
    f.scale / e * e ≡ f.scale
scale_is f d s e xs ys h = div-mul_cancel e h.divisor.number_is

-- the values at any index
value_times : (f : FunctionData) (d s e : ℕ) (xs ys : List ℤ) → IsWithinBounds f →
    AreReduced f d s e xs ys → (i : ℕ) →
    at ys i *ℤ pos e ≡ at f.value (i * s)
value_times f d s e xs ys l h i =
    let least = h.step.at_least in
    let d_some : 0 < d = omega arith in
    let period : d * s ≡ 1 * f.order = sym h.step.divides ∙ sym (one-mul f.order) in
    ap (λ z. z *ℤ pos e) (sym (at_wrapped ys i (i % d) d (length_is f d s e xs ys h) refl))
    ∙ entry_times f d s e xs ys h (i % d) (mod-lt i d_some)
    ∙ at_wrapped xs i (i % d) d h.taken.length_is refl
    ∙ taken_everywhere f.value xs f.order d s 1 l.value_length d_some period h.taken i

sizes : (x y : ℤ) (e : ℕ) → y *ℤ pos e ≡ x → unsigned_abs y * e ≡ unsigned_abs x
sizes x y e is = sym (unsigned_abs-mul y (pos e)) ∙ ap unsigned_abs is

-- ---- the bounds

place_fits : (f : FunctionData) (d s : ℕ) → IsWithinBounds f → IsRestrictionStep f d s →
    (1 ≤ f.place / s) × (f.place / s < d)
place_fits f d s l h =
    let low = l.place_low in
    let high = l.place_high in
    let whole : f.place / s * s ≡ f.place = div-mul_cancel s h.place in
    let order = h.divides in
    let no : f.place / s ≡ 0 → ⊥ = λ none. let scaled = ap (λ k. k * s) none in omega arith in
    (omega (arith, no), lt_of_mul-lt-mul_right s (omega arith))

pub restriction_within : (f : FunctionData) (d s e : ℕ) (xs ys : List ℤ) → IsWithinBounds f →
    AreReduced f d s e xs ys →
    IsWithinBounds (function_over d (f.place / s) (f.scale / e) ys ys ys)
restriction_within f d s e xs ys l h =
    let scale = scale_is f d s e xs ys h in
    let low = l.scale_low in
    let high = l.scale_high in
    let least = h.step.at_least in
    let e_some = h.some in
    let few = l.order_high in
    let order = h.step.divides in
    let place = place_fits f d s l h.step in
    let long = length_is f d s e xs ys h in
    let q_low = l.order_low in
    let s_some : s ≡ 0 → ⊥ = λ none. let scaled = ap (λ n. d * n) none in omega arith in
    let d_long : d * 1 ≤ d * s = mul-le-mul_left d (omega (arith, s_some)) in
    let scale_some : f.scale / e ≡ 0 → ⊥ = λ none. let scaled = ap (λ n. n * e) none in
    omega arith in
    let scale_long : f.scale / e * 1 ≤ f.scale / e * e = mul-le-mul_left (f.scale / e) e_some in
    let small : All (IsSmallOver (f.scale / e)) ys =
    all_entries (IsSmallOver (f.scale / e)) ys (λ i below.
    let size = sizes (at f.value (i * s)) (at ys i) e (value_times f d s e xs ys l h i) in
    let bound = at_value_small f (i * s) l in
    let product : 2 ^ 20 * (f.scale / e) * e ≡ 2 ^ 20 * f.scale = let scaled =
    ap (λ n. 2 ^ 20 * n) scale in omega arith in
    le_of_mul-le-mul_right (let h : unsigned_abs (at ys i) * e ≤ 2 ^ 20 * (f.scale / e) * e =
    omega arith in h) e_some) in
    record {
      order_low = least;
      order_high = omega arith;
      place_low = place.0;
      place_high = place.1;
      scale_low = omega (arith, scale_some);
      scale_high = omega arith;
      left_length = long;
      value_length = long;
      right_length = long;
      left_small = small;
      value_small = small;
      right_small = small;
      lowest = λ t divides all.
          let P : ℤ → Type 0 = λ x. t ∣ unsigned_abs x in
          let of_values : All P ys = All-back P (ys ++ ys) ys all in
          let number : t * e ∣ f.scale =
          subst (λ (n : ℕ). t * e ∣ n) scale (mul-dvd-mul_right t divides e) in
          let entries : All (λ x. t * e ∣ unsigned_abs x) xs =
          all_entries (λ x. t * e ∣ unsigned_abs x) xs (λ i below.
          let count = h.taken.length_is in
          let inside : i < d = omega arith in
          let in_ys : i < length ys = omega arith in
          let here : t ∣ unsigned_abs (at ys i) =
          subst (λ x. t ∣ unsigned_abs x) (sym (at_below ys i in_ys)) (of_values i (pos 0) in_ys) in
          subst (λ (n : ℕ). t * e ∣ n)
          (sizes (at xs i) (at ys i) e (entry_times f d s e xs ys h i inside))
          (mul-dvd-mul_right t here e)) in
          let whole : t * e ∣ 1 * e =
          subst (λ (n : ℕ). t * e ∣ n) (sym (one-mul e))
          (h.divisor.greatest (t * e) number entries) in
          eq-one_of_dvd-one (dvd_of_mul-dvd-mul_right t e_some whole);
    }

-- ---- the restriction

pub restriction_made : (f : FunctionData) (d s e : ℕ) (xs ys : List ℤ) → IsWithinBounds f →
    AreReduced f d s e xs ys →
    IsRestrictionOf f d (function_over d (f.place / s) (f.scale / e) ys ys ys)
restriction_made f d s e xs ys l h =
    let g = function_over d (f.place / s) (f.scale / e) ys ys ys in
    record {
      step = s;
      divides = h.step.divides;
      order = refl;
      place = sym (div-mul_cancel s h.step.place);
      continuous = (refl, refl);
      same_values = λ i.
          let scale : f.scale * 1 ≡ f.scale / e * e = let is = scale_is f d s e xs ys h in
          omega arith in
          ap₂ (λ x (n : ℕ). x *ℤ pos n) (table_of_order g i) scale
          ∙ regrouped (at ys i) (f.scale / e) e
          ∙ ap (λ x. x *ℤ pos (f.scale / e * 1)) (value_times f d s e xs ys l h i
          ∙ sym (table_of_order f (i * s)));
    }
  where
    regrouped : (y : ℤ) (t e : ℕ) → y *ℤ pos (t * e) ≡ (y *ℤ pos e) *ℤ pos (t * 1)
    regrouped y t e = by_ring (y ∷ pos t ∷ pos e ∷ []) (search ring depth 20) refl
