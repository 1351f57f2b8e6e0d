-- The points of a fill-in as pairs of fractions.
use Rattle.std.proofs.Common.{◌≡◌, ℕ, ◌+◌, ◌<◌, ◌≤◌, ◌^◌, Bool, true, false, ◌&&◌, cond, ℤ, pos, neg_ℤ, int_lt, ◌+ℤ◌, ◌*ℤ◌, ◌<ℤ◌, unsigned_abs, FitsSigned, to_z, of_z, List, [], ◌∷◌, ◌++◌, flat_map, refl, ap, ap₂, sym, subst, ◌∙◌, append-nil, arith}
use Rattle.std.specs.List.{range_with_len, AllZip}
use Rattle.std.proofs.Math.Nat.{zero-add, mul-le-mul}
use Rattle.std.proofs.lemmas.Int.{ints, to_z-of_z, fits_signed_from_abs}
use Rattle.std.proofs.lemmas.Grind.{flat_map-append}
use mir.Syntax.{w64, w128}
use Rattle.gj_lemmas.proofs.Integers.{unsigned_abs-mul}
use Rattle.gj_lemmas.proofs.Lists.{range_split}
use Rattle.gj_frac.specs.declared.Frac.{Frac}
use Rattle.gj_frac.specs.Fraction.{IsRatio}
use Rattle.gj_shape.specs.FunctionData.{FunctionData}
use Rattle.gj_shape.specs.TwoSlopes.{rise}
use Rattle.gj_fill.specs.FillPoints.{IsPairOf, value_point, crossing_point, points_from}

-- ---- numbers of 64 bits

pub itself : (x : ℤ) → unsigned_abs x < 2 ^ 52 → to_z w64 (of_z w64 x) ≡ x
itself x low = to_z-of_z w64 x (fits_signed_from_abs w64 x (omega arith))

pub itself_small : (x : ℤ) → unsigned_abs x < 2 ^ 52 → unsigned_abs (to_z w64 (of_z w64 x)) ≤ 2 ^ 53
itself_small x low = subst (λ z. unsigned_abs z ≤ 2 ^ 53) (sym (itself x low)) (omega arith)

-- the sum of two steps, as the code has it
pub record IsSmallSum (x y : ℤ) : Type 0 where
  pub fits : FitsSigned w64 (to_z w64 (of_z w64 x) +ℤ to_z w64 (of_z w64 y))
  pub value : to_z w64 (of_z w64 (to_z w64 (of_z w64 x) +ℤ to_z w64 (of_z w64 y))) ≡ x +ℤ y
  pub small : unsigned_abs (to_z w64 (of_z w64 (to_z w64 (of_z w64 x) +ℤ to_z w64 (of_z w64 y))))
      ≤ 2 ^ 53

pub small_sum : (x y : ℤ) → unsigned_abs x < 2 ^ 52 → unsigned_abs y < 2 ^ 52 → IsSmallSum x y
small_sum x y low high =
    let parts = ap₂ (λ m n. m +ℤ n) (itself x low) (itself y high) in
    let small : unsigned_abs (x +ℤ y) ≤ 2 ^ 53 = omega (arith, ints) in
    let fits : FitsSigned w64 (x +ℤ y) = fits_signed_from_abs w64 (x +ℤ y) (omega arith) in
    let value = ap (λ z. to_z w64 (of_z w64 z)) parts ∙ to_z-of_z w64 (x +ℤ y) fits in record {
      fits = subst (FitsSigned w64) (sym parts) fits;
      value = value;
      small = subst (λ z. unsigned_abs z ≤ 2 ^ 53) (sym value) small;
    }

pub positive_sum : (x y r : ℤ) → neg_ℤ y <ℤ r → r <ℤ x → pos 0 <ℤ (x +ℤ y)
positive_sum x y r above below = omega (arith, ints)

-- ---- numbers of 128 bits

pub wide_itself : (x : ℤ) → unsigned_abs x ≤ 2 ^ 107 → to_z w128 (of_z w128 x) ≡ x
wide_itself x low = to_z-of_z w128 x (fits_signed_from_abs w128 x (omega arith))

pub wide_small : (x : ℤ) → unsigned_abs x ≤ 2 ^ 107 →
    unsigned_abs (to_z w128 (of_z w128 x)) < 2 ^ 127
wide_small x low = subst (λ z. unsigned_abs z < 2 ^ 127) (sym (wide_itself x low)) (omega arith)

pub scale_itself : (x : ℤ) (n : ℕ) → x ≡ pos n → n < 2 ^ 31 →
    unsigned_abs (to_z w128 (of_z w128 x)) ≡ n
scale_itself x n e low =
    ap (λ z. unsigned_abs (to_z w128 (of_z w128 z))) e
    ∙ ap unsigned_abs (wide_itself (pos n) (omega arith))

-- the product of two numbers of 64 bits, as the code has it
pub record IsSmallProduct (a b x y : ℤ) : Type 0 where
  pub fits : FitsSigned w128 (to_z w128 (of_z w128 a) *ℤ to_z w128 (of_z w128 b))
  pub value : to_z w128 (of_z w128 (to_z w128 (of_z w128 a) *ℤ to_z w128 (of_z w128 b))) ≡ x *ℤ y
  pub small : unsigned_abs
      (to_z w128 (of_z w128 (to_z w128 (of_z w128 a) *ℤ to_z w128 (of_z w128 b)))) ≤ 2 ^ 106

widened : (a x : ℤ) → a ≡ to_z w64 (of_z w64 x) → unsigned_abs x ≤ 2 ^ 53 →
    to_z w128 (of_z w128 a) ≡ x
widened a x e low =
    ap (λ z. to_z w128 (of_z w128 z))
    (e ∙ to_z-of_z w64 x (fits_signed_from_abs w64 x (omega arith)))
    ∙ wide_itself x (omega arith)

pub small_product : (a b x y : ℤ) → a ≡ to_z w64 (of_z w64 x) → b ≡ to_z w64 (of_z w64 y) →
    unsigned_abs x ≤ 2 ^ 53 →
    unsigned_abs y ≤ 2 ^ 53 → IsSmallProduct a b x y
small_product a b x y a_is b_is first second =
    let parts = ap₂ (λ m n. m *ℤ n) (widened a x a_is first) (widened b y b_is second) in
    let low : unsigned_abs (x *ℤ y) ≤ 2 ^ 106 =
    subst (λ n. n ≤ 2 ^ 106) (sym (unsigned_abs-mul x y)) (mul-le-mul first second) in
    let value = ap (λ z. to_z w128 (of_z w128 z)) parts ∙ wide_itself (x *ℤ y) (omega arith) in
    record {
      fits = subst (FitsSigned w128) (sym parts) (fits_signed_from_abs w128 (x *ℤ y) (omega arith));
      value = value;
      small = subst (λ z. unsigned_abs z ≤ 2 ^ 106) (sym value) low;
    }

-- ---- the same fraction by equal numbers

pub place_ratio : (x : Frac) (a q q' : ℕ) (c c' w w' : ℤ) →
    IsRatio x (pos a *ℤ w +ℤ c) (pos q *ℤ w) → q ≡ q' → c ≡ c' → w ≡ w' →
    IsRatio x (pos a *ℤ w' +ℤ c') (pos q' *ℤ w')
place_ratio x a q q' c c' w w' h e g k =
    subst (λ (z : ℤ). IsRatio x (pos a *ℤ z +ℤ c') (pos q' *ℤ z)) k
    (subst (λ (z : ℤ). IsRatio x (pos a *ℤ w +ℤ z) (pos q' *ℤ w)) g
    (subst (λ (n : ℕ). IsRatio x (pos a *ℤ w +ℤ c) (pos n *ℤ w)) e h))

pub height_ratio : (x : Frac) (n n' : ℕ) (v v' s s' c c' w w' : ℤ) →
    IsRatio x (v *ℤ w +ℤ s *ℤ c) (pos n *ℤ w) → n ≡ n' → v ≡ v' →
    s ≡ s' → c ≡ c' → w ≡ w' → IsRatio x (v' *ℤ w' +ℤ s' *ℤ c') (pos n' *ℤ w')
height_ratio x n n' v v' s s' c c' w w' h e g j k l =
    subst (λ (z : ℤ). IsRatio x (v' *ℤ z +ℤ s' *ℤ c') (pos n' *ℤ z)) l
    (subst (λ (z : ℤ). IsRatio x (v' *ℤ w +ℤ s' *ℤ z) (pos n' *ℤ w)) k
    (subst (λ (z : ℤ). IsRatio x (v' *ℤ w +ℤ z *ℤ c) (pos n' *ℤ w)) j
    (subst (λ (z : ℤ). IsRatio x (z *ℤ w +ℤ s *ℤ c) (pos n' *ℤ w)) g
    (subst (λ (m : ℕ). IsRatio x (v *ℤ w +ℤ s *ℤ c) (pos m *ℤ w)) e h))))

-- ---- lists, place by place

pub zip_append : {X Y : Type 0} (R : X → Y → Type 0) (xs : List X) (ys : List Y) (us : List X)
    (ws : List Y) → AllZip R xs ys →
    AllZip R us ws → AllZip R (xs ++ us) (ys ++ ws)
zip_append R [] [] us ws h k = k
zip_append R [] (y ∷ ys) us ws h k = absurd h
zip_append R (x ∷ xs) [] us ws h k = absurd h
zip_append R (x ∷ xs) (y ∷ ys) us ws h k = (h.0, zip_append R xs ys us ws h.1 k)

-- ---- points

pub points_crossing : (f : FunctionData) (s t : ℤ) (a : ℕ) → neg_ℤ t <ℤ rise f a → rise f a <ℤ s →
    points_from f s t a ≡ value_point f a ∷ crossing_point f s t a ∷ []
points_crossing f s t a above below =
    by_tests (int_lt (neg_ℤ t) (rise f a)) (int_lt (rise f a) s) refl refl
  where
    by_tests : (x y : Bool) → int_lt (neg_ℤ t) (rise f a) ≡ x → int_lt (rise f a) s ≡ y →
        cond (x && y) (value_point f a ∷ crossing_point f s t a ∷ []) (value_point f a ∷ [])
        ≡ value_point f a ∷ crossing_point f s t a ∷ []
    by_tests true true e g = refl
    by_tests true false e g = absurd (omega (arith, ints))
    by_tests false y e g = absurd (omega (arith, ints))

pub points_single : (f : FunctionData) (s t : ℤ) (a : ℕ) →
    ((neg_ℤ t <ℤ rise f a) × (rise f a <ℤ s) → ⊥) →
    points_from f s t a ≡ value_point f a ∷ []
points_single f s t a none = by_tests (int_lt (neg_ℤ t) (rise f a)) (int_lt (rise f a) s) refl refl
  where
    by_tests : (x y : Bool) → int_lt (neg_ℤ t) (rise f a) ≡ x → int_lt (rise f a) s ≡ y →
        cond (x && y) (value_point f a ∷ crossing_point f s t a ∷ []) (value_point f a ∷ [])
        ≡ value_point f a ∷ []
    by_tests true true e g = absurd (none (omega (arith, ints), omega (arith, ints)))
    by_tests true false e g = refl
    by_tests false y e g = refl

-- the points from one more place
pub points_more : (f : FunctionData) (s t : ℤ) (a : ℕ) (before more after : List (Frac × Frac)) →
    AllZip IsPairOf (flat_map (points_from f s t) (range_with_len 0 a)) before →
    AllZip IsPairOf (points_from f s t a) more →
    after ≡ before ++ more →
    AllZip IsPairOf (flat_map (points_from f s t) (range_with_len 0 (a + 1))) after
points_more f s t a before more after h k e =
    let g = points_from f s t in
    let split : flat_map g (range_with_len 0 (a + 1)) ≡ flat_map g (range_with_len 0 a) ++ g a =
    ap (flat_map g) (range_split 0 a 1 ∙ ap (λ n. range_with_len 0 a ++ n ∷ []) (zero-add a))
    ∙ flat_map-append g (range_with_len 0 a) (a ∷ [])
    ∙ ap (λ ps. flat_map g (range_with_len 0 a) ++ ps) (append-nil (g a)) in
    subst (λ bs. AllZip IsPairOf (flat_map g (range_with_len 0 (a + 1))) bs) (sym e)
    (subst (λ ps. AllZip IsPairOf ps (before ++ more)) (sym split)
    (zip_append IsPairOf (flat_map g (range_with_len 0 a)) before (g a) more h k))
