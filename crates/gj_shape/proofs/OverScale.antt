-- Fractions as whole numbers over a common denominator.
use Rattle.std.proofs.Common.{◌≡◌, ℕ, ◌*◌, ◌/◌, ◌<◌, ◌≤◌, ◌^◌, List, [], ◌∷◌, map, All, ℤ, pos, ◌*ℤ◌, unsigned_abs, refl, sym, ap, subst, ◌∙◌, arith}
use Rattle.std.specs.List.{AllZip}
use Rattle.std.proofs.Math.Nat.{mul_comm, mul_assoc, mul-div_cancel', le_of_mul-le-mul_right}
use Rattle.std.proofs.lemmas.Int.{ints, unsigned_abs-mul}
use Rattle.std.proofs.lemmas.List.Elements.{All-nil, All-cons, All-head, All-tail}
use Rattle.gj_frac.specs.declared.Frac.{Frac}
use Rattle.gj_frac.specs.Fraction.{IsRatio, numerator, denominator}
use Rattle.gj_lemmas.proofs.Divisors.{whole_multiple}
use Rattle.gj_lemmas.proofs.Integers.{mul_assoc_z, mul_comm_z, mul_cancel_right_z, abs_positive_z, pos_abs_z}
use Rattle.gj_shape.specs.FunctionData.{IsSmallOver}
use Rattle.gj_shape.specs.Given.{IsSmall, numerator_over}
use Rattle.gj_shape.proofs.LeastDenominator.{Divides}

-- the whole number n over the scale is the fraction
abbrev pub IsOver : ℕ → Frac → ℤ → Type 0
IsOver scale x n = IsRatio x n (pos scale)

-- ---- one fraction over a common denominator

pub denominator_is : (x : Frac) → pos (unsigned_abs (denominator x)) ≡ denominator x
denominator_is x = pos_abs_z (denominator x) (omega (arith, ints, x.lowest.positive))

-- the numerator over the scale is the fraction
pub over_scale : (scale : ℕ) (x : Frac) → Divides scale x → IsOver scale x (numerator_over scale x)
over_scale scale x h =
    let d = unsigned_abs (denominator x) in
    let whole : scale ≡ scale / d * d = sym (mul-div_cancel' d h) ∙ mul_comm d (scale / d) in
    let split : pos scale ≡ pos (scale / d) *ℤ denominator x =
    ap pos whole ∙ ap (λ z. pos (scale / d) *ℤ z) (denominator_is x) in
    ap (λ z. numerator x *ℤ z) split
    ∙ sym (mul_assoc_z (numerator x) (pos (scale / d)) (denominator x))

-- if a whole number over the scale is the fraction, the denominator divides the scale
pub divides_from_over : (scale : ℕ) (x : Frac) (n : ℤ) → IsOver scale x n → Divides scale x
divides_from_over scale x n e =
    whole_multiple (numerator x) n (unsigned_abs (denominator x)) scale x.lowest.coprime
    (mul_comm_z (pos scale) (numerator x) ∙ e ∙ ap (λ z. n *ℤ z) (sym (denominator_is x)))

-- and it is the numerator over the scale
pub numerator_from_over : (scale : ℕ) (x : Frac) (n : ℤ) → IsOver scale x n →
    n ≡ numerator_over scale x
numerator_from_over scale x n e =
    let some = abs_positive_z (denominator x) x.lowest.positive in
    mul_cancel_right_z n (numerator_over scale x) (denominator x)
    (sym e ∙ over_scale scale x (divides_from_over scale x n e)) (omega arith)

-- a fraction is small if its numerator over the scale is
small_from_over : (scale : ℕ) (x : Frac) → 1 ≤ scale → Divides scale x →
    IsSmallOver scale (numerator_over scale x) → IsSmall x
small_from_over scale x low h small =
    let n = unsigned_abs (numerator x) in
    let d = unsigned_abs (denominator x) in
    let c = scale / d in
    let whole : d * c ≡ scale = mul-div_cancel' d h in
    let no : c ≡ 0 → ⊥ = λ z. let none = ap (λ m. d * m) z in omega arith in
    let some : 0 < c = omega (arith, no) in
    let size : unsigned_abs (numerator_over scale x) ≡ n * c =
    unsigned_abs-mul (numerator x) (pos c) in
    let bound : 2 ^ 20 * scale ≡ 2 ^ 20 * d * c = ap (λ m. 2 ^ 20 * m) (sym whole)
    ∙ sym (mul_assoc (2 ^ 20) d c) in
    let le : n * c ≤ 2 ^ 20 * d * c = omega arith in
    le_of_mul-le-mul_right le some

-- ---- a list of fractions over a common denominator

pub all_over : (scale : ℕ) (xs : List Frac) → All (Divides scale) xs →
    AllZip (IsOver scale) xs (map (numerator_over scale) xs)
all_over scale [] h = tt
all_over scale (x ∷ xs) h = (
  over_scale scale x (All-head (Divides scale) x xs h),
  all_over scale xs (All-tail (Divides scale) x xs h),
)

pub all_divide : (scale : ℕ) (xs : List Frac) (ns : List ℤ) → AllZip (IsOver scale) xs ns →
    All (Divides scale) xs
all_divide scale [] [] h = All-nil (Divides scale)
all_divide scale [] (n ∷ ns) h = absurd h
all_divide scale (x ∷ xs) [] h = absurd h
all_divide scale (x ∷ xs) (n ∷ ns) h =
    All-cons (Divides scale) x xs (divides_from_over scale x n h.0) (all_divide scale xs ns h.1)

pub all_numerators : (scale : ℕ) (xs : List Frac) (ns : List ℤ) → AllZip (IsOver scale) xs ns →
    ns ≡ map (numerator_over scale) xs
all_numerators scale [] [] h = refl
all_numerators scale [] (n ∷ ns) h = absurd h
all_numerators scale (x ∷ xs) [] h = absurd h
all_numerators scale (x ∷ xs) (n ∷ ns) h =
    (λ i. numerator_from_over scale x n h.0 i ∷ all_numerators scale xs ns h.1 i)

pub all_small : (scale : ℕ) (xs : List Frac) (ns : List ℤ) → 1 ≤ scale →
    ns ≡ map (numerator_over scale) xs →
    All (Divides scale) xs → All (IsSmallOver scale) ns → All IsSmall xs
all_small scale xs ns low e h small = along xs h (subst (All (IsSmallOver scale)) e small)
  where
    along : (xs : List Frac) → All (Divides scale) xs →
        All (IsSmallOver scale) (map (numerator_over scale) xs) → All IsSmall xs
    along [] h small = All-nil IsSmall
    along (x ∷ xs) h small =
        All-cons IsSmall x xs
        (small_from_over scale x low (All-head (Divides scale) x xs h)
        (All-head (IsSmallOver scale) (numerator_over scale x)
        (map (numerator_over scale) xs) small))
        (along xs (All-tail (Divides scale) x xs h)
        (All-tail (IsSmallOver scale) (numerator_over scale x)
        (map (numerator_over scale) xs) small))
