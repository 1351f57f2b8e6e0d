-- A function on a finer grid: the number of its places, and the scale times the steps as the code
-- multiplies them.
use Rattle.std.proofs.Common.{◌≡◌, ◌≢◌, ℕ, ◌*◌, ◌/◌, ◌<◌, ◌≤◌, ◌^◌, ℤ, pos, ◌*ℤ◌, unsigned_abs, Fits, FitsSigned, to_z, of_z, sym, ap, ap₂, subst, subst₂, ◌∙◌, arith}
use Rattle.std.proofs.Math.Nat.{mul-pos}
use Rattle.std.proofs.lemmas.Int.{ints, to_z-of_z, fits_signed_from_abs, unsigned_abs-mul}
use Rattle.std.proofs.lemmas.Nat.{mul-le, div_below}
use Rattle.gj_frac.proofs.Reduced.{read_part}
use Rattle.gj_shape.specs.FunctionData.{FunctionData, IsWithinBounds}
use mir.Syntax.{w32, w64, w128}

-- the order is that of the function, times m at most 1,000
pub count_fits : (n q m : ℕ) → n ≡ q → q * m ≤ 1000 → Fits w32 (n * m)
count_fits n q m e few =
    let same = ap (λ k. k * m) e in
    record { fits = omega arith }

-- an index below it, over m, is below the order
pub index_below : (i n q m : ℕ) → n ≡ q → 0 < m → i < n * m → i / m < q
index_below i n q m e some h = div_below i m q some (subst (λ k. i < k * m) e h)

-- steps of a function with at most 1,000 pieces
pub steps_few : (q m : ℕ) → 2 ≤ q → q * m ≤ 1000 → m ≤ 2 ^ 62
steps_few q m low few =
    let more = mul-le 2 m q m low (omega arith) in
    omega arith

-- the scale in place of its bound
pub scale_low : (f : FunctionData) → IsWithinBounds f → f.scale ≤ 2 ^ 31
scale_low f h =
    let high = h.scale_high in
    omega arith

-- a number that fits is read as it is, so it fits when it is read
pub read_below : (z : ℤ) → unsigned_abs z < 2 ^ 127 →
    unsigned_abs (to_z w128 (of_z w128 z)) < 2 ^ 127
read_below z h = subst (λ (a : ℤ). unsigned_abs a < 2 ^ 127) (sym (read_part z h)) h

read_natural : (z : ℤ) (n : ℕ) → z ≡ pos n → n < 2 ^ 127 → to_z w128 (of_z w128 z) ≡ pos n
read_natural z n e h = ap (λ a. to_z w128 (of_z w128 a)) e ∙ read_part (pos n) h

below_power : (scale m : ℕ) → scale ≤ 2 ^ 31 → m ≤ 2 ^ 62 → scale * m < 2 ^ 127
below_power scale m low few =
    let product = mul-le scale m (2 ^ 31) (2 ^ 62) low few in
    omega arith

-- the product fits
pub scaled_fits : (a b : ℤ) (scale m : ℕ) → a ≡ pos scale → b ≡ pos m → scale ≤ 2 ^ 31 →
    m ≤ 2 ^ 62 →
    FitsSigned w128 (to_z w128 (of_z w128 a) *ℤ to_z w128 (of_z w128 b))
scaled_fits a b scale m scale_is m_is low few =
    subst₂ (λ x y. FitsSigned w128 (x *ℤ y)) (sym (read_natural a scale scale_is (omega arith)))
    (sym (read_natural b m m_is (omega arith)))
    (fits_signed_from_abs w128 (pos (scale * m)) (below_power scale m low few))

-- so it is read as it is
pub scaled_read : (a b : ℤ) (scale m : ℕ) → a ≡ pos scale → b ≡ pos m → scale ≤ 2 ^ 31 →
    m ≤ 2 ^ 62 →
    to_z w128 (of_z w128 (to_z w128 (of_z w128 a) *ℤ to_z w128 (of_z w128 b))) ≡ pos (scale * m)
scaled_read a b scale m scale_is m_is low few =
    ap₂ (λ x y. to_z w128 (of_z w128 (x *ℤ y))) (read_natural a scale scale_is (omega arith))
    (read_natural b m m_is (omega arith))
    ∙ read_part (pos (scale * m)) (below_power scale m low few)

-- it is a denominator: not 0, and it fits
pub scaled_some : (a b : ℤ) (scale m : ℕ) → a ≡ pos scale → b ≡ pos m → scale ≤ 2 ^ 31 →
    m ≤ 2 ^ 62 → 0 < scale → 0 < m →
    unsigned_abs (to_z w128 (of_z w128 (to_z w128 (of_z w128 a) *ℤ to_z w128 (of_z w128 b)))) ≢ 0
scaled_some a b scale m scale_is m_is low few scale_some m_some =
    let some = mul-pos scale_some m_some in
    let apart : scale * m ≢ 0 = omega arith in
    subst (λ (z : ℤ). unsigned_abs z ≢ 0) (sym (scaled_read a b scale m scale_is m_is low few))
    apart

pub scaled_below : (a b : ℤ) (scale m : ℕ) → a ≡ pos scale → b ≡ pos m → scale ≤ 2 ^ 31 →
    m ≤ 2 ^ 62 →
    unsigned_abs (to_z w128 (of_z w128 (to_z w128 (of_z w128 a) *ℤ to_z w128 (of_z w128 b))))
    < 2 ^ 127
scaled_below a b scale m scale_is m_is low few =
    subst (λ (z : ℤ). unsigned_abs z < 2 ^ 127)
    (sym (scaled_read a b scale m scale_is m_is low few))
    (below_power scale m low few)

-- ---- a weight of at most 2^62 times an entry of 64 bits

entry_below : (x : ℤ) → FitsSigned w64 x → unsigned_abs x ≤ 2 ^ 63
entry_below x fits = omega (arith, ints)

product_small : (w : ℕ) (x : ℤ) → w ≤ 2 ^ 62 → FitsSigned w64 x →
    unsigned_abs (pos w *ℤ x) ≤ 2 ^ 125
product_small w x few fits =
    let size = unsigned_abs-mul (pos w) x in
    let product = mul-le w (unsigned_abs x) (2 ^ 62) (2 ^ 63) few (entry_below x fits) in
    omega arith

product_below : (w : ℕ) (x : ℤ) → w ≤ 2 ^ 62 → FitsSigned w64 x →
    unsigned_abs (pos w *ℤ x) < 2 ^ 127
product_below w x few fits =
    let small = product_small w x few fits in
    omega arith

factors_read : (a b : ℤ) (w : ℕ) (x : ℤ) → a ≡ pos w → b ≡ to_z w64 (of_z w64 x) → w ≤ 2 ^ 62 →
    FitsSigned w64 x →
    to_z w128 (of_z w128 a) *ℤ to_z w128 (of_z w128 b) ≡ pos w *ℤ x
factors_read a b w x a_is b_is few fits =
    let same : b ≡ x = b_is ∙ to_z-of_z w64 x fits in
    let small = entry_below x fits in
    ap₂ (λ y z. y *ℤ z) (read_natural a w a_is (omega arith))
    (ap (λ z. to_z w128 (of_z w128 z)) same ∙ read_part x (omega arith))

-- the product fits
pub weighted_fits : (a b : ℤ) (w : ℕ) (x : ℤ) → a ≡ pos w → b ≡ to_z w64 (of_z w64 x) → w ≤ 2 ^ 62 →
    FitsSigned w64 x →
    FitsSigned w128 (to_z w128 (of_z w128 a) *ℤ to_z w128 (of_z w128 b))
weighted_fits a b w x a_is b_is few fits =
    subst (λ (z : ℤ). FitsSigned w128 z) (sym (factors_read a b w x a_is b_is few fits))
    (fits_signed_from_abs w128 (pos w *ℤ x) (product_below w x few fits))

-- so it is read as it is
pub weighted_read : (a b : ℤ) (w : ℕ) (x : ℤ) → a ≡ pos w → b ≡ to_z w64 (of_z w64 x) → w ≤ 2 ^ 62 →
    FitsSigned w64 x →
    to_z w128 (of_z w128 (to_z w128 (of_z w128 a) *ℤ to_z w128 (of_z w128 b))) ≡ pos w *ℤ x
weighted_read a b w x a_is b_is few fits =
    ap (λ z. to_z w128 (of_z w128 z)) (factors_read a b w x a_is b_is few fits)
    ∙ read_part (pos w *ℤ x) (product_below w x few fits)

pub weighted_small : (a b : ℤ) (w : ℕ) (x : ℤ) → a ≡ pos w → b ≡ to_z w64 (of_z w64 x) →
    w ≤ 2 ^ 62 → FitsSigned w64 x →
    unsigned_abs (to_z w128 (of_z w128 (to_z w128 (of_z w128 a) *ℤ to_z w128 (of_z w128 b))))
    ≤ 2 ^ 125
weighted_small a b w x a_is b_is few fits =
    subst (λ (z : ℤ). unsigned_abs z ≤ 2 ^ 125) (sym (weighted_read a b w x a_is b_is few fits))
    (product_small w x few fits)
