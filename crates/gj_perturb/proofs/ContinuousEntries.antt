-- The table of a continuous function as sums of two products, and what the code reads of these.
use Rattle.std.proofs.Common.{◌≡◌, ℕ, zero, suc, ◌+◌, ◌-◌, ◌*◌, ◌/◌, ◌%◌, ◌<◌, ◌≤◌, ◌^◌, ℤ, pos, ◌+ℤ◌, ◌*ℤ◌, unsigned_abs, w64, to_z, of_z, FitsSigned, sym, ap, ap₂, ◌∙◌, mul-le-mul_right, arith}
use Rattle.std.proofs.lemmas.Int.{ints, to_z-of_z, unsigned_abs-mul, fits_signed_from_abs}
use Rattle.gj_lemmas.proofs.Integers.{abs_add_z}
use Rattle.gj_shape.specs.FunctionData.{FunctionData, IsContinuous, at}
use Rattle.gj_shape.specs.Limits.{IsNumerator}
use Rattle.gj_shape.specs.Table.{table, entry}
use Rattle.gj_shape.proofs.TableLemmas.{left_is_value, right_is_value}

-- 0 times a number adds nothing
no_more : (x y : ℤ) → x ≡ x +ℤ pos 0 *ℤ y
no_more x y = omega (arith, ints)

entry_continuous : (f : FunctionData) (m a r : ℕ) → IsContinuous f →
    entry f m a r ≡ pos (m - r) *ℤ at f.value a +ℤ pos r *ℤ at f.value (a + 1)
entry_continuous f m a zero h =
    let whole : m - zero ≡ m = omega arith in
    no_more (pos m *ℤ at f.value a) (at f.value (a + 1))
    ∙ ap (λ n. pos n *ℤ at f.value a +ℤ pos 0 *ℤ at f.value (a + 1)) (sym whole)
entry_continuous f m a (suc r) h =
    ap₂ (λ x y. pos (m - suc r) *ℤ x +ℤ pos (suc r) *ℤ y) (right_is_value f a h)
    (left_is_value f (a + 1) h)

pub table_continuous : (f : FunctionData) (m i : ℕ) → IsContinuous f →
    table f m i ≡ pos (m - i % m) *ℤ at f.value (i / m) +ℤ pos (i % m) *ℤ at f.value (i / m + 1)
unfolding table
table_continuous f m i h = entry_continuous f m (i / m) (i % m) h

-- a number as the code has it
abbrev pub read : ℤ → ℤ
read z = to_z w64 (of_z w64 z)

product_size : (k : ℕ) (x : ℤ) → k ≤ 4 → IsNumerator x → unsigned_abs (pos k *ℤ x) < 2 ^ 53
product_size k x few small =
    let size : unsigned_abs (pos k *ℤ x) ≡ k * unsigned_abs x = unsigned_abs-mul (pos k) x in
    let most : k * unsigned_abs x ≤ 4 * unsigned_abs x = mul-le-mul_right (unsigned_abs x) few in
    omega arith

small_read : (x : ℤ) → unsigned_abs x < 2 ^ 53 → read x ≡ x
small_read x small = to_z-of_z w64 x (fits_signed_from_abs w64 x (omega arith))

factor_read : (k : ℕ) (n : ℤ) → n ≡ pos k → k ≤ 4 → read n ≡ pos k
factor_read k n e few = let size : unsigned_abs n ≡ k = ap unsigned_abs e in
    small_read n (omega arith) ∙ e

pub product_read : (k : ℕ) (n x : ℤ) → n ≡ pos k → k ≤ 4 → IsNumerator x →
    read (read n *ℤ read x) ≡ pos k *ℤ x
product_read k n x e few small =
    let first : read n ≡ pos k = factor_read k n e few in
    let second : read x ≡ x = small_read x (omega arith) in
    ap₂ (λ y z. read (y *ℤ z)) first second ∙ small_read (pos k *ℤ x) (product_size k x few small)

sum_size : (k j : ℕ) (x y : ℤ) → k ≤ 4 → j ≤ 4 → IsNumerator x → IsNumerator y →
    unsigned_abs (pos k *ℤ x +ℤ pos j *ℤ y) < 2 ^ 54
sum_size k j x y few few' small small' =
    let first = product_size k x few small in
    let second = product_size j y few' small' in
    let both = abs_add_z (pos k *ℤ x) (pos j *ℤ y) in
    omega arith

pub sum_fits : (k j : ℕ) (n m x y : ℤ) → n ≡ pos k → m ≡ pos j → k ≤ 4 → j ≤ 4 → IsNumerator x →
    IsNumerator y → FitsSigned w64 (read (read n *ℤ read x) +ℤ read (read m *ℤ read y))
sum_fits k j n m x y e g few few' small small' =
    let size = sum_size k j x y few few' small small' in
    rw (product_read k n x e few small, product_read j m y g few' small')
    (fits_signed_from_abs w64 _ (omega arith))

pub sum_read : (k j : ℕ) (n m x y : ℤ) → n ≡ pos k → m ≡ pos j → k ≤ 4 → j ≤ 4 → IsNumerator x →
    IsNumerator y → read (read (read n *ℤ read x) +ℤ read (read m *ℤ read y))
    ≡ pos k *ℤ x +ℤ pos j *ℤ y
sum_read k j n m x y e g few few' small small' =
    let size = sum_size k j x y few few' small small' in
    rw (product_read k n x e few small, product_read j m y g few' small')
    (to_z-of_z w64 _ (fits_signed_from_abs w64 _ (omega arith)))
