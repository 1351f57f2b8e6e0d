-- How the code reads the numerators of a function.
use Rattle.std.proofs.Common.{◌≡◌, ℕ, ◌%◌, ◌<◌, ◌^◌, ℤ, pos, List, length, get_or, unsigned_abs, FitsSigned, to_z, of_z, w64, sym, subst, ap, ap₂, ◌∙◌, arith}
use Rattle.std.proofs.lemmas.Int.{ints, to_z-of_z}
use Rattle.gj_shape.specs.FunctionData.{FunctionData, IsWithinBounds, IsSmallOver, at}
use Rattle.gj_shape.proofs.AtLemmas.{at_below, at_read, at_wrapped, at_left_small, at_value_small, at_right_small}

-- ---- a numerator has 51 bits

small_below : (n : ℤ) (scale : ℕ) → IsSmallOver scale n → scale < 2 ^ 31 → unsigned_abs n < 2 ^ 51
small_below n scale small high = omega arith

-- so has each at any index
pub left_below : (f : FunctionData) (i : ℕ) → IsWithinBounds f → unsigned_abs (at f.left i) < 2 ^ 51
left_below f i h = small_below (at f.left i) f.scale (at_left_small f i h) h.scale_high

pub value_below : (f : FunctionData) (i : ℕ) → IsWithinBounds f →
    unsigned_abs (at f.value i) < 2 ^ 51
value_below f i h = small_below (at f.value i) f.scale (at_value_small f i h) h.scale_high

pub right_below : (f : FunctionData) (i : ℕ) → IsWithinBounds f →
    unsigned_abs (at f.right i) < 2 ^ 51
right_below f i h = small_below (at f.right i) f.scale (at_right_small f i h) h.scale_high

-- ---- as the code has it

-- a number of 51 bits
pub small_read : (x : ℤ) → unsigned_abs x < 2 ^ 51 → to_z w64 (of_z w64 x) ≡ x
small_read x small = to_z-of_z w64 x (omega (arith, ints))

-- an entry at an index below the length
pub entry_read : (xs ys : List ℤ) (i : ℕ) → xs ≡ ys → i < length ys →
    FitsSigned w64 (get_or xs i (pos 0)) →
    to_z w64 (of_z w64 (get_or xs i (pos 0))) ≡ at ys i
entry_read xs ys i e below fits =
    to_z-of_z w64 (get_or xs i (pos 0)) fits ∙ ap (λ zs. get_or zs i (pos 0)) e
    ∙ sym (at_below ys i below)

-- an entry at the remainder of an index
pub rest_read : (xs ys : List ℤ) (i k n : ℕ) → xs ≡ ys → length ys ≡ n → k ≡ i % n →
    FitsSigned w64 (get_or xs k (pos 0)) → to_z w64 (of_z w64 (get_or xs k (pos 0))) ≡ at ys i
unfolding at
rest_read xs ys i k n e len k_is fits =
    to_z-of_z w64 (get_or xs k (pos 0)) fits
    ∙ ap₂ (λ zs j. get_or zs j (pos 0)) e (k_is ∙ ap (λ m. i % m) (sym len))

-- an entry that was read at the remainder of an index
pub remainder_read : (xs : List ℤ) (i k n : ℕ) (x : ℤ) → length xs ≡ n → k ≡ i % n → k < n →
    x ≡ get_or xs k x → x ≡ at xs i
remainder_read xs i k n x len k_is below read =
    sym (at_read xs k x (subst (λ m. k < m) (sym len) below) read) ∙ at_wrapped xs i k n len k_is
