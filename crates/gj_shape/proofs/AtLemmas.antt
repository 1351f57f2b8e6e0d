-- Entries at indices that are read modulo the length.
use Rattle.std.proofs.Common.{◌≡◌, ℕ, ◌+◌, ◌*◌, ◌%◌, ◌<◌, ◌≤◌, ◌^◌, ℤ, pos, List, length, get_or, All, unsigned_abs, ◌≢◌, sym, ap, ◌∙◌, arith}
use Rattle.std.proofs.lemmas.List.{get_or_read}
use Rattle.std.proofs.Math.Nat.{mod-eq_of_lt, mod-mod, add-mod_right}
use Rattle.std.proofs.lemmas.Nat.{mod_below}
use Rattle.std.proofs.lemmas.List.Elements.{All-get_or}
use Rattle.gj_shape.specs.FunctionData.{FunctionData, IsWithinBounds, IsSmallOver, at}

-- at an index below the length it is the entry there
pub at_below : (xs : List ℤ) (i : ℕ) → i < length xs → at xs i ≡ get_or xs i (pos 0)
unfolding at
at_below xs i h = ap (λ k. get_or xs k (pos 0)) (mod-eq_of_lt h)

-- indices with one remainder have one entry
pub at_same_remainder : (xs : List ℤ) (i j : ℕ) → i % length xs ≡ j % length xs → at xs i ≡ at xs j
unfolding at
at_same_remainder xs i j e = ap (λ k. get_or xs k (pos 0)) e

-- the index may be the remainder
pub at_remainder : (xs : List ℤ) (i : ℕ) → at xs (i % length xs) ≡ at xs i
at_remainder xs i = at_same_remainder xs (i % length xs) i (mod-mod i (length xs))

-- the same if the length is known by another name
pub at_wrapped : (xs : List ℤ) (i j n : ℕ) → length xs ≡ n → j ≡ i % n → at xs j ≡ at xs i
at_wrapped xs i j n len e = ap (at xs) (e ∙ ap (λ m. i % m) (sym len)) ∙ at_remainder xs i

-- the entries have the length as a period
pub at_plus_length : (xs : List ℤ) (i : ℕ) → at xs (i + length xs) ≡ at xs i
at_plus_length xs i = at_same_remainder xs (i + length xs) i (add-mod_right i (length xs))

-- what holds of all entries holds of the entry at any index
pub all_at : (P : ℤ → Type 0) (xs : List ℤ) (i : ℕ) → 0 < length xs → All P xs → P (at xs i)
unfolding at
all_at P xs i some h = All-get_or P xs (i % length xs) (pos 0) (mod_below i (length xs) some) h

-- limits and values are at most 2^20 in absolute value, at any index
pub at_left_small : (f : FunctionData) (i : ℕ) → IsWithinBounds f →
    unsigned_abs (at f.left i) ≤ 2 ^ 20 * f.scale
at_left_small f i h =
    let some : 0 < length f.left = omega (arith, h.left_length, h.order_low) in
    all_at (IsSmallOver f.scale) f.left i some h.left_small

pub at_value_small : (f : FunctionData) (i : ℕ) → IsWithinBounds f →
    unsigned_abs (at f.value i) ≤ 2 ^ 20 * f.scale
at_value_small f i h =
    let some : 0 < length f.value = omega (arith, h.value_length, h.order_low) in
    all_at (IsSmallOver f.scale) f.value i some h.value_small

pub at_right_small : (f : FunctionData) (i : ℕ) → IsWithinBounds f →
    unsigned_abs (at f.right i) ≤ 2 ^ 20 * f.scale
at_right_small f i h =
    let some : 0 < length f.right = omega (arith, h.right_length, h.order_low) in
    all_at (IsSmallOver f.scale) f.right i some h.right_small

-- ---- what a read of the code gives

-- an entry that was read at an index below the length is the entry there
pub at_read : (xs : List ℤ) (i : ℕ) (n : ℤ) → i < length xs → n ≡ get_or xs i n → at xs i ≡ n
at_read xs i n h e = at_below xs i h ∙ sym (get_or_read xs i n h e (pos 0))

-- entries that were read and differ
pub apart_at : (xs ys : List ℤ) (i : ℕ) (m n : ℤ) → i < length xs → i < length ys →
    m ≡ get_or xs i m →
    n ≡ get_or ys i n → m ≢ n → at xs i ≢ at ys i
apart_at xs ys i m n h k d e differ same =
    differ (sym (at_read xs i m h d) ∙ same ∙ at_read ys i n k e)

-- entries that are equal as they stand are equal modulo the length
pub same_at : (xs ys : List ℤ) (i : ℕ) → i < length xs → i < length ys →
    get_or xs i (pos 0) ≡ get_or ys i (pos 0) → at xs i ≡ at ys i
same_at xs ys i h k e = at_below xs i h ∙ e ∙ sym (at_below ys i k)
