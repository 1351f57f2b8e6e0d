-- What holds at each index below the order holds at every index, since entries repeat.
use Rattle.std.proofs.Common.{◌≡◌, ℕ, ◌+◌, ◌-◌, ◌%◌, ◌<◌, ℤ, pos, ◌+ℤ◌, List, length, refl, ap, sym, subst, ◌∙◌, arith}
use Rattle.std.proofs.Math.Nat.{add-mod_right, mod-lt, mod-add-mod}
use Rattle.gj_shape.specs.FunctionData.{at}
use Rattle.gj_shape.proofs.AtLemmas.{at_wrapped, at_same_remainder}

-- indices with one rest modulo the order have one entry
pub at_same : (xs : List ℤ) (i j n : ℕ) → length xs ≡ n → i % n ≡ j % n → at xs i ≡ at xs j
at_same xs i j n len e = at_same_remainder xs i j (subst (λ m. i % m ≡ j % m) (sym len) e)

-- the index opposite to i, up to multiples of n
pub opposite_index : (i j k n : ℕ) → 0 < n → (i + j) % n ≡ k % n → j % n ≡ (k + (n - i % n)) % n
opposite_index i j k n some e =
    let r = i % n in
    let small : r < n = mod-lt i some in
    let turned : (r + j) % n ≡ k % n = mod-add-mod i n j ∙ e in
    let more : ((r + j) % n + (n - r)) % n ≡ (k % n + (n - r)) % n =
    ap (λ x. (x + (n - r)) % n) turned in
    let whole : r + j + (n - r) ≡ j + n = omega arith in
    sym (add-mod_right j n) ∙ ap (λ x. x % n) (sym whole)
    ∙ sym (mod-add-mod (r + j) n (n - r)) ∙ more ∙ mod-add-mod k n (n - r)

-- what holds of each entry below the length holds of each entry
pub everywhere : (P : ℤ → Type 0) (xs : List ℤ) (n : ℕ) → length xs ≡ n → 0 < n →
    ((i : ℕ) → i < n → P (at xs i)) →
    (i : ℕ) → P (at xs i)
everywhere P xs n len some h i =
    subst P (at_wrapped xs i (i % n) n len refl) (h (i % n) (mod-lt i some))

-- symmetry
pub symmetric_everywhere : (xs : List ℤ) (n k s : ℕ) → length xs ≡ n → 0 < n →
    ((i : ℕ) → i < n → at xs i +ℤ at xs (k + (n - i)) ≡ pos s) →
    (i j : ℕ) → (i + j) % n ≡ k % n → at xs i +ℤ at xs j ≡ pos s
symmetric_everywhere xs n k s len some h i j e =
    let first : at xs i ≡ at xs (i % n) = sym (at_wrapped xs i (i % n) n len refl) in
    let second : at xs j ≡ at xs (k + (n - i % n)) =
    at_same xs j (k + (n - i % n)) n len (opposite_index i j k n some e) in
    rw (first, second) (h (i % n) (mod-lt i some))
