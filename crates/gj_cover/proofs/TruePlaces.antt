-- The indices below a number at which a test is true, in ascending order.
use Rattle.std.proofs.Common.{◌≡◌, ℕ, suc, ◌+◌, ◌-◌, ◌<◌, ◌↔◌, List, [], ◌∷◌, ◌++◌, Bool, true, false, cond, refl, sym, ap, ◌∙◌, subst, zero-add, arith}
use Rattle.std.specs.List.{filter, range_with_len, Contains}
use Rattle.std.specs.List.Sorted.{IsStrictlyIncreasing}
use Rattle.std.proofs.lemmas.List.{append-nil}
use Rattle.std.proofs.lemmas.List.Elements.{filter-append, filter_passes, All-contains, Contains-append_right}
use Rattle.std.proofs.lemmas.List.FromFn.{length-range_with_len, get_or-range_with_len}
use Rattle.std.proofs.lemmas.List.Kept.{IsStrictlyIncreasing-filter}
use Rattle.gj_lemmas.proofs.Lists.{range_split, range_at}

-- the places below n
abbrev pub places : (ℕ → Bool) → ℕ → List ℕ
places p n = filter p (range_with_len 0 n)

-- the numbers below n and n itself
pub range_next : (n : ℕ) → range_with_len 0 (n + 1) ≡ range_with_len 0 n ++ n ∷ []
range_next n = range_split 0 n 1 ∙ ap (λ k. range_with_len 0 n ++ k ∷ []) (zero-add n)

places_next : (p : ℕ → Bool) (n : ℕ) → places p (n + 1) ≡ places p n ++ filter p (n ∷ [])
places_next p n =
    ap (filter p) (range_next n) ∙ filter-append p (range_with_len 0 n) (n ∷ [])

pub place_true : (p : ℕ → Bool) (n : ℕ) → p n ≡ true → places p (n + 1) ≡ places p n ++ n ∷ []
place_true p n e =
    places_next p n ∙ ap (λ l. places p n ++ l) (let one : filter p (n ∷ []) ≡ n ∷ [] =
    ap (λ b. cond b (n ∷ []) []) e in one)

pub place_false : (p : ℕ → Bool) (n : ℕ) → p n ≡ false → places p (n + 1) ≡ places p n
place_false p n e =
    places_next p n ∙ ap (λ l. places p n ++ l) (let none : filter p (n ∷ []) ≡ [] =
    ap (λ b. cond b (n ∷ []) []) e in none)
    ∙ append-nil (places p n)

range_ascends : (n : ℕ) → IsStrictlyIncreasing (range_with_len 0 n)
range_ascends n k below =
    let len = length-range_with_len 0 n in
    let first = get_or-range_with_len 0 n k 0 (omega arith) in
    let second = get_or-range_with_len 0 n (k + 1) 0 (omega arith) in
    omega (arith, first, second)

pub places_ascend : (p : ℕ → Bool) (n : ℕ) → IsStrictlyIncreasing (places p n)
places_ascend p n = IsStrictlyIncreasing-filter p (range_with_len 0 n) (range_ascends n)

-- a place that passes stands in the list
places_have : (p : ℕ → Bool) (n i : ℕ) → i < n → p i ≡ true → Contains (places p n) i
places_have p n i below e =
    let split = ap (filter p) (range_at i n below)
    ∙ filter-append p (range_with_len 0 i) (i ∷ range_with_len (i + 1) (n - suc i)) in
    let one : filter p (i ∷ range_with_len (i + 1) (n - suc i))
    ≡ i ∷ filter p (range_with_len (i + 1) (n - suc i)) =
    ap (λ b. cond b (i ∷ filter p (range_with_len (i + 1) (n - suc i)))
    (filter p (range_with_len (i + 1) (n - suc i)))) e in
    subst (λ l. Contains l i) (sym (split ∙ ap (λ l. places p i ++ l) one))
    (Contains-append_right (places p i) (i ∷ filter p (range_with_len (i + 1) (n - suc i))) i
    (0, omega arith, refl))

pub places_members : (p : ℕ → Bool) (n : ℕ) → ((i : ℕ) → p i ≡ true → i < n) → (i : ℕ) →
    Contains (places p n) i ↔ (p i ≡ true)
places_members p n within i = (
  λ h. All-contains (λ k. p k ≡ true) (places p n) i (filter_passes p (range_with_len 0 n)) h,
  λ e. places_have p n i (within i e) e,
)
