-- The first element that passes a test, from a place of a list on.
use Rattle.std.proofs.Common.{◌≡◌, ℕ, ◌+◌, ◌-◌, ◌<◌, ◌≤◌, Bool, true, false, List, length, get_or, take, drop, Option, None, Some, cond, nat_lt, sym, ◌∙◌, ap, arith, length-drop, get_or-drop}
use Rattle.std.specs.List.{position, position_or_len}
use Rattle.std.proofs.lemmas.List.{take_rest}
use Rattle.std.proofs.lemmas.List.Sums.{prefix_len-le-length, fails_before_first, passes_at_first}

-- the place is where the test first passes, or else the end
pub first_from : (p : ℕ → Bool) (xs : List ℕ) (start : ℕ) (r : Option ℕ) → start ≤ length xs →
    r ≡ position p (take (length xs - start) (drop start xs)) →
    ((n : ℕ) → r ≡ Some n → (start + n ≡ start + position_or_len p (drop start xs))
    × (start + n < length xs)) ×
    (r ≡ None → length xs ≡ start + position_or_len p (drop start xs))
first_from p xs start r h e =
    let places = cases (position_or_len p (drop start xs)) (length (drop start xs))
    (prefix_len-le-length _ (drop start xs)) r
    (e ∙ ap (position p) (take_rest xs start)) in (
      λ n is. let at = places.0 n is in
          (ap (λ k. start + k) at.0, omega (arith, at.1, length-drop start xs)),
      λ none. omega (arith, places.1 none, length-drop start xs),
    )
  where
    cases : (k n : ℕ) → k ≤ n → (r : Option ℕ) → r ≡ cond (nat_lt k n) (Some k) None →
        ((m : ℕ) → r ≡ Some m → (m ≡ k) × (m < n)) × (r ≡ None → n ≡ k)
    cases k n h r e = grind arith

-- the test fails before its first place
pub fails_until : (p : ℕ → Bool) (xs : List ℕ) (start k : ℕ) → start ≤ k →
    k < start + position_or_len p (drop start xs) → p (get_or xs k 0) ≡ false
fails_until p xs start k low high =
    let fails = fails_before_first p (drop start xs) (k - start) 0 (omega arith) in
    let same : get_or xs k 0 ≡ get_or (drop start xs) (k - start) 0 = sym
    (get_or-drop start xs (k - start) 0 ∙ ap (λ i. get_or xs i 0) (omega arith)) in
    ap p same ∙ fails

-- and passes there, unless that is the end
pub passes_there : (p : ℕ → Bool) (xs : List ℕ) (start : ℕ) →
    start + position_or_len p (drop start xs) < length xs →
    p (get_or xs (start + position_or_len p (drop start xs)) 0) ≡ true
passes_there p xs start h =
    let passes = passes_at_first p (drop start xs) 0 (omega (arith, length-drop start xs)) in
    ap p (sym (get_or-drop start xs (position_or_len p (drop start xs)) 0)) ∙ passes

-- the place is within the list
pub place_within : (p : ℕ → Bool) (xs : List ℕ) (start : ℕ) → start ≤ length xs →
    start + position_or_len p (drop start xs) ≤ length xs
place_within p xs start h =
    let len : position_or_len p (drop start xs) ≤ length (drop start xs) =
    prefix_len-le-length _ (drop start xs) in
    omega (arith, length-drop start xs)
