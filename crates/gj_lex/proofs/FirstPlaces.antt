-- A list, cut at the first element that passes a test.
use Rattle.std.proofs.Common.{◌≡◌, ℕ, ◌+◌, ◌<◌, ◌≤◌, Bool, true, false, Option, List, [], ◌∷◌, ◌++◌, length, get_or, take, drop, None, Some, cond, nat_lt, refl, subst, sym, ◌∙◌, ap, arith, length-take, get_or-take, take-append-drop}
use Rattle.std.specs.List.{All, position, position_or_len}
use Rattle.std.proofs.lemmas.Bool.{false≢true, lt-ltb, le-ltb}
use Rattle.std.proofs.lemmas.List.{drop_more}
use Rattle.std.proofs.lemmas.List.Elements.{All-get_or, All-from_get_or}
use Rattle.std.proofs.lemmas.List.Quantifiers.{position-Some}
use Rattle.std.proofs.lemmas.List.Sums.{prefix_len-le-length, fails_before_first}
use Rattle.memchr.specs.Find.{IsFirst, IsFirstByte, TakesFirst, first_of, places}
use Rattle.memchr.proofs.lemmas.ValueLemmas.{IsFirstByte-value}

-- the place where the test first passes
pub position_is : (p : ℕ → Bool) (xs : List ℕ) (k : ℕ) → position_or_len p xs ≡ k → k < length xs →
    position p xs ≡ Some k
position_is p xs k e h =
    subst (λ j. cond (nat_lt j (length xs)) (Some j) None ≡ Some k) (sym e)
    (rw (lt-ltb k (length xs) h) refl)

-- it passes nowhere
pub position_none : (p : ℕ → Bool) (xs : List ℕ) → length xs ≤ position_or_len p xs →
    position p xs ≡ None
position_none p xs h = rw (le-ltb (position_or_len p xs) (length xs) h) refl

-- the first element that passes, and what stands before and behind it
pub first_place : (p : ℕ → Bool) (xs : List ℕ) (k : ℕ) → position p xs ≡ Some k →
    (k < length xs) × (xs ≡ take k xs ++ get_or xs k 0 ∷ drop (k + 1) xs)
    × (p (get_or xs k 0) ≡ true)
    × All (λ x. p x ≡ false) (take k xs)
first_place p xs k h =
    let at = position-Some p xs k 0 h in (
      at.0,
      sym (take-append-drop k xs) ∙ ap (λ ys. take k xs ++ ys) (drop_more xs k 0 at.0),
      at.1,
      All-from_get_or (λ x. p x ≡ false) (take k xs) 0
          (λ i l.
          let short : i < k = omega (arith, length-take k xs) in
          ap p (get_or-take k xs i 0 short) ∙ at.2 i short),
    )

-- none passes
pub no_place : (p : ℕ → Bool) (xs : List ℕ) → position p xs ≡ None → All (λ x. p x ≡ false) xs
no_place p xs h =
    let end : length xs ≡ position_or_len p xs =
    at_end (position_or_len p xs) (length xs) (prefix_len-le-length _ xs) h in
    All-from_get_or (λ x. p x ≡ false) xs 0 (λ i l. fails_before_first p xs i 0 (omega arith))
  where
    at_end : (k n : ℕ) → k ≤ n → cond (nat_lt k n) (Some k) None ≡ None → n ≡ k
    at_end k n h e = grind arith

first_of_none : first_of [] ≡ None
unfolding first_of
first_of_none = refl

first_of_some : (k : ℕ) (ks : List ℕ) → first_of (k ∷ ks) ≡ Some k
unfolding first_of
first_of_some k ks = refl

-- it is the first of all places
position_is_first : (p : ℕ → Bool) (xs : List ℕ) → position p xs ≡ first_of (places p xs)
position_is_first p xs = IsFirstByte-value p xs (position p xs) (searched (position p xs) refl)
  where
    searched : (q : Option ℕ) → position p xs ≡ q → IsFirstByte p xs q
    searched None e = λ k low high yes. false≢true
        (sym (All-get_or (λ x. p x ≡ false) xs k 0 high (no_place p xs e)) ∙ yes)
    searched (Some k) e =
        let at = position-Some p xs k 0 e in (
          record {
            low = omega arith;
            high = at.0;
            before =
                λ j low high yes. false≢true (sym (at.2 j high) ∙ yes);
          },
          at.1,
        )

-- as a search tells it
pub position_of_first : (p : ℕ → Bool) (xs : List ℕ) (r : Option ℕ) → IsFirstByte p xs r →
    r ≡ position p xs
position_of_first p xs r h = IsFirstByte-value p xs r h ∙ sym (position_is_first p xs)

-- as an iterator over the places tells it
pub position_of_next : (p : ℕ → Bool) (xs places_left : List ℕ) (r : Option ℕ) →
    TakesFirst (places p xs) r places_left → r ≡ position p xs
position_of_next p xs rest r h = first_is r h ∙ sym (position_is_first p xs)
  where
    first_is : (r : Option ℕ) → TakesFirst (places p xs) r rest → r ≡ first_of (places p xs)
    first_is None h = sym (ap first_of h.0 ∙ first_of_none)
    first_is (Some k) h = sym (ap first_of h ∙ first_of_some k rest)

-- what is found stays so if the search goes on further
pub first_wider : (P : ℕ → Type 0) (a b c k : ℕ) → b ≤ c → IsFirst P a b (Some k) →
    IsFirst P a c (Some k)
first_wider P a b c k h found = (
  record {
    low = found.0.low;
    high = let high = found.0.high in omega arith;
    before = found.0.before;
  },
  found.1,
)
