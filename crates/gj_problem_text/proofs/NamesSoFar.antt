-- The names so far, as the keys of a set.
use Rattle.std.proofs.Common.{◌≡◌, ℕ, ◌+◌, Bool, true, false, not, cond, ltb, ltb-false, ◌<◌, get_or, arith, Some, None, List, [], ◌∷◌, ◌++◌, map, length, nat_eq, refl, ap, ◌∙◌}
use Rattle.std.specs.List.{list_any, position, position_or_len}
use Rattle.std.specs.Cmp.Lexicographic.{pointwise}
use Rattle.std.proofs.lemmas.List.{map-append, length-map}
use Rattle.std.proofs.lemmas.List.Folds.{list_any_none}
use Rattle.std.proofs.lemmas.List.Sums.{fails_before_first}
use Rattle.indexmap.specs.IndexSet.{insert_key}
use denote.Ref.{Bor}

abbrev pub names_of : List (Bor (List ℕ)) → List (List ℕ)
names_of keys = map (λ name. name.now) keys

first_of_map : {A B : Type 0} (f : A → B) (p : B → Bool) (xs : List A) →
    position_or_len p (map f xs) ≡ position_or_len (λ x. p (f x)) xs
first_of_map f p [] = refl
first_of_map f p (x ∷ xs) = ap (λ n. cond (not (p (f x))) (1 + n) 0) (first_of_map f p xs)

pub place_among : (keys : List (Bor (List ℕ))) (q : List ℕ) →
    position (λ k. pointwise nat_eq q k.now) keys ≡ position (pointwise nat_eq q) (names_of keys)
place_among keys q =
    rw (
      first_of_map (λ (k : Bor (List ℕ)). k.now) (pointwise nat_eq q) keys,
      length-map keys
          (λ (k : Bor (List ℕ)). k.now),
    ) refl

-- what has no place passes nowhere
none_passes : {A : Type 0} (p : A → Bool) (xs : List A) → position p xs ≡ None →
    list_any p xs ≡ false
none_passes p xs e =
    list_any_none p xs (λ i d below. by (ltb (position_or_len p xs) (length xs)) refl i d below)
  where
    by : (b : Bool) → ltb (position_or_len p xs) (length xs) ≡ b → (i : ℕ) (d : _) → i < length xs →
        p (get_or xs i d) ≡ false
    by true is i d below = absurd (let s = ap (λ b. cond b (Some (position_or_len p xs)) None) is in
        cc)
    by false is i d below =
        fails_before_first p xs i d (omega (arith, ltb-false (position_or_len p xs) (length xs) is))

pub one_more : (keys : List (Bor (List ℕ))) (name : Bor (List ℕ)) (next : List (Bor (List ℕ)))
    (old : List (List ℕ)) →
    names_of keys ≡ old → position (pointwise nat_eq name.now) old ≡ None →
    next ≡ insert_key (λ x y. pointwise nat_eq x.now y.now) keys name →
    names_of next ≡ old ++ name.now ∷ []
one_more keys name next old view none is =
    let new = none_passes (λ k. pointwise nat_eq name.now k.now) keys
    (place_among keys name.now ∙ rw view none) in
    rw (is, new) (map-append (λ k. k.now) keys (name ∷ []) ∙ ap (λ ns. ns ++ name.now ∷ []) view)
