-- Elements that pass a test are at most n if each has a number below n and no two have one.
use Rattle.std.proofs.Common.{◌≡◌, ◌≢◌, ℕ, ◌<◌, ◌≤◌, Bool, true, false, ◌||◌, cond, eqb, List, [], ◌∷◌, ◌++◌, map, filter, count_by, refl, sym, ap, subst, arith}
use Rattle.std.specs.List.{list_any, AllByRecursion, IsDistinct}
use Rattle.std.proofs.lemmas.Bool.{ne_eqb}
use Rattle.std.proofs.lemmas.Bool.Decides.{Decides-eqb}
use Rattle.std.proofs.lemmas.List.{length-map}
use Rattle.std.proofs.lemmas.List.Sums.{length-filter}
use Rattle.std.proofs.lemmas.Map.Steps.{length-le_from_distinct_below}

-- no two elements of the list that pass have one number
pub record AreApart {X : Type 0} (test : X → Bool) (number : X → ℕ) (xs : List X) : Type 0 where
  pub apart : (before : List X) (x : X) (middle : List X) (y : X) (after : List X) →
      xs ≡ before ++ x ∷ (middle ++ y ∷ after) → test x ≡ true → test y ≡ true → number x ≢ number y

-- the numbers of those that pass
abbrev numbers_of : {X : Type 0} → (X → Bool) → (X → ℕ) → List X → List ℕ
numbers_of test number xs = map number (filter test xs)

-- none of them is c
abbrev Lack : ℕ → List ℕ → Type 0
Lack c ms = AllByRecursion (λ m. eqb c m ≡ false) ms

lack_next : {X : Type 0} (number : X → ℕ) (c : ℕ) (y : X) (ys : List X) (b : Bool) →
    (b ≡ true → c ≢ number y) →
    Lack c (map number ys) → Lack c (map number (cond b (y ∷ ys) ys))
lack_next number c y ys true apart rest = (ne_eqb c (number y) (apart refl), rest)
lack_next number c y ys false apart rest = rest

lacking : {X : Type 0} (test : X → Bool) (number : X → ℕ) (c : ℕ) (ys : List X) →
    ((middle : List X) (y : X) (after : List X) → ys ≡ middle ++ y ∷ after → test y ≡ true →
    c ≢ number y) →
    Lack c (numbers_of test number ys)
lacking test number c [] apart = tt
lacking test number c (y ∷ ys) apart =
    lack_next number c y (filter test ys) (test y) (apart [] y ys refl)
    (lacking test number c ys
    (λ middle z after place. apart (y ∷ middle) z after (ap (λ zs. y ∷ zs) place)))

distinct_next : {X : Type 0} (number : X → ℕ) (x : X) (xs : List X) (b : Bool) →
    (b ≡ true → Lack (number x) (map number xs)) →
    IsDistinct eqb (map number xs) → IsDistinct eqb (map number (cond b (x ∷ xs) xs))
unfolding IsDistinct
distinct_next number x xs true lack rest = (lack refl, rest)
distinct_next number x xs false lack rest = rest

distinct : {X : Type 0} (test : X → Bool) (number : X → ℕ) (xs : List X) → AreApart test number xs →
    IsDistinct eqb (numbers_of test number xs)
unfolding IsDistinct
distinct test number [] h = tt
distinct test number (x ∷ xs) h =
    distinct_next number x (filter test xs) (test x)
    (λ passes. lacking test number (number x) xs
    (λ middle y after place later. h.apart [] x middle y after
    (ap (λ zs. x ∷ zs) place) passes later))
    (distinct test number xs
    (record {
      apart = λ before y middle z after place. h.apart (x ∷ before) y middle z after
          (ap (λ zs. x ∷ zs) place);
    }))

below_from_any : {X : Type 0} (number : X → ℕ) (n : ℕ) → ((x : X) → number x < n) →
    (xs : List X) (c : ℕ) →
    list_any (eqb c) (map number xs) ≡ true → c < n
below_from_any number n small [] c e = absurd cc
below_from_any number n small (x ∷ xs) c e =
    by_test (eqb c (number x)) refl e (below_from_any number n small xs c)
  where
    by_test : (b : Bool) → eqb c (number x) ≡ b → (b || list_any (eqb c) (map number xs)) ≡ true →
        (list_any (eqb c) (map number xs) ≡ true → c < n) → c < n
    by_test true t e later = subst (λ (i : ℕ). i < n) (sym ((Decides-eqb c (number x)).0 t))
        (small x)
    by_test false t e later = later e

pub few_passing : {X : Type 0} (test : X → Bool) (number : X → ℕ) (n : ℕ) (xs : List X) →
    ((x : X) → number x < n) →
    AreApart test number xs → count_by test xs ≤ n
few_passing test number n xs small h =
    let count = length-le_from_distinct_below (numbers_of test number xs) n
    (distinct test number xs h)
    (λ c has. below_from_any number n small (filter test xs) c has) in
    let mapped = length-map (filter test xs) number in
    let filtered = length-filter test xs in
    omega arith
