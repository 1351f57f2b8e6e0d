-- Items of lists at their places.
use Rattle.std.proofs.Common.{◌≡◌, List, [], ◌∷◌, ◌++◌, length, refl, arith}

-- no item stands in a list without any
pub none_placed : {A : Type 0} (before : List A) (x : A) (after : List A) →
    [] ≡ before ++ x ∷ after → ⊥
none_placed [] x after e = absurd (cc)
none_placed (y ∷ before) x after e = absurd (cc)

-- a list is split after so many items in one way
pub one_place : {A : Type 0} (b c : List A) (x y : A) (xs ys : List A) →
    b ++ x ∷ xs ≡ c ++ y ∷ ys → length b ≡ length c → (b ≡ c) × (x ≡ y)
one_place [] [] x y xs ys e same = (refl, cc)
one_place [] (z ∷ c) x y xs ys e same = absurd (omega arith)
one_place (z ∷ b) [] x y xs ys e same = absurd (omega arith)
one_place (z ∷ b) (w ∷ c) x y xs ys e same =
    let heads : w ≡ z = cc in
    let tails : b ++ x ∷ xs ≡ c ++ y ∷ ys = cc in
    let rest = one_place b c x y xs ys tails (omega arith) in
    let fronts : b ≡ c = rest.0 in
    let whole : z ∷ b ≡ w ∷ c = cc in
    (whole, rest.1)
