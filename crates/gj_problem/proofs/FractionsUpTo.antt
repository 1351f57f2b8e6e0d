-- Fractions of numerators over a denominator, made one by one from the first on.
use Rattle.std.proofs.Common.{◌≡◌, ℕ, zero, suc, ◌<◌, ◌≤◌, ℤ, pos, ◌*ℤ◌, List, [], ◌∷◌, length, replicate, get_or, refl, sym, ap, subst, ◌∙◌, arith}
use Rattle.std.proofs.lemmas.Int.{ints}
use Rattle.std.specs.Prelude.{slice_set}
use Rattle.std.specs.List.{AllZip}
use Rattle.gj_frac.specs.declared.Frac.{Frac}
use Rattle.gj_frac.specs.Fraction.{IsRatio}
use lib.IntN.{zero-*ℤ}

-- the first i fractions have the numerators over d, and the others are z
abbrev pub AreMadeUpTo : ℤ → Frac → ℕ → List ℤ → List Frac → Type 0
AreMadeUpTo d z i [] xs = xs ≡ []
AreMadeUpTo d z i (n ∷ ns) [] = ⊥
AreMadeUpTo d z zero (n ∷ ns) (x ∷ xs) = (x ≡ z) × AreMadeUpTo d z zero ns xs
AreMadeUpTo d z (suc i) (n ∷ ns) (x ∷ xs) = IsRatio x n d × AreMadeUpTo d z i ns xs

-- 0 over any denominator
pub zero_over : (z : Frac) (d : ℤ) → IsRatio z (pos 0) (pos 1) → IsRatio z (pos 0) d
zero_over z d is =
    let none : z.num ≡ pos 0 = omega (arith, ints, is) in
    ap (λ (n : ℤ). n *ℤ d) none ∙ zero-*ℤ d ∙ sym (zero-*ℤ z.den)

pub none_made : (d : ℤ) (z : Frac) (ns : List ℤ) →
    AreMadeUpTo d z 0 ns (replicate (length ns) z)
none_made d z [] = refl
none_made d z (n ∷ ns) = (refl, none_made d z ns)

pub next_made : (d : ℤ) (z : Frac) (i : ℕ) (ns : List ℤ) (xs : List Frac) (a : ℤ) (x : Frac) →
    AreMadeUpTo d z i ns xs → i < length ns → IsRatio x (get_or ns i a) d →
    AreMadeUpTo d z (suc i) ns (slice_set xs i x)
next_made d z i [] xs a x h below is = absurd (omega arith)
next_made d z i (n ∷ ns) [] a x h below is = absurd h
next_made d z zero (n ∷ ns) (y ∷ xs) a x h below is = (is, h.1)
next_made d z (suc i) (n ∷ ns) (y ∷ xs) a x h below is =
    (h.0, next_made d z i ns xs a x h.1 (omega arith) is)

-- z stays where the numerator is 0
pub next_zero : (d : ℤ) (z : Frac) (i : ℕ) (ns : List ℤ) (xs : List Frac) (a : ℤ) →
    IsRatio z (pos 0) d → AreMadeUpTo d z i ns xs → i < length ns → get_or ns i a ≡ pos 0 →
    AreMadeUpTo d z (suc i) ns xs
next_zero d z i [] xs a zero_is h below none = absurd (omega arith)
next_zero d z i (n ∷ ns) [] a zero_is h below none = absurd h
next_zero d z zero (n ∷ ns) (y ∷ xs) a zero_is h below none = (
  subst (λ (x : Frac). IsRatio x n d) (sym h.0)
      (subst (λ (m : ℤ). IsRatio z m d) (sym none) zero_is),
  h.1,
)
next_zero d z (suc i) (n ∷ ns) (y ∷ xs) a zero_is h below none =
    (h.0, next_zero d z i ns xs a zero_is h.1 (omega arith) none)

pub all_made : (d : ℤ) (z : Frac) (i : ℕ) (ns : List ℤ) (xs : List Frac) → length ns ≤ i →
    AreMadeUpTo d z i ns xs → AllZip (λ (n : ℤ) (x : Frac). IsRatio x n d) ns xs
all_made d z i [] xs end h = subst (AllZip (λ (n : ℤ) (x : Frac). IsRatio x n d) []) (sym h) tt
all_made d z i (n ∷ ns) [] end h = absurd h
all_made d z zero (n ∷ ns) (x ∷ xs) end h = absurd (omega arith)
all_made d z (suc i) (n ∷ ns) (x ∷ xs) end h = (h.0, all_made d z i ns xs (omega arith) h.1)
