-- Laws of the greatest common divisor.
use Rattle.std.proofs.Common.{◌≡◌, ℕ, zero, suc, ◌<◌, ◌≤◌, ◌^◌, ℤ, pos, List, [], ◌∷◌, unsigned_abs, refl, sym, ap, subst, ◌∙◌, ◌+◌, length, get_or, drop, drop-cons, add-one, lit<, arith}
use Rattle.std.specs.Prelude.{All}
use Rattle.std.specs.Int.{IsGcd}
use Rattle.std.proofs.lemmas.Nat.Gcd.{IsGcd-swap, IsGcd-from_zero, dvd_trans, dvd_refl, le_of_dvd}
use Rattle.std.proofs.lemmas.List.Elements.{All-head, All-tail}
use Rattle.std.proofs.Math.Nat.{one-dvd}
use Rattle.std.proofs.Math.ListN.{drop_of_length-le}
use Rattle.gj_lemmas.specs.Divisors.{gcd_of}
use Rattle.gj_lemmas.proofs.Divisors.{gcd_of_is, gcd_is_gcd_of}
use Rattle.gj_shape.specs.Elimination.{gcd_of_row}
use Rattle.gj_frac.specs.Fraction.{Fits}

pub gcd_of_zero : (a : ℕ) → gcd_of a 0 ≡ a
gcd_of_zero a = sym (gcd_is_gcd_of a 0 a (IsGcd-from_zero a 0 refl))

pub gcd_zero_of : (a : ℕ) → gcd_of 0 a ≡ a
gcd_zero_of a = sym (gcd_is_gcd_of 0 a a (IsGcd-swap a 0 a (IsGcd-from_zero a 0 refl)))

pub gcd_one_of : (a : ℕ) → gcd_of 1 a ≡ 1
gcd_one_of a = sym (gcd_is_gcd_of 1 a 1 (dvd_refl 1, one-dvd a, λ d p q. p))

pub gcd_assoc : (a b c : ℕ) → gcd_of a (gcd_of b c) ≡ gcd_of (gcd_of a b) c
gcd_assoc a b c =
    let ab = gcd_of_is a b in
    let bc = gcd_of_is b c in
    let all = gcd_of_is a (gcd_of b c) in
    gcd_is_gcd_of (gcd_of a b) c (gcd_of a (gcd_of b c)) (
      ab.2 _ all.0 (dvd_trans _ all.1 bc.0),
      dvd_trans _ all.1 bc.1,
      λ d p q. all.2 d (dvd_trans d p ab.0) (bc.2 d (dvd_trans d p ab.1) q),
    )

-- one more entry
pub gcd_more : (d x g rest whole : ℕ) → whole ≡ gcd_of d (gcd_of x rest) → IsGcd d x g →
    whole ≡ gcd_of g rest
gcd_more d x g rest whole h is =
    h ∙ gcd_assoc d x rest ∙ ap (λ n. gcd_of n rest) (sym (gcd_is_gcd_of d x g is))

-- in a row
pub gcd_next : (row : List ℤ) (i d x g : ℕ) → i < length row →
    x ≡ unsigned_abs (get_or row i (pos 0)) →
    gcd_of_row row ≡ gcd_of d (gcd_of_row (drop i row)) → IsGcd d x g →
    gcd_of_row row ≡ gcd_of g (gcd_of_row (drop (i + 1) row))
gcd_next row i d x g inside x_is h is =
    gcd_more d x g (gcd_of_row (drop (i + 1) row)) (gcd_of_row row)
    (h ∙ ap (λ xs. gcd_of d (gcd_of_row xs)) (drop-cons row i (pos 0) inside)
    ∙ ap (λ n. gcd_of d (gcd_of n (gcd_of_row (drop (suc i) row)))) (sym x_is)
    ∙ ap (λ n. gcd_of d (gcd_of x (gcd_of_row (drop n row)))) (sym (add-one i)))
    is

-- at the end
pub gcd_last : (row : List ℤ) (i d : ℕ) → length row ≤ i →
    gcd_of_row row ≡ gcd_of d (gcd_of_row (drop i row)) →
    d ≡ gcd_of_row row
gcd_last row i d past h =
    sym (h ∙ ap (λ xs. gcd_of d (gcd_of_row xs)) (drop_of_length-le row past) ∙ gcd_of_zero d)

-- the divisor of a row is as small as its entries
gcd_below : (a b n : ℕ) → a < n → b < n → gcd_of a b < n
gcd_below zero b n a_below b_below = subst (λ (g : ℕ). g < n) (sym (gcd_zero_of b)) b_below
gcd_below (suc a) b n a_below b_below =
    let at_most : gcd_of (suc a) b ≤ suc a = le_of_dvd (omega arith) (gcd_of_is (suc a) b).0 in
    omega arith

pub gcd_of_row_small : (xs : List ℤ) → All Fits xs → gcd_of_row xs < 2 ^ 127
gcd_of_row_small [] h = lit< tt
gcd_of_row_small (x ∷ xs) h =
    gcd_below (unsigned_abs x) (gcd_of_row xs) (2 ^ 127) (All-head Fits x xs h)
    (gcd_of_row_small xs (All-tail Fits x xs h))
