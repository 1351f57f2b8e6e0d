-- Rows of 64 bits that are divided, within the columns outside of which they are 0.
use Rattle.std.proofs.Common.{◌≡◌, ℕ, zero, suc, ◌+◌, ◌<◌, ◌≤◌, ◌^◌, ◌⊎◌, inl, inr, ℤ, pos, int_div, FitsSigned, to_z, of_z, List, [], ◌∷◌, length, map, drop, set, unsigned_abs, below_more, refl, sym, ap, ap₂, subst, subst₂, ◌∙◌, arith}
use Rattle.std.specs.Int.{IsGcd}
use Rattle.std.proofs.lemmas.Bool.{cases_lt}
use Rattle.std.proofs.lemmas.Int.{ints, quot_fits, to_z-of_z, to_z_pos}
use Rattle.std.proofs.lemmas.List.{same_lists, get_or_default, get_or-drop, get_or-set_same, get_or-set_other}
use Rattle.std.proofs.lemmas.Nat.Gcd.{IsGcd-swap, le_of_dvd}
use mir.Syntax.{w64}
use mir.Val.{Fits}
use Rattle.gj_lemmas.specs.Divisors.{gcd_of}
use Rattle.gj_lemmas.proofs.Divisors.{gcd_is_gcd_of}
use Rattle.gj_shape.specs.Elimination.{at_column, gcd_of_row, divided}
use Rattle.gj_theory.proofs.RowGcds.{gcd_zero_of, gcd_of_zero, gcd_one_of, gcd_next}
use Rattle.gj_theory.proofs.RowSums.{divided_some}
use Rattle.gj_theory.proofs.DividedRows.{smaller}
use Rattle.gj_theory.proofs.Entries.{at_divided, divided_at_zero}
use Rattle.gj_theory.proofs.Steps.{length-divided}
use Rattle.gj_elim.specs.Lazy.{IsExtent, IsZeroOutside}

-- ---- the divisor of two numbers

pub gcd_low : (a b g n : ℕ) → IsGcd a b g → a < n → b < n → g < n
gcd_low zero zero g n h a_below b_below =
    let none : g ≡ 0 = gcd_is_gcd_of 0 0 g h ∙ gcd_zero_of 0 in omega arith
gcd_low (suc a) b g n h a_below b_below = let most : g ≤ suc a = le_of_dvd (omega arith) h.0 in
    omega arith
gcd_low zero (suc b) g n h a_below b_below = let most : g ≤ suc b = le_of_dvd (omega arith) h.1 in
    omega arith

pub gcd_swapped : (x d a b g : ℕ) → x ≡ a → d ≡ b → IsGcd x d g → IsGcd b a g
gcd_swapped x d a b g x_is d_is h = IsGcd-swap a b g (subst₂ (λ (n m : ℕ). IsGcd n m g) x_is d_is h)

pub fits_below : (g : ℕ) → g < 2 ^ 63 → Fits w64 g
fits_below g h = omega arith

-- ---- the divisor of a row

pub record IsDivisorTo (row : List ℤ) (i d : ℕ) : Type 0 where
  pub is : gcd_of_row row ≡ gcd_of d (gcd_of_row (drop i row))
  pub low : d < 2 ^ 63

zeros_before : (row : List ℤ) (n : ℕ) → ((k : ℕ) → k < n → at_column row k ≡ pos 0) →
    gcd_of_row row ≡ gcd_of_row (drop n row)
zeros_before row zero h = refl
zeros_before [] (suc n) h = refl
zeros_before (x ∷ row) (suc n) h =
    ap (λ y. gcd_of (unsigned_abs y) (gcd_of_row row)) (h 0 (omega arith))
    ∙ gcd_zero_of (gcd_of_row row)
    ∙ zeros_before row n (λ k below. h (suc k) (omega arith))

all_zeros : (row : List ℤ) → ((k : ℕ) → at_column row k ≡ pos 0) → gcd_of_row row ≡ 0
all_zeros [] h = refl
all_zeros (x ∷ row) h =
    ap (λ y. gcd_of (unsigned_abs y) (gcd_of_row row)) (h 0) ∙ gcd_zero_of (gcd_of_row row)
    ∙ all_zeros row (λ k. h (suc k))

pub divisor_start : (row : List ℤ) (from to : ℕ) → IsZeroOutside from to row →
    IsDivisorTo row from 0
divisor_start row from to h = record {
  is = zeros_before row from h.before ∙ sym (gcd_zero_of (gcd_of_row (drop from row)));
  low = omega arith;
}

pub divisor_more : (row : List ℤ) (i d g : ℕ) → IsDivisorTo row i d → i < length row →
    IsGcd d (unsigned_abs (at_column row i)) g → g < 2 ^ 63 →
    IsDivisorTo row (i + 1) g
divisor_more row i d g h inside is low = record {
  is = gcd_next row i d (unsigned_abs (at_column row i)) g inside refl h.is is;
  low = low;
}

pub divisor_one : (row : List ℤ) (i d : ℕ) → IsDivisorTo row i d → d ≡ 1 → 1 ≡ gcd_of_row row
divisor_one row i d h e =
    sym (h.is ∙ ap (λ n. gcd_of n (gcd_of_row (drop i row))) e
    ∙ gcd_one_of (gcd_of_row (drop i row)))

pub divisor_end : (row : List ℤ) (from to i d : ℕ) → IsDivisorTo row i d →
    IsZeroOutside from to row → to ≤ i → d ≡ gcd_of_row row
divisor_end row from to i d h outside past =
    let none : gcd_of_row (drop i row) ≡ 0 =
    all_zeros (drop i row) (λ k. get_or-drop i row k (pos 0)
    ∙ outside.behind (i + k) (omega arith)) in
    sym (h.is ∙ ap (gcd_of d) none ∙ gcd_of_zero d)

-- ---- a row that is divided

pub record IsDividedTo (old row : List ℤ) (i : ℕ) : Type 0 where
  pub done : (k : ℕ) → k < i → at_column row k ≡ at_column (divided old) k
  pub later : (k : ℕ) → i ≤ k → at_column row k ≡ at_column old k

pub division_start : (row : List ℤ) (from to : ℕ) → IsZeroOutside from to row →
    IsDividedTo row row from
division_start row from to h = record {
  done = λ k below. h.before k below ∙ sym (divided_at_zero row k (h.before k below));
  later = λ k from'. refl;
}

pub division_more : (old row : List ℤ) (i d : ℕ) (z : ℤ) → IsDividedTo old row i → i < length row →
    length row ≡ length old →
    d ≡ gcd_of_row old → 0 < d → z ≡ int_div (at_column row i) (pos d) →
    IsDividedTo old (set row i z) (i + 1)
division_more old row i d z h inside len is some z_is = record {
  done = below_more (λ k. at_column (set row i z) k ≡ at_column (divided old) k) i
      (λ k below. get_or-set_other row i k z (pos 0) (omega arith) ∙ h.done k below)
      (get_or-set_same row i z (pos 0) inside ∙ z_is
      ∙ ap₂ (λ x g. int_div x (pos g)) (h.later i (omega arith)) is ∙ sym entry);
  later = λ k from. get_or-set_other row i k z (pos 0) (omega arith) ∙ h.later k (omega arith);
}
  where
    entry : at_column (divided old) i ≡ int_div (at_column old i) (pos (gcd_of_row old))
    entry =
        ap (λ xs. at_column xs i) (divided_some old (λ none. omega arith))
        ∙ at_map (λ x. int_div x (pos (gcd_of_row old))) old i (omega arith)
      where
        at_map : (f : ℤ → ℤ) (xs : List ℤ) (k : ℕ) → k < length xs →
            at_column (map f xs) k ≡ f (at_column xs k)
        at_map f [] k below = absurd (omega arith)
        at_map f (x ∷ xs) zero below = refl
        at_map f (x ∷ xs) (suc k) below = at_map f xs k (omega arith)

pub division_end : (old row : List ℤ) (from to i : ℕ) → IsDividedTo old row i →
    IsZeroOutside from to old → to ≤ i → length row ≡ length old →
    row ≡ divided old
division_end old row from to i h outside past len =
    same_lists row (divided old) (len ∙ sym (length-divided old))
    (λ k d below.
    get_or_default row k d (pos 0) below ∙ entry k (cases_lt k i)
    ∙ get_or_default (divided old) k (pos 0) d (omega (arith, length-divided old)))
  where
    entry : (k : ℕ) → (k < i) ⊎ (i ≤ k) → at_column row k ≡ at_column (divided old) k
    entry k (inl before) = h.done k before
    entry k (inr there) =
        let none = outside.behind k (omega arith) in h.later k there ∙ none
        ∙ sym (divided_at_zero old k none)

-- what the code's quotient is
pub read_quotient_small : (x : ℤ) (d : ℕ) → FitsSigned w64 x → 0 < d → d < 2 ^ 63 →
    to_z w64 (of_z w64 (int_div (to_z w64 (of_z w64 x)) (to_z w64 d))) ≡ int_div x (pos d)
read_quotient_small x d fits some small =
    ap (λ z. to_z w64 (of_z w64 z)) (ap₂ int_div (to_z-of_z w64 x fits) (to_z_pos w64 d small))
    ∙ to_z-of_z w64 (int_div x (pos d)) (quot_fits w64 x (pos d) fits (omega (arith, ints)))

-- the entries of a divided row are as small
pub divided_below : (row : List ℤ) (k n : ℕ) → unsigned_abs (at_column row k) < n →
    unsigned_abs (at_column (divided row) k) < n
divided_below row k n h =
    let (g, some, is) = at_divided row k in
    let small = smaller g (at_column (divided row) k) (at_column row k) some is in
    omega arith

pub divided_zero_outside : (row next : List ℤ) (from to : ℕ) → next ≡ divided row →
    IsZeroOutside from to row → IsZeroOutside from to next
divided_zero_outside row next from to is h =
    subst (IsZeroOutside from to) (sym is) record {
      before = λ k below. divided_at_zero row k (h.before k below);
      behind = λ k past. divided_at_zero row k (h.behind k past);
    }

-- ---- the bound of a row

pub record IsBoundTo (row : List ℤ) (i bound : ℕ) : Type 0 where
  pub is : (k : ℕ) → k < i → unsigned_abs (at_column row k) ≤ bound
  pub low : bound < 2 ^ 63

pub divided_extent : (row next : List ℤ) (from to bound : ℕ) → next ≡ divided row →
    IsZeroOutside from to row → to ≤ length row →
    ((k : ℕ) → unsigned_abs (at_column next k) ≤ bound) → IsExtent bound to next
divided_extent row next from to bound is h within small = record {
  small = λ low k. small k;
  zero_from = (divided_zero_outside row next from to is h).behind;
  within = omega (arith, ap length is ∙ length-divided row);
}
