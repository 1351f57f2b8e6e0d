-- Rows of residues: their entries, computed one after another.
use Rattle.std.proofs.Common.{◌≡◌, ℕ, ◌+◌, ◌<◌, ◌≤◌, ℤ, pos, ◌-ℤ◌, ◌*ℤ◌, List, [], ◌∷◌, length, map, get_or, set, below_more, get_or-set_same, get_or-set_other, refl, sym, ap, subst, ◌∙◌, arith, lit<, ◌↔◌, ◌⊎◌, inl, inr, Bool, false, IsTrue, unsigned_abs}
use Rattle.std.specs.Prelude.{All, Option, None, Some, IfSome, is_some}
use Rattle.std.proofs.lemmas.Bool.{cases_eq}
use Rattle.std.proofs.lemmas.Int.{ints}
use Rattle.std.proofs.lemmas.List.{same_lists, get_or_default}
use Rattle.std.proofs.lemmas.List.Elements.{All-map}
use Rattle.gj_lemmas.specs.Divisors.{gcd_of}
use Rattle.gj_shape.specs.Elimination.{at_column, scaled, differences}
use Rattle.gj_shape.specs.Residues.{residue, residues, inverse, reduced_modulo, IsZeroModulo}
use Rattle.gj_theory.specs.Modulus.{modulus}
use Rattle.gj_theory.proofs.Inverses.{inverse_found, inverse_none}
use Rattle.gj_theory.proofs.Modulo.{residue_below}
use Rattle.gj_theory.proofs.ResidueSteps.{at_reduced_modulo}
use Rattle.gj_check_groups.specs.RowNumbers.{IsResidue}

-- ---- residues

pub residue_is : (x : ℤ) → IsResidue (residue modulus x)
residue_is x =
    let (r, is, low) = residue_below modulus x (omega arith) in
    subst IsResidue (sym is) (record { low = omega (arith, ints); below = omega (arith, ints) })

pub all_residues : (row : List ℤ) → All IsResidue (residues modulus row)
all_residues row = All-map IsResidue (residue modulus) row
    (λ i d below. residue_is (get_or row i d))

-- a row after a step
pub reduced_residues : (kept row : List ℤ) (c : ℕ) →
    All IsResidue (reduced_modulo modulus kept row c)
unfolding reduced_modulo
reduced_residues kept row c = all_residues (differences row (scaled (at_column row c) kept))

-- an inverse is one
pub inverse_is_residue : (x : ℤ) (w : ℕ) → inverse modulus x ≡ Some w → IsResidue (pos w)
inverse_is_residue x w is =
    let low = (subst (λ o. IfSome o
    (λ w. (w < modulus) × IsZeroModulo modulus (pos w *ℤ x -ℤ pos 1))) is
    (inverse_found modulus x (lit< tt))).0 in
    record { low = omega (arith, ints); below = omega (arith, ints) }

-- there is one exactly if the greatest common divisor is 1
pub some_inverse : (b : Bool) (o : Option ℕ) (x : ℤ) → o ≡ inverse modulus x → b ≡ is_some o →
    IsTrue b ↔ (gcd_of (unsigned_abs x) modulus ≡ 1)
some_inverse b None x is b_is = (
  λ t. absurd (let no : b ≡ false = b_is in cc),
  λ one. absurd ((inverse_none modulus x (lit< tt)).0 (sym is) one),
)
some_inverse b (Some w) x is b_is =
    (λ t. by_case (cases_eq (gcd_of (unsigned_abs x) modulus) 1), λ one. b_is)
  where
    by_case : (gcd_of (unsigned_abs x) modulus ≡ 1) ⊎ (gcd_of (unsigned_abs x) modulus ≡ 1 → ⊥) →
        gcd_of (unsigned_abs x) modulus ≡ 1
    by_case (inl one) = one
    by_case (inr other) = absurd (let none = is ∙ (inverse_none modulus x (lit< tt)).1 other in cc)

-- a row whose entries are each multiplied
pub multiplied : (u : ℤ) (row : List ℤ) →
    residues modulus (scaled u row) ≡ map (λ x. residue modulus (u *ℤ x)) row
multiplied u [] = refl
multiplied u (x ∷ row) = ap (λ xs. residue modulus (u *ℤ x) ∷ xs) (multiplied u row)

-- ---- the entries so far

-- the entries before the i-th are those of f, and the others as they were
pub record AreDone (f : ℕ → ℤ) (old row : List ℤ) (i : ℕ) : Type 0 where
  pub done : (k : ℕ) → k < i → at_column row k ≡ f k
  pub later : (k : ℕ) → i ≤ k → at_column row k ≡ at_column old k

pub done_more : (f : ℕ → ℤ) (old row : List ℤ) (i : ℕ) (z : ℤ) → AreDone f old row i →
    i < length row → z ≡ f i →
    AreDone f old (set row i z) (i + 1)
done_more f old row i z h inside is = record {
  done = below_more (λ k. at_column (set row i z) k ≡ f k) i
      (λ k below. get_or-set_other row i k z (pos 0) (omega arith) ∙ h.done k below)
      (get_or-set_same row i z (pos 0) inside ∙ is);
  later = λ k from. get_or-set_other row i k z (pos 0) (omega arith) ∙ h.later k (omega arith);
}

pub done_all : (f : ℕ → ℤ) (old row : List ℤ) (i : ℕ) (target : List ℤ) → AreDone f old row i →
    length row ≤ i →
    length target ≡ length row → ((k : ℕ) → at_column target k ≡ f k) → row ≡ target
done_all f old row i target h past len is =
    same_lists row target (sym len)
    (λ k d below.
    get_or_default row k d (pos 0) below ∙ h.done k (omega arith) ∙ sym (is k)
    ∙ get_or_default target k (pos 0) d (omega arith))

-- the entries of a row after a step
unfoldable pub reduced_entry : List ℤ → List ℤ → ℕ → ℕ → ℤ
reduced_entry kept row c k =
    residue modulus (at_column row k -ℤ at_column row c *ℤ at_column kept k)

pub reduced_at : (kept row : List ℤ) (c k : ℕ) → length kept ≡ length row →
    at_column (reduced_modulo modulus kept row c) k ≡ reduced_entry kept row c k
unfolding reduced_entry
reduced_at kept row c k len = at_reduced_modulo modulus kept row c k len
