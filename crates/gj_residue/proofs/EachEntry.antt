-- Rows of residues whose entries are computed one after another.
use Rattle.std.proofs.Common.{◌≡◌, ℕ, zero, suc, ◌+◌, ◌<◌, ◌≤◌, ℤ, pos, ◌-ℤ◌, ◌*ℤ◌, List, [], ◌∷◌, length, get_or, set, below_more, get_or-set_same, get_or-set_other, refl, sym, ap, ap₂, subst, ◌∙◌, arith}
use Rattle.std.proofs.lemmas.List.{same_lists, get_or_default, length-map}
use Rattle.std.proofs.lemmas.List.Elements.{All-from_get_or}
use Rattle.gj_shape.specs.Elimination.{at_column, scaled}
use Rattle.gj_shape.specs.Residues.{residue, residues, reduced_modulo}
use Rattle.gj_theory.specs.Modulus.{modulus}
use Rattle.gj_theory.proofs.Entries.{at_scaled}
use Rattle.gj_theory.proofs.Modulo.{at_residues}
use Rattle.gj_theory.proofs.ResidueSteps.{at_reduced_modulo, length-reduced_modulo}
use Rattle.gj_residue.specs.Rows.{numbers_of, AreResidues}

-- ---- the entries of a row of residues

pub at_numbers : (xs : List ℕ) (k : ℕ) → at_column (numbers_of xs) k ≡ pos (get_or xs k 0)
at_numbers [] k = refl
at_numbers (x ∷ xs) zero = refl
at_numbers (x ∷ xs) (suc k) = at_numbers xs k

pub length-numbers : (xs : List ℕ) → length (numbers_of xs) ≡ length xs
length-numbers xs = length-map xs pos

-- ---- the entries so far

pub record AreDone (f : ℕ → ℤ) (old row : List ℕ) (i : ℕ) : Type 0 where
  pub done : (k : ℕ) → k < i → pos (get_or row k 0) ≡ f k
  pub low : (k : ℕ) → k < i → get_or row k 0 < modulus
  pub later : (k : ℕ) → i ≤ k → get_or row k 0 ≡ get_or old k 0

pub done_more : (f : ℕ → ℤ) (old row : List ℕ) (i z : ℕ) → AreDone f old row i → i < length row →
    pos z ≡ f i → z < modulus →
    AreDone f old (set row i z) (i + 1)
done_more f old row i z h inside is low = record {
  done = below_more (λ k. pos (get_or (set row i z) k 0) ≡ f k) i
      (λ k below. ap pos (get_or-set_other row i k z 0 (omega arith)) ∙ h.done k below)
      (ap pos (get_or-set_same row i z 0 inside) ∙ is);
  low = below_more (λ k. get_or (set row i z) k 0 < modulus) i
      (λ k below. subst (λ (n : ℕ). n < modulus) (sym (get_or-set_other row i k z 0 (omega arith)))
      (h.low k below))
      (subst (λ (n : ℕ). n < modulus) (sym (get_or-set_same row i z 0 inside)) low);
  later = λ k from. get_or-set_other row i k z 0 (omega arith) ∙ h.later k (omega arith);
}

pub done_all : (f : ℕ → ℤ) (old row : List ℕ) (i : ℕ) (target : List ℤ) → AreDone f old row i →
    length row ≤ i →
    length target ≡ length row → ((k : ℕ) → at_column target k ≡ f k) → numbers_of row ≡ target
done_all f old row i target h past len is =
    same_lists (numbers_of row) target (length-numbers row ∙ sym len)
    (λ k d below.
    get_or_default (numbers_of row) k d (pos 0) below ∙ at_numbers row k
    ∙ h.done k (omega (arith, length-numbers row))
    ∙ sym (is k) ∙ get_or_default target k (pos 0) d (omega (arith, length-numbers row)))

pub all_low : (f : ℕ → ℤ) (old row : List ℕ) (i : ℕ) → AreDone f old row i → length row ≤ i →
    AreResidues row
all_low f old row i h past =
    All-from_get_or (λ x. x < modulus) row 0 (λ k below. h.low k (omega arith))

-- ---- what the entries are

unfoldable pub read_entry : List ℤ → ℕ → ℤ
read_entry row k = residue modulus (at_column row k)

pub read_at : (row : List ℤ) (k : ℕ) → at_column (residues modulus row) k ≡ read_entry row k
unfolding read_entry
read_at row k = at_residues modulus row k

unfoldable pub reduced_entry : List ℕ → List ℕ → ℕ → ℕ → ℤ
reduced_entry kept row c k =
    residue modulus (pos (get_or row k 0) -ℤ pos (get_or row c 0) *ℤ pos (get_or kept k 0))

pub reduced_at : (kept row : List ℕ) (c k : ℕ) → length kept ≡ length row →
    at_column (reduced_modulo modulus (numbers_of kept) (numbers_of row) c) k
    ≡ reduced_entry kept row c k
unfolding reduced_entry
reduced_at kept row c k len =
    at_reduced_modulo modulus (numbers_of kept) (numbers_of row) c k
    (length-numbers kept ∙ len ∙ sym (length-numbers row))
    ∙ ap₂ (λ x y. residue modulus (x -ℤ at_column (numbers_of row) c *ℤ y)) (at_numbers row k)
    (at_numbers kept k)
    ∙ ap (λ v. residue modulus (pos (get_or row k 0) -ℤ v *ℤ pos (get_or kept k 0)))
    (at_numbers row c)

pub length-reduced : (kept row : List ℕ) (c : ℕ) → length kept ≡ length row →
    length (reduced_modulo modulus (numbers_of kept) (numbers_of row) c) ≡ length row
length-reduced kept row c len =
    length-reduced_modulo modulus (numbers_of kept) (numbers_of row) c
    (length-numbers kept ∙ len ∙ sym (length-numbers row))
    ∙ length-numbers row

unfoldable pub multiplied_entry : ℕ → List ℕ → ℕ → ℤ
multiplied_entry u row k = residue modulus (pos u *ℤ pos (get_or row k 0))

pub multiplied_at : (u : ℕ) (row : List ℕ) (k : ℕ) →
    at_column (residues modulus (scaled (pos u) (numbers_of row))) k ≡ multiplied_entry u row k
unfolding multiplied_entry
multiplied_at u row k =
    at_residues modulus (scaled (pos u) (numbers_of row)) k
    ∙ ap (residue modulus) (at_scaled (pos u) (numbers_of row) k
    ∙ ap (λ x. pos u *ℤ x) (at_numbers row k))

pub length-multiplied : (u : ℕ) (row : List ℕ) →
    length (residues modulus (scaled (pos u) (numbers_of row))) ≡ length row
length-multiplied u row =
    length-map (scaled (pos u) (numbers_of row)) (residue modulus)
    ∙ length-map (numbers_of row) (λ x. pos u *ℤ x)
    ∙ length-numbers row
