-- A step over residues, and the entries that are kept: what solves them.
use Rattle.std.proofs.Common.{◌≡◌, ℕ, ◌<◌, Option, None, Some, ℤ, pos, ◌+ℤ◌, ◌-ℤ◌, ◌*ℤ◌, List, [], ◌∷◌, length, refl, sym, ap, ap₂, subst, ◌∙◌, arith}
use Rattle.std.specs.Prelude.{All}
use Rattle.std.specs.List.{range_with_len}
use Rattle.std.specs.Ordering.{int_eq}
use Rattle.std.proofs.lemmas.Bool.Decides.{Decides-int_eq}
use Rattle.std.proofs.lemmas.Int.{ints}
use Rattle.std.proofs.lemmas.List.{length-map}
use Rattle.gj_lemmas.proofs.Ring.{by_ring, ring}
use Rattle.gj_shape.specs.Elimination.{at_column, scaled, differences}
use Rattle.gj_shape.specs.Residues.{residue, residues, inverse, reduced_modulo, times_inverse, modulo, IsZeroModulo, SolvesModulo}
use Rattle.gj_shape.specs.SlopeRows.{sum_of_products}
use Rattle.gj_theory.proofs.Entries.{at_scaled, at_differences}
use Rattle.gj_theory.proofs.Triangular.{find_has}
use Rattle.gj_theory.proofs.Modulo.{zero_is, zero_none, zero_difference, zero_times, zero_first, residue_of_zero, residue_same, at_residues}
use Rattle.gj_theory.proofs.RowSums.{sum_scaled, sum_differences}
use Rattle.gj_theory.proofs.SoundArithmetic.{KeepsRow, SoundArithmetic}
use Rattle.gj_theory.proofs.Steps.{length-differences}

-- ---- sums over rests

pub sum_residues : (m : ℕ) (row w : List ℤ) → 0 < m →
    IsZeroModulo m (sum_of_products (residues m row) w -ℤ sum_of_products row w)
sum_residues m [] w some = zero_is m (pos 0 -ℤ pos 0) (pos 0) (omega (arith, ints)) (zero_none m)
sum_residues m (x ∷ row) [] some = zero_is m (pos 0 -ℤ pos 0) (pos 0) (omega (arith, ints))
    (zero_none m)
sum_residues m (x ∷ row) (v ∷ w) some =
    regroup (residue m x) x v (sum_of_products (residues m row) w) (sum_of_products row w)
    (residue_same m x some)
    (sum_residues m row w some)
  where
    regroup : (y x v s t : ℤ) → IsZeroModulo m (x -ℤ y) → IsZeroModulo m (s -ℤ t) →
        IsZeroModulo m ((y *ℤ v +ℤ s) -ℤ (x *ℤ v +ℤ t))
    regroup y x v s t first rest =
        zero_is m ((y *ℤ v +ℤ s) -ℤ (x *ℤ v +ℤ t)) ((s -ℤ t) -ℤ v *ℤ (x -ℤ y))
        (by_ring (y ∷ x ∷ v ∷ s ∷ t ∷ []) (search ring depth 20) refl)
        (zero_difference m (s -ℤ t) (v *ℤ (x -ℤ y)) rest (zero_times m v (x -ℤ y) first))

pub solves_residues : (m : ℕ) (row w : List ℤ) → 0 < m → SolvesModulo m w row →
    SolvesModulo m w (residues m row)
solves_residues m row w some h =
    zero_first m (sum_of_products (residues m row) w) (sum_of_products row w)
    (sum_residues m row w some) h

solves_scaled : (m : ℕ) (u : ℤ) (row w : List ℤ) → SolvesModulo m w row →
    SolvesModulo m w (scaled u row)
solves_scaled m u row w h =
    zero_is m (sum_of_products (scaled u row) w) (u *ℤ sum_of_products row w) (sum_scaled u row w)
    (zero_times m u (sum_of_products row w) h)

-- ---- the step

length-scaled : (u : ℤ) (row : List ℤ) → length (scaled u row) ≡ length row
length-scaled u row = length-map row (λ x. u *ℤ x)

pub solves_reduced_modulo : (m : ℕ) (kept row w : List ℤ) (c : ℕ) → 0 < m →
    length kept ≡ length row →
    SolvesModulo m w kept → SolvesModulo m w row → SolvesModulo m w (reduced_modulo m kept row c)
unfolding reduced_modulo
solves_reduced_modulo m kept row w c some e k r =
    let v = at_column row c in
    solves_residues m (differences row (scaled v kept)) w some
    (zero_is m (sum_of_products (differences row (scaled v kept)) w)
    (sum_of_products row w -ℤ sum_of_products (scaled v kept) w)
    (sum_differences row (scaled v kept) w (sym (length-scaled v kept ∙ e)))
    (zero_difference m (sum_of_products row w) (sum_of_products (scaled v kept) w) r
    (solves_scaled m v kept w k)))

pub length-reduced_modulo : (m : ℕ) (kept row : List ℤ) (c : ℕ) → length kept ≡ length row →
    length (reduced_modulo m kept row c) ≡ length row
unfolding reduced_modulo
length-reduced_modulo m kept row c e =
    let v = at_column row c in
    length-map (differences row (scaled v kept)) (residue m)
    ∙ length-differences row (scaled v kept) (sym (length-scaled v kept ∙ e))

-- its entries
pub at_reduced_modulo : (m : ℕ) (kept row : List ℤ) (c i : ℕ) → length kept ≡ length row →
    at_column (reduced_modulo m kept row c) i
    ≡ residue m (at_column row i -ℤ at_column row c *ℤ at_column kept i)
unfolding reduced_modulo
at_reduced_modulo m kept row c i e =
    let v = at_column row c in
    at_residues m (differences row (scaled v kept)) i
    ∙ ap (residue m) (at_differences row (scaled v kept) i (sym (length-scaled v kept ∙ e)))
    ∙ ap (λ z. residue m (at_column row i -ℤ z)) (at_scaled v kept i)

-- 0 if both rows are
pub reduced_at_zero : (m : ℕ) (kept row : List ℤ) (c i : ℕ) → length kept ≡ length row →
    at_column kept i ≡ pos 0 →
    at_column row i ≡ pos 0 → at_column (reduced_modulo m kept row c) i ≡ pos 0
reduced_at_zero m kept row c i e k r =
    at_reduced_modulo m kept row c i e ∙ ap₂ (λ a b. residue m (a -ℤ at_column row c *ℤ b)) r k
    ∙ ap (residue m) (zeros (at_column row c)) ∙ residue_of_zero m
  where
    zeros : (v : ℤ) → pos 0 -ℤ v *ℤ pos 0 ≡ pos 0
    zeros v = omega (arith, ints)

-- and at the column of the step
pub reduced_at_column : (m : ℕ) (kept row : List ℤ) (c : ℕ) → length kept ≡ length row →
    at_column kept c ≡ pos 1 →
    at_column (reduced_modulo m kept row c) c ≡ pos 0
reduced_at_column m kept row c e one =
    at_reduced_modulo m kept row c c e
    ∙ ap (λ a. residue m (at_column row c -ℤ at_column row c *ℤ a)) one
    ∙ ap (residue m) (zeros (at_column row c)) ∙ residue_of_zero m
  where
    zeros : (v : ℤ) → v -ℤ v *ℤ pos 1 ≡ pos 0
    zeros v = omega (arith, ints)

-- ---- the entries as they are kept

-- what is found has the residue 1
pub inverse_has : (m : ℕ) (x : ℤ) (w : ℕ) → inverse m x ≡ Some w → residue m (pos w *ℤ x) ≡ pos 1
unfolding inverse
inverse_has m x w e =
    (Decides-int_eq (residue m (pos w *ℤ x)) (pos 1)).0
    (find_has (λ v. Unit {0}) (λ v. int_eq (residue m (pos v *ℤ x)) (pos 1)) (range_with_len 0 m) w
    (all_unit (range_with_len 0 m)) e).1
  where
    all_unit : (xs : List ℕ) → All (λ v. Unit {0}) xs
    all_unit xs = λ i x below. tt

-- a row times an inverse of its entry
pub inverse_keeps : (m : ℕ) (row : List ℤ) (c u : ℕ) → 0 < m →
    inverse m (at_column row c) ≡ Some u →
    KeepsRow (λ x. x ≡ pos 1) (SolvesModulo m) ⊥ row c (residues m (scaled (pos u) row))
inverse_keeps m row c u some e =
    let entry = λ (i : ℕ). at_residues m (scaled (pos u) row) i
    ∙ ap (residue m) (at_scaled (pos u) row i) in record {
      columns = length-map (scaled (pos u) row) (residue m) ∙ length-scaled (pos u) row;
      zero = λ i none. entry i ∙ ap (λ z. residue m (pos u *ℤ z)) none
          ∙ ap (residue m) (times_zero (pos u)) ∙ residue_of_zero m;
      at_pivot = entry c ∙ inverse_has m (at_column row c) u e;
      solutions = λ w. record {
        onward = λ solved. solves_residues m (scaled (pos u) row) w some
            (solves_scaled m (pos u) row w solved);
        before = λ back. absurd back;
      };
    }
  where
    times_zero : (v : ℤ) → v *ℤ pos 0 ≡ pos 0
    times_zero v = omega (arith, ints)

pub residues_kept : (m : ℕ) (row : List ℤ) (c : ℕ) (entries : List ℤ) → 0 < m →
    times_inverse m row (inverse m (at_column row c)) ≡ Some entries →
    KeepsRow (λ x. x ≡ pos 1) (SolvesModulo m) ⊥ row c entries
residues_kept m row c entries some = by_inverse (inverse m (at_column row c)) refl
  where
    by_inverse : (o : Option ℕ) → inverse m (at_column row c) ≡ o →
        times_inverse m row o ≡ Some entries →
        KeepsRow (λ x. x ≡ pos 1) (SolvesModulo m) ⊥ row c entries
    by_inverse None e is = absurd cc
    by_inverse (Some u) e is =
        let same : residues m (scaled (pos u) row) ≡ entries = cc in
        subst (KeepsRow (λ x. x ≡ pos 1) (SolvesModulo m) ⊥ row c) same
        (inverse_keeps m row c u some e)

-- ---- the arithmetic

pub by_none : (m : ℕ) (row : List ℤ) (c : ℕ) → reduced_modulo m [] row c ≡ []
unfolding reduced_modulo
by_none m [] c = refl
by_none m (x ∷ row) c = refl

pub of_none : (m : ℕ) (kept : List ℤ) (c : ℕ) → reduced_modulo m kept [] c ≡ []
unfolding reduced_modulo
of_none m kept c = refl

-- there is no way back
abbrev pub modulo_sound : (m : ℕ) → 0 < m → SoundArithmetic
modulo_sound m some = record {
  by = modulo m;
  is_pivot = λ x. x ≡ pos 1;
  solves = SolvesModulo m;
  back = ⊥;
  read_columns = λ row. length-map row (residue m);
  read_solutions = λ w row. record {
    onward = solves_residues m row w some;
    before =
        λ back. absurd back;
  };
  step_columns = length-reduced_modulo m;
  step_zero = reduced_at_zero m;
  step_here = reduced_at_column m;
  step_onward = λ kept row w c. solves_reduced_modulo m kept row w c some;
  step_before = λ back. absurd back;
  by_none = by_none m;
  of_none = of_none m;
  none_solved = λ w. zero_none m;
  kept = λ row c entries apart. residues_kept m row c entries some;
  not_kept = λ back. absurd back;
  zeros_solved = λ back. absurd back;
  all_pivots = λ back. absurd back;
}
