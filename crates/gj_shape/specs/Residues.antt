-- Elimination modulo a number (own): insertion over residues, as `gj_residue` and `gj_check_groups`
-- compute it. Rows stay lists of whole numbers, and those that it keeps have 1 at their pivots.
use Rattle.std.specs.Prelude.{ℕ, ℤ, pos, ◌≡◌, ◌-ℤ◌, ◌*ℤ◌, Option, None, Some, List, [], map}
use Rattle.std.specs.Int.{int_rem_euclid}
use Rattle.std.specs.List.{range_with_len, find}
use Rattle.std.specs.Ordering.{int_eq}
use Rattle.gj_shape.specs.SlopeRows.{sum_of_products}
use Rattle.gj_shape.specs.Elimination.{at_column, scaled, differences, Arithmetic}

-- ---- the arithmetic

-- the rest of x in the division by m, from 0 on and below m
abbrev pub residue : ℕ → ℤ → ℤ
residue m x = int_rem_euclid x (pos m)

abbrev pub residues : ℕ → List ℤ → List ℤ
residues m row = map (residue m) row

-- the least number below m whose product with x has the residue 1, if there is one
unfoldable pub inverse : ℕ → ℤ → Option ℕ
inverse m x = find (λ w. int_eq (residue m (pos w *ℤ x)) (pos 1)) (range_with_len 0 m)

-- the row less the kept row, which has 1 at the column, times the row's entry there
unfoldable pub reduced_modulo : ℕ → List ℤ → List ℤ → ℕ → List ℤ
reduced_modulo m kept row c = residues m (differences row (scaled (at_column row c) kept))

-- the row times an inverse, if there is one
abbrev pub times_inverse : ℕ → List ℤ → Option ℕ → Option (List ℤ)
times_inverse m row None = None
times_inverse m row (Some w) = Some (residues m (scaled (pos w) row))

-- over residues modulo m: a row is kept at a column if its entry there has an inverse, and no step
-- marks numbers
abbrev pub modulo : ℕ → Arithmetic
modulo m = record {
  read = residues m;
  step = reduced_modulo m;
  marked = λ kept row c. [];
  keep = λ row c. times_inverse m row (inverse m (at_column row c));
}

-- ---- what it means

-- a multiple of m
abbrev pub IsZeroModulo : ℕ → ℤ → Type 0
IsZeroModulo m x = (k : ℤ) × (x ≡ k *ℤ pos m)

-- the numbers solve the row modulo m
abbrev pub SolvesModulo : ℕ → List ℤ → List ℤ → Type 0
SolvesModulo m w row = IsZeroModulo m (sum_of_products row w)

abbrev pub IsInvertible : ℕ → ℤ → Type 0
IsInvertible m x = (w : ℤ) × IsZeroModulo m (w *ℤ x -ℤ pos 1)
