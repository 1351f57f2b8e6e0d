-- A step on the entries of two rows (own).
use Rattle.std.specs.Prelude.{ℕ, ℤ, ◌≡◌, ◌-ℤ◌, ◌*ℤ◌, List, [], ◌++◌}
use Rattle.gj_shape.specs.Elimination.{at_column, scaled, differences, divided, row_factor, kept_factor}
use Rattle.gj_shape.specs.Residues.{residue, residues}
use Rattle.gj_theory.specs.Fitting.{FitsCombined}
use Rattle.gj_theory.specs.Modulus.{modulus}
use Rattle.gj_proof.specs.declared.numbers.Numbers.{Numbers}
use Rattle.gj_proof.specs.declared.numbers.Numbers.TheVariants.{Whole, Residues}
use Rattle.gj_check_groups.specs.RowNumbers.{IsResidue}
use Rattle.gj_limit_check_groups.specs.declared.step.Step.{Step}
use Rattle.gj_limit_check_groups.specs.declared.step.Step.TheVariants.{Combine, Modulo}

-- ---- one entry of both rows

-- of residues, both entries are residues
abbrev pub CanStep : Step → ℤ → ℤ → Type 0
CanStep (Combine u w) x e = Unit {0}
CanStep (Modulo w) x e = IsResidue w × IsResidue x × IsResidue e

-- the entry that is made of them
abbrev pub stepped_entry : Step → ℤ → ℤ → ℤ
stepped_entry (Combine u w) x e = u *ℤ x -ℤ w *ℤ e
stepped_entry (Modulo w) x e = residue modulus (x -ℤ w *ℤ e)

-- the numbers on the way are at most 2^127 - 1 in absolute value; of residues all are
abbrev pub FitsStep : Step → ℤ → ℤ → Type 0
FitsStep (Combine u w) x e = FitsCombined u x w e
FitsStep (Modulo w) x e = Unit {0}

-- ---- whole rows

-- the row that is made of a kept row and a row
abbrev pub stepped_row : Step → List ℤ → List ℤ → List ℤ
stepped_row (Combine u w) kept row = differences (scaled u row) (scaled w kept)
stepped_row (Modulo w) kept row = residues modulus (differences row (scaled w kept))

-- the numbers that are marked; of residues none are
abbrev pub marked_by : Step → List ℤ → List ℤ → List ℤ
marked_by (Combine u w) kept row = scaled u row ++ scaled w kept ++ differences (scaled u row)
    (scaled w kept)
marked_by (Modulo w) kept row = []

-- the step is that of these numbers at the column c
abbrev pub IsStepOf : Numbers → List ℤ → List ℤ → ℕ → Step → Type 0
IsStepOf Whole kept row c (Combine u w) = (u ≡ row_factor kept row c) × (w ≡ kept_factor kept row c)
IsStepOf Residues kept row c (Modulo w) = w ≡ at_column row c
IsStepOf _ kept row c _ = ⊥

-- a row of whole numbers is divided behind it
abbrev pub finished : Numbers → List ℤ → List ℤ
finished Whole row = divided row
finished Residues row = row
