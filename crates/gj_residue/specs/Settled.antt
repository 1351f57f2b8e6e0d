-- What is settled of rows, and when their numbers are too wide (own).
use Rattle.std.specs.Prelude.{ℕ, ℤ, pos, ◌≡◌, ◌<◌, ◌<ℤ◌, Some, List, length, map, All, Any}
use Rattle.gj_shape.specs.Elimination.{KeptRow, Solution, elimination, elimination_by, kernel, Passes}
use Rattle.gj_shape.specs.Residues.{modulo}
use Rattle.gj_theory.specs.Modulus.{modulus}
use Rattle.gj_theory.specs.TriangularRows.{Solves}
use Rattle.gj_elim.specs.KeptRows.{log_row}
use Rattle.gj_elim.specs.declared.log.LogRow.{LogRow}
use Rattle.gj_elim.specs.declared.faults.ElimFault.{ElimFault}
use Rattle.gj_elim.specs.declared.faults.ElimFault.TheVariants.{Wide as ElimWide, Memory as ElimMemory}
use Rattle.gj_residue.specs.declared.settling.Settled.{Settled}
use Rattle.gj_residue.specs.declared.settling.Settled.TheVariants.{Plain, Residues, Kernel}
use Rattle.gj_residue.specs.declared.settling.SettleFault.{SettleFault}
use Rattle.gj_residue.specs.declared.settling.SettleFault.TheVariants.{Wide, Memory}

-- ---- what the answers say of the rows

-- only 0 solves all rows of n columns
abbrev pub OnlyZeroSolves : ℕ → List (List ℤ) → Type 0
OnlyZeroSolves n rows = (w : List ℤ) → length w ≡ n → All (Solves w) rows → All (λ x. x ≡ pos 0) w

-- only 0 solves them, or the numbers do
abbrev pub AnswersRows : ℕ → List (List ℤ) → Settled → Type 0
AnswersRows n rows (Plain log) = OnlyZeroSolves n rows
AnswersRows n rows (Residues log) = OnlyZeroSolves n rows
AnswersRows n rows (Kernel numbers) =
    (length numbers ≡ n) × All (Solves numbers) rows × Any (λ x. pos 0 <ℤ x) numbers

-- ---- when each comes

-- no insertion passes, and as many rows are kept as there are columns
pub record IsPlain (n : ℕ) (rows : List (List ℤ)) (log : List LogRow) : Type 0 where
  pub narrow : Passes (elimination n rows).marked → ⊥
  pub full : length (elimination n rows).kept ≡ n
  pub log_is : log ≡ map log_row (elimination n rows).kept

-- an insertion passes, and over residues as many rows are kept as there are columns
pub record IsByResidues (n : ℕ) (rows : List (List ℤ)) (log : List LogRow) : Type 0 where
  pub passes : Passes (elimination n rows).marked
  pub full : length (elimination_by (modulo modulus) n rows).kept ≡ n
  pub log_is : log ≡ map log_row (elimination_by (modulo modulus) n rows).kept

-- no insertion passes, fewer rows are kept than there are columns, and no number of the kernel
-- passes
pub record IsKernel (n : ℕ) (rows : List (List ℤ)) (numbers : List ℤ) : Type 0 where
  pub narrow : Passes (elimination n rows).marked → ⊥
  pub fewer : length (elimination n rows).kept < n
  pub solution : Solution
  pub solves : kernel n (elimination n rows).kept ≡ Some solution
  pub solution_narrow : Passes solution.marked → ⊥
  pub numbers_are : numbers ≡ solution.numbers

abbrev pub IsSettled : ℕ → List (List ℤ) → Settled → Type 0
IsSettled n rows (Plain log) = IsPlain n rows log
IsSettled n rows (Residues log) = IsByResidues n rows log
IsSettled n rows (Kernel numbers) = IsKernel n rows numbers

-- an insertion passes and over residues fewer rows are kept than there are columns, or no insertion
-- passes and a number of the kernel does
pub data AreRowsTooWide (n : ℕ) (rows : List (List ℤ)) : Type 0 where
  insertion_passes : Passes (elimination n rows).marked →
      length (elimination_by (modulo modulus) n rows).kept < n → AreRowsTooWide n rows
  kernel_passes : (Passes (elimination n rows).marked → ⊥) → (s : Solution) →
      kernel n (elimination n rows).kept ≡ Some s →
      Passes s.marked → AreRowsTooWide n rows

-- ---- of rows that are kept

-- as many are kept as there are columns, or the numbers are those of the kernel, none of which
-- passes
pub record IsKernelOf (n : ℕ) (kept : List KeptRow) (numbers : List ℤ) : Type 0 where
  pub solution : Solution
  pub solves : kernel n kept ≡ Some solution
  pub narrow : Passes solution.marked → ⊥
  pub numbers_are : numbers ≡ solution.numbers

abbrev pub IsSettledBy : ℕ → List KeptRow → Settled → Type 0
IsSettledBy n kept (Plain log) = (length kept ≡ n) × (log ≡ map log_row kept)
IsSettledBy n kept (Residues log) = ⊥
IsSettledBy n kept (Kernel numbers) = IsKernelOf n kept numbers

-- over residues as many rows are kept as there are columns, with this log
pub record IsFullLog (n : ℕ) (rows : List (List ℤ)) (log : List LogRow) : Type 0 where
  pub full : length (elimination_by (modulo modulus) n rows).kept ≡ n
  pub log_is : log ≡ map log_row (elimination_by (modulo modulus) n rows).kept

-- the fault that a fault of plain elimination is
abbrev pub fault_of : ElimFault → SettleFault
fault_of ElimWide = Wide
fault_of (ElimMemory error) = Memory error
