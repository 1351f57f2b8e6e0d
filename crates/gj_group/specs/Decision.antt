-- What is decided of the table of a function's own order, and when the numbers are too wide:
-- Gomory's cyclic group problem (Gomory and Johnson 1972; the halves are those of Equivariant
-- Perturbation I).
use Rattle.std.specs.Prelude.{ℕ, ℤ, pos, ◌≡◌, ◌*◌, List, Some}
use Rattle.gj_shape.specs.Elimination.{Solution, elimination, kernel}
use Rattle.gj_shape.specs.Extreme.{IsExtremeTable}
use Rattle.gj_shape.specs.FirstViolation.{IsFirstViolation}
use Rattle.gj_shape.specs.FunctionData.{FunctionData, at}
use Rattle.gj_shape.specs.Perturbation.{AreHalvesOf, AreHalvesInBounds}
use Rattle.gj_shape.specs.Table.{table, IsMinimalOnGrid}
use Rattle.gj_shape.specs.Violation.{ShowsViolation}
use Rattle.gj_shape.specs.declared.extremality.Halves.{Halves}
use Rattle.gj_theory.specs.Halves.{AreDifferentHalves}
use Rattle.gj_perturb.specs.Split.{IsWide}
use Rattle.gj_residue.specs.Settled.{IsKernel, AreRowsTooWide}
use Rattle.gj_group.specs.GroupRows.{group_rows}
use Rattle.gj_group.specs.declared.decision.GroupAnswer.{GroupAnswer}
use Rattle.gj_group.specs.declared.decision.GroupAnswer.TheVariants.{NotMinimal, Extreme, NotExtreme}

-- the greatest order of a table that is decided
abbrev pub greatest_group_order : ℕ
greatest_group_order = 120

-- ---- what an answer says of the table

-- the table of the function's own order is extreme
abbrev pub IsExtremeOnOwnGrid : FunctionData → Type 0
IsExtremeOnOwnGrid f = IsExtremeTable (table f 1) (f.order * 1) (f.place * 1) (f.scale * 1)

-- these are two different minimal tables of the function's order, over this scale, that average to
-- its own
pub record SplitTable (f : FunctionData) (h : Halves) : Type 0 where
  pub factor : ℕ
  pub order : h.order ≡ f.order
  pub scale : h.scale ≡ pos (factor * (f.scale * 1))
  pub halves : AreDifferentHalves (table f 1) (f.order * 1) (f.place * 1) (f.scale * 1) factor
      (at h.first) (at h.second)

-- the table is not minimal, and the function breaks the definition as the violation shows; or it is
-- extreme; or it is minimal and not extreme, as the halves show
abbrev pub SaysOfTable : FunctionData → GroupAnswer → Type 0
SaysOfTable f (NotMinimal v) = (IsMinimalOnGrid f 1 → ⊥) × ShowsViolation f v
SaysOfTable f Extreme = IsExtremeOnOwnGrid f
SaysOfTable f (NotExtreme h) = IsMinimalOnGrid f 1 × (IsExtremeOnOwnGrid f → ⊥) × SplitTable f h

-- ---- which violation and which halves

-- the rows of the table
abbrev pub own_rows : FunctionData → List (List ℤ)
own_rows f = group_rows (at f.value) f.order f.place

-- the halves of the kernel of its rows
pub record AreGroupHalves (f : FunctionData) (h : Halves) : Type 0 where
  pub solution : Solution
  pub solves : kernel f.order (elimination f.order (own_rows f)).kept ≡ Some solution
  pub halves : AreHalvesOf f 1 (at solution.numbers) h
  pub bounds : AreHalvesInBounds h

abbrev pub IsFound : FunctionData → GroupAnswer → Type 0
IsFound f (NotMinimal v) = IsFirstViolation f v
IsFound f Extreme = Unit {0}
IsFound f (NotExtreme h) = AreGroupHalves f h

-- ---- when there is none

-- the rows are too wide, or the halves of their kernel are
pub data IsTooWideGroup (f : FunctionData) : Type 0 where
  rows_too_wide : AreRowsTooWide f.order (own_rows f) → IsTooWideGroup f
  halves_too_wide : (numbers : List ℤ) → IsKernel f.order (own_rows f) numbers →
      IsWide f (record { times = 1; values = numbers }) →
      IsTooWideGroup f
