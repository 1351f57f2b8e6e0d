-- Which proof the decision gives of a minimal function that may jump, and when its numbers are too
-- wide (Basu, Hildebrand and Koeppe, Equivariant Perturbation I; the limits, and which halves and
-- which rows, are own choices).
use Rattle.std.specs.Prelude.{ℕ, ℤ, ◌≡◌, ◌≢◌, ◌⊎◌, ◌<◌, ◌==◌, ◌%◌, List, [], Some, Result, Ok, Err, length, map, get_or}
use Rattle.std.specs.List.{list_any}
use Rattle.gj_shape.specs.Elimination.{KeptRow, Elimination, Solution, Passes, at_column, elimination_by, kernel}
use Rattle.gj_shape.specs.FunctionData.{FunctionData}
use Rattle.gj_shape.specs.SlopeRows.{component_in}
use Rattle.gj_shape.specs.Table.{IsMinimal}
use Rattle.gj_shape.specs.declared.extremality.CoverLine.{CoverLine}
use Rattle.gj_shape.specs.declared.extremality.LimitHalves.{LimitHalves}
use Rattle.gj_cover.specs.declared.covered.Cover.{Cover}
use Rattle.gj_jumps.specs.LimitCover.{IsTightAt}
use Rattle.gj_jumps.specs.LimitSystem.{Limits}
use Rattle.gj_limit_averages.specs.Averages.{IsExtremeFunction}
use Rattle.gj_limit_cover.specs.CoverOf.{IsCoverOf, IsLeastClass}
use Rattle.gj_limit_grids.specs.Grids.{zigzag_limits}
use Rattle.gj_limit_halves.specs.LimitHalves.{AreLimitHalvesOf, IsWideSplit}
use Rattle.gj_limit_halves.specs.Sides.{HasWide}
use Rattle.gj_limit_proof.specs.LimitRowsKept.{named_row}
use Rattle.gj_limit_proof.specs.LimitText.{HasText}
use Rattle.gj_limit_proof.specs.declared.claim.LimitClaim.{LimitClaim}
use Rattle.gj_limit_proof.specs.declared.claim.LimitClaim.TheVariants.{Extreme, NotExtreme}
use Rattle.gj_limit_proof.specs.declared.claim.LimitPivotRow.{LimitPivotRow}
use Rattle.gj_limit_system.specs.LimitRows.{limit_rows}
use Rattle.gj_limit_system.specs.Unknowns.{columns_for, limits_from}
use Rattle.gj_limit_system.specs.declared.limit_row.LimitRow.TheVariants.{F}
use Rattle.gj_proof.specs.PresentRows.{arithmetic_of}
use Rattle.gj_proof.specs.declared.numbers.Numbers.{Numbers}
use Rattle.gj_proof.specs.declared.numbers.Numbers.TheVariants.{Whole, Residues}
use Rattle.gj_extreme.specs.Decision.{AreNeeded}
use Rattle.gj_limit_extreme.specs.declared.faults.LimitDecideFault.{LimitDecideFault}
use Rattle.gj_limit_extreme.specs.declared.faults.LimitDecideFault.TheVariants.{Wide, Memory}

-- ---- the linear system of limits

-- the cover is that of the function, and each interval has a component in it, with these numbers
pub record AreAllCovered (f : FunctionData) (cover : Cover) (component : List ℕ) : Type 0 where
  pub is_cover : IsCoverOf f.order (IsTightAt f) cover
  pub numbers : cover.component ≡ map Some component

-- how many columns the rows have
abbrev pub columns_of : FunctionData → Cover → ℕ
columns_of f cover = columns_for f.order cover.count

-- the elimination of all rows, in their order, over whole numbers or over residues
abbrev pub elimination_over : Numbers → FunctionData → List ℕ → ℕ → Elimination
elimination_over numbers f component n =
    elimination_by (arithmetic_of numbers) n
    (map (named_row f (component_in component) n) (limit_rows f))

-- plain elimination
abbrev pub limit_elimination : FunctionData → List ℕ → ℕ → Elimination
limit_elimination f component n = elimination_over Whole f component n

-- the group of a row that it keeps
abbrev pub group_of : FunctionData → KeptRow → LimitPivotRow
group_of f k = record {
  name = get_or (limit_rows f) k.number F;
  reduce = k.reduce;
  pivot =
      k.pivot;
}

-- the perturbation with these numbers for the columns
abbrev pub kernel_limits : FunctionData → List ℕ → Solution → Limits ℤ
kernel_limits f component solution =
    limits_from f.order (component_in component) (at_column solution.numbers)

-- the zigzag of a class of intervals
abbrev pub class_zigzag : FunctionData → List ℕ → Limits ℤ
class_zigzag f intervals = zigzag_limits (λ i. list_any (λ a. a == i % f.order) intervals)

-- ---- the three ends of the decision

-- all intervals are covered, and the rows that are kept over these numbers, one for each column,
-- leave only 0
pub record AreExtremeRows (numbers : Numbers) (f : FunctionData) (lines : List CoverLine)
    (rows : List LimitPivotRow) : Type 0 where
  pub cover : Cover
  pub component : List ℕ
  pub covered : AreAllCovered f cover component
  pub lines_are : lines ≡ cover.lines
  pub needed : AreNeeded numbers (limit_elimination f component (columns_of f cover)).marked
  pub all : length (elimination_over numbers f component (columns_of f cover)).kept
      ≡ columns_of f cover
  pub rows_are : rows ≡ map (group_of f)
      (elimination_over numbers f component (columns_of f cover)).kept

-- an interval is uncovered, and the halves are those of the zigzag of the class of the least one
pub record AreZigzagHalves (f : FunctionData) (h : LimitHalves) : Type 0 where
  pub intervals : List ℕ
  pub least : IsLeastClass f.order (IsTightAt f) intervals
  pub some : intervals ≢ []
  pub halves : AreLimitHalvesOf f 4 (class_zigzag f intervals) h

-- all intervals are covered, fewer rows are kept than there are columns, and the halves are those of
-- the numbers that solve them
pub record AreKernelHalves (f : FunctionData) (h : LimitHalves) : Type 0 where
  pub cover : Cover
  pub component : List ℕ
  pub covered : AreAllCovered f cover component
  pub fits : Passes (limit_elimination f component (columns_of f cover)).marked → ⊥
  pub solution : Solution
  pub solves : kernel (columns_of f cover) (limit_elimination f component (columns_of f cover)).kept
      ≡ Some solution
  pub solution_fits : Passes solution.marked → ⊥
  pub halves : AreLimitHalvesOf f 1 (kernel_limits f component solution) h

-- what the decision gives of a minimal function: the cover and the rows, or the halves
abbrev pub IsLimitDecided : FunctionData → LimitClaim → Type 0
IsLimitDecided f (Extreme numbers g lines rows) = (g ≡ f) × IsMinimal f
    × AreExtremeRows numbers f lines rows
IsLimitDecided f (NotExtreme g h) = (g ≡ f) × IsMinimal f
    × (AreZigzagHalves f h ⊎ AreKernelHalves f h)

-- a claim that a function is not extreme denies that it is
abbrev pub DeniesExtreme : FunctionData → LimitClaim → Type 0
DeniesExtreme f (Extreme numbers g lines rows) = Unit {0}
DeniesExtreme f (NotExtreme g h) = IsExtremeFunction f → ⊥

-- ---- when it gives none

-- a number of the kernel, of the perturbation or of the halves is too wide
pub data IsWideBehind (f : FunctionData) (component : List ℕ) (s : Solution) : Type 0 where
  kernel_passes : Passes s.marked → IsWideBehind f component s
  perturbation_passes : HasWide f.order (kernel_limits f component s) → IsWideBehind f component s
  scale_passes : IsWideSplit f 1 (kernel_limits f component s) → IsWideBehind f component s

-- all intervals are covered, and a number of the elimination is above 2^127 - 1 in absolute value
-- and residues keep fewer rows than there are columns, or none is, and one of those behind it is too
-- wide
pub record IsLimitTooWide (f : FunctionData) : Type 0 where
  pub cover : Cover
  pub component : List ℕ
  pub covered : AreAllCovered f cover component
  pub passes : (Passes (limit_elimination f component (columns_of f cover)).marked
      × (length (elimination_over Residues f component (columns_of f cover)).kept
      < columns_of f cover))
      ⊎ ((Passes (limit_elimination f component (columns_of f cover)).marked → ⊥)
      × ((s : Solution) × (kernel (columns_of f cover)
      (limit_elimination f component (columns_of f cover)).kept
      ≡ Some s) × IsWideBehind f component s))

-- ---- a claim, or a fault with its cause

-- what a fault says of the function
abbrev pub IsCause : FunctionData → LimitDecideFault → Type 0
IsCause f Wide = IsLimitTooWide f
IsCause f (Memory e) = Unit {0}

-- what the decision gives, which has a text, or a fault with its cause
abbrev pub IsDecision : FunctionData → Result LimitClaim LimitDecideFault → Type 0
IsDecision f (Ok claim) = IsLimitDecided f claim × HasText claim
IsDecision f (Err fault) = IsCause f fault
