-- Which proof the decision gives of a function, and when its numbers are too wide (Equivariant
-- Perturbation I; which halves and which rows are own choices).
use Rattle.std.specs.Prelude.{ℕ, ℤ, pos, ◌≡◌, ◌≢◌, ◌⊎◌, ◌*◌, ◌<◌, ◌≤◌, ◌^◌, ◌<ℤ◌, List, [], Some, Result, Ok, Err, length, map, get_or, unsigned_abs}
use Rattle.gj_shape.specs.Additive.{IsTight}
use Rattle.gj_shape.specs.Cover.{AreCoverLines, components_in}
use Rattle.gj_shape.specs.Elimination.{KeptRow, Elimination, Solution, Passes, at_column, elimination_by, kernel}
use Rattle.gj_shape.specs.Extreme.{IsExtremeTable}
use Rattle.gj_shape.specs.FirstViolation.{IsFirstViolation}
use Rattle.gj_shape.specs.FunctionData.{FunctionData, IsContinuous, IsFirstJump}
use Rattle.gj_shape.specs.Limits.{greatest_halves_scale}
use Rattle.gj_shape.specs.Perturbation.{AreHalvesOf, perturbation_of, zigzag}
use Rattle.gj_shape.specs.SlopeRows.{row_names}
use Rattle.gj_shape.specs.Table.{table, IsMinimal}
use Rattle.gj_shape.specs.declared.extremality.CoverLine.{CoverLine}
use Rattle.gj_shape.specs.declared.extremality.Halves.{Halves}
use Rattle.gj_shape.specs.declared.extremality.RowName.TheVariants.{Period}
use Rattle.gj_cover.specs.CoverOf.{IsLeastClass}
use Rattle.gj_proof.specs.PresentRows.{AreNumbersOf, arithmetic_of, named_row}
use Rattle.gj_proof.specs.ProofText.{HasText}
use Rattle.gj_proof.specs.declared.claim.Claim.{Claim}
use Rattle.gj_proof.specs.declared.claim.Claim.TheVariants.{Minimal, NotMinimal, Cut, Extreme, ExtremeByResidues, NotExtreme}
use Rattle.gj_proof.specs.declared.numbers.Numbers.{Numbers}
use Rattle.gj_proof.specs.declared.numbers.Numbers.TheVariants.{Whole, Residues}
use Rattle.gj_proof.specs.declared.pivot.PivotRow.{PivotRow}
use Rattle.gj_extreme.specs.declared.faults.DecideFault.{DecideFault}
use Rattle.gj_extreme.specs.declared.faults.DecideFault.TheVariants.{NotContinuous, Wide, Memory}

-- ---- the linear system for the slopes

-- the cover lines are those of the function, and cover all its intervals, with these numbers of n
-- components
pub record AreAllCovered (f : FunctionData) (lines : List CoverLine) (component : ℕ → ℕ) (n : ℕ) :
    Type 0 where
  pub are_lines : AreCoverLines f.order (IsTight f) lines
  pub numbers : AreNumbersOf f lines component
  pub count : n ≡ components_in lines

-- the elimination of all rows of the system, in their order, over whole numbers or over residues
abbrev pub elimination_over : Numbers → FunctionData → (ℕ → ℕ) → ℕ → Elimination
elimination_over numbers f component n =
    elimination_by (arithmetic_of numbers) n (map (named_row f component n) (row_names f))

-- plain elimination
abbrev pub slope_elimination : FunctionData → (ℕ → ℕ) → ℕ → Elimination
slope_elimination f component n = elimination_over Whole f component n

-- residues are for rows whose plain elimination has a number above 2^127 - 1 in absolute value
abbrev pub AreNeeded : Numbers → List ℤ → Type 0
AreNeeded Whole marked = Passes marked → ⊥
AreNeeded Residues marked = Passes marked

-- the group of a row that it keeps
abbrev pub group_of : FunctionData → KeptRow → PivotRow
group_of f k = record {
  name = get_or (row_names f) k.number Period;
  reduce = k.reduce;
  pivot =
      k.pivot;
}

-- the perturbation with the numbers as slopes of the components
abbrev pub slope_perturbation : FunctionData → (ℕ → ℕ) → List ℤ → ℕ → ℤ
slope_perturbation f component numbers i =
    perturbation_of f.order (λ a. at_column numbers (component a)) i

-- ---- the three ends of the decision on a minimal continuous function

-- all intervals are covered, and the rows that are kept over these numbers, one for each component,
-- leave only the slopes 0
pub record AreExtremeRows (numbers : Numbers) (f : FunctionData) (lines : List CoverLine)
    (rows : List PivotRow) : Type 0 where
  pub component : ℕ → ℕ
  pub n : ℕ
  pub covered : AreAllCovered f lines component n
  pub needed : AreNeeded numbers (slope_elimination f component n).marked
  pub all : length (elimination_over numbers f component n).kept ≡ n
  pub rows_are : rows ≡ map (group_of f) (elimination_over numbers f component n).kept

-- an interval is uncovered, and the halves are those of the zigzag of the class of the least one
pub record AreZigzagHalves (f : FunctionData) (h : Halves) : Type 0 where
  pub intervals : List ℕ
  pub least : IsLeastClass f.order (IsTight f) intervals
  pub some : intervals ≢ []
  pub halves : AreHalvesOf f 4 (zigzag f.order intervals) h

-- all intervals are covered, fewer rows are kept than there are components, and the halves are
-- those of the slopes that solve them
pub record AreSlopeHalves (f : FunctionData) (h : Halves) : Type 0 where
  pub lines : List CoverLine
  pub component : ℕ → ℕ
  pub n : ℕ
  pub covered : AreAllCovered f lines component n
  pub fits : Passes (slope_elimination f component n).marked → ⊥
  pub solution : Solution
  pub solves : kernel n (slope_elimination f component n).kept ≡ Some solution
  pub solution_fits : Passes solution.marked → ⊥
  pub halves : AreHalvesOf f 1 (slope_perturbation f component solution.numbers) h

-- what the decision gives: the first violation; or, of a minimal continuous function, the cover and
-- the rows, or the halves
abbrev pub IsDecided : FunctionData → Claim → Type 0
IsDecided f (Minimal g) = ⊥
IsDecided f (NotMinimal g v) = (g ≡ f) × IsFirstViolation f v
IsDecided f (Cut rule rows) = ⊥
IsDecided f (Extreme g lines rows) = (g ≡ f) × IsMinimal f × IsContinuous f
    × AreExtremeRows Whole f lines rows
IsDecided f (ExtremeByResidues g lines rows) = (g ≡ f) × IsMinimal f × IsContinuous f
    × AreExtremeRows Residues f lines rows
IsDecided f (NotExtreme g h) = (g ≡ f) × IsMinimal f × IsContinuous f
    × (AreZigzagHalves f h ⊎ AreSlopeHalves f h)

-- it is that the function is extreme, by cover lines and rows of whole numbers
abbrev pub IsExtremeClaim : FunctionData → Claim → Type 0
IsExtremeClaim f c = (lines : List CoverLine) × (rows : List PivotRow) × (c ≡ Extreme f lines rows)

-- ---- what the table of order 4 q tells

-- the table of order 4 q is extreme
abbrev pub IsExtremeOnGrid4 : FunctionData → Type 0
IsExtremeOnGrid4 f = IsExtremeTable (table f 4) (f.order * 4) (f.place * 4) (f.scale * 4)

-- it is if the function is claimed to be extreme, and is not if it is claimed not to be
abbrev pub IsByTable : FunctionData → Claim → Type 0
IsByTable f (Minimal g) = Unit {0}
IsByTable f (NotMinimal g v) = Unit {0}
IsByTable f (Cut rule rows) = Unit {0}
IsByTable f (Extreme g lines rows) = IsExtremeOnGrid4 f
IsByTable f (ExtremeByResidues g lines rows) = IsExtremeOnGrid4 f
IsByTable f (NotExtreme g h) = IsExtremeOnGrid4 f → ⊥

-- ---- when it gives none

-- a number of the kernel, of the perturbation or of the halves is too wide
pub data IsWideBehind (f : FunctionData) (component : ℕ → ℕ) (s : Solution) : Type 0 where
  kernel_passes : Passes s.marked → IsWideBehind f component s
  perturbation_passes : (i : ℕ) → i < f.order →
      2 ^ 127 ≤ unsigned_abs (slope_perturbation f component s.numbers i) →
      IsWideBehind f component s
  scale_passes : (h : Halves) → AreHalvesOf f 1 (slope_perturbation f component s.numbers) h →
      pos greatest_halves_scale <ℤ h.scale → IsWideBehind f component s

-- all intervals are covered, and a number of the elimination is above 2^127 - 1 in absolute value
-- and residues keep fewer rows than there are components, or none is, and one of those behind it is
-- too wide
pub record IsTooWide (f : FunctionData) : Type 0 where
  pub lines : List CoverLine
  pub component : ℕ → ℕ
  pub n : ℕ
  pub covered : AreAllCovered f lines component n
  pub passes : (Passes (slope_elimination f component n).marked
      × (length (elimination_over Residues f component n).kept < n))
      ⊎ ((Passes (slope_elimination f component n).marked → ⊥)
      × ((s : Solution) × (kernel n (slope_elimination f component n).kept ≡ Some s)
      × IsWideBehind f component s))

-- ---- a claim, or a fault with its cause

-- what a fault says of the function
abbrev pub IsCause : FunctionData → DecideFault → Type 0
IsCause f (NotContinuous i) = IsMinimal f × IsFirstJump f i
IsCause f Wide = IsMinimal f × IsContinuous f × IsTooWide f
IsCause f (Memory e) = Unit {0}

-- what the decision gives, which has a text, or a fault with its cause
abbrev pub IsDecision : FunctionData → Result Claim DecideFault → Type 0
IsDecision f (Ok claim) = IsDecided f claim × HasText claim
IsDecision f (Err fault) = IsCause f fault
