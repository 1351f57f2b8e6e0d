-- What a claim says of its function, or of its cuts (Gomory and Johnson 1972).
use Rattle.std.specs.Prelude.{ℕ, pos, ◌≡◌, ◌*◌, ◌<◌, All, map}
use Rattle.gj_shape.specs.Extreme.{IsExtreme}
use Rattle.gj_shape.specs.FunctionData.{FunctionData, at, IsContinuous}
use Rattle.gj_shape.specs.RowCut.{CutHolds}
use Rattle.gj_shape.specs.Table.{table, IsMinimal}
use Rattle.gj_shape.specs.Violation.{ShowsViolation}
use Rattle.gj_shape.specs.declared.extremality.Halves.{Halves}
use Rattle.gj_theory.specs.Halves.{AreDifferentHalves}
use Rattle.gj_proof.specs.declared.claim.Claim.{Claim}
use Rattle.gj_proof.specs.declared.claim.Claim.TheVariants.{Minimal, NotMinimal, Cut, Extreme, ExtremeByResidues, NotExtreme}
use Rattle.gj_proof.specs.declared.cut.CutLine.{CutLine}
use Rattle.gj_proof.specs.declared.cut.CutLine.TheVariants as cuts

-- the cut of a row, if it has one, holds at every solution of the row that its right side and its
-- terms spell
abbrev pub CutLineHolds : CutLine → Type 0
CutLineHolds (cuts.Cut name right terms) =
    CutHolds (map (λ t. t.entry) terms) right (map (λ t. t.cut) terms)
CutLineHolds (cuts.Skip name right reason) = Unit {0}

-- the halves are two different minimal tables, on a grid of order a multiple of the function's and
-- over their scale, that average to the function's table
abbrev pub ShowHalves : FunctionData → Halves → Type 0
ShowHalves f h =
    (m : ℕ) × (c : ℕ) × (0 < m) × (h.order ≡ f.order * m) × (h.scale ≡ pos (c * (f.scale * m)))
    × AreDifferentHalves (table f m) (f.order * m) (f.place * m) (f.scale * m) c (at h.first)
    (at h.second)

-- a minimal function, its table on every grid; the violation shows that the function is not
-- minimal; each cut holds; a continuous function that is extreme, by whatever rows: each of its
-- tables is minimal, and no average of two different minimal ones; or a continuous minimal function
-- and two different minimal tables that average to its own
abbrev pub ClaimHolds : Claim → Type 0
ClaimHolds (Minimal f) = IsMinimal f
ClaimHolds (NotMinimal f v) = ShowsViolation f v
ClaimHolds (Cut rule rows) = All CutLineHolds rows
ClaimHolds (Extreme f lines rows) = IsContinuous f × IsExtreme f
ClaimHolds (ExtremeByResidues f lines rows) = IsContinuous f × IsExtreme f
ClaimHolds (NotExtreme f h) = IsContinuous f × IsMinimal f × ShowHalves f h
