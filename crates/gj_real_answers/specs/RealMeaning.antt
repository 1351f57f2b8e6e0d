-- What a claim says over a field in which each number lies between a whole number and the next, so
-- over the real numbers (Gomory and Johnson 1972).
use Rattle.std.specs.Prelude.{All, map}
use Rattle.gj_shape.specs.FunctionData.{FunctionData}
use Rattle.gj_proof.specs.Meaning.{CutLineHolds}
use Rattle.gj_proof.specs.declared.claim.Claim.{Claim}
use Rattle.gj_proof.specs.declared.claim.Claim.TheVariants.{Minimal, NotMinimal, Cut, Extreme, ExtremeByResidues, NotExtreme}
use Rattle.gj_limit_proof.specs.declared.claim.LimitClaim.{LimitClaim}
use Rattle.gj_limit_proof.specs.declared.claim.LimitClaim.TheVariants as limit
use Rattle.gj_row.specs.declared.tableau.Row.{Row}
use Rattle.gj_mixed.specs.declared.cut.MixedCut.{MixedCut}
use Rattle.gj_mixed.specs.declared.cut.MixedCut.TheVariants as mixed_cut
use Rattle.gj_fields.specs.Fields.{OrderedField, HasFloor}
use Rattle.gj_fields.specs.Functions.{IsMinimalAmong, IsExtremeAmong}
use Rattle.gj_reals.specs.RealFunctions.{real_function, real_place}
use Rattle.gj_real_cuts.specs.RealRows.{RealCutHolds}

-- the function, taken at all numbers, is minimal among the valid functions
abbrev pub IsRealMinimal : {R : Type 0} (K : OrderedField R) → HasFloor K → FunctionData → Type 0
IsRealMinimal K floors f = IsMinimalAmong K (real_function K floors f) (real_place K f)

-- it is minimal, and no average of two different valid functions
abbrev pub IsRealExtreme : {R : Type 0} (K : OrderedField R) → HasFloor K → FunctionData → Type 0
IsRealExtreme K floors f =
    IsRealMinimal K floors f × IsExtremeAmong K (real_function K floors f) (real_place K f)

-- what a claim about a function says of it at all numbers; the variables of the rows of a claim are
-- whole numbers
abbrev pub RealClaimHolds : {R : Type 0} (K : OrderedField R) → HasFloor K → Claim → Type 0
RealClaimHolds K floors (Minimal f) = IsRealMinimal K floors f
RealClaimHolds K floors (NotMinimal f v) = IsRealMinimal K floors f → ⊥
RealClaimHolds K floors (Cut rule rows) = All CutLineHolds rows
RealClaimHolds K floors (Extreme f lines rows) = IsRealExtreme K floors f
RealClaimHolds K floors (ExtremeByResidues f lines rows) = IsRealExtreme K floors f
RealClaimHolds K floors (NotExtreme f h) =
    IsRealMinimal K floors f × (IsRealExtreme K floors f → ⊥)

-- the same of a claim about a function that jumps
abbrev pub RealLimitClaimHolds : {R : Type 0} (K : OrderedField R) → HasFloor K → LimitClaim →
    Type 0
RealLimitClaimHolds K floors (limit.Extreme numbers f lines rows) = IsRealExtreme K floors f
RealLimitClaimHolds K floors (limit.NotExtreme f h) =
    IsRealMinimal K floors f × (IsRealExtreme K floors f → ⊥)

-- the mixed cut of a row, if it has one, holds at all whole and real amounts
abbrev pub RealHoldsFor : {R : Type 0} → OrderedField R → Row → MixedCut → Type 0
RealHoldsFor K row (mixed_cut.Cut terms weights) =
    RealCutHolds K (map (λ t. t.entry) terms) (map (λ t. t.entry) weights) row.rhs
    (map (λ t. t.cut) terms) (map (λ t. t.cut) weights)
RealHoldsFor K row mixed_cut.Integral = Unit {0}
RealHoldsFor K row mixed_cut.OtherFraction = Unit {0}
