-- The claim that a function is minimal, or that it is not (own).
use Rattle.std.specs.Prelude.{◌≡◌}
use Rattle.gj_shape.specs.FunctionData.{FunctionData}
use Rattle.gj_shape.specs.Table.{IsMinimal}
use Rattle.gj_shape.specs.Violation.{ShowsViolation}
use Rattle.gj_shape.specs.FirstViolation.{IsFirstViolation}
use Rattle.gj_proof.specs.declared.claim.Claim.{Claim}
use Rattle.gj_proof.specs.declared.claim.Claim.TheVariants.{Minimal, NotMinimal}
use Rattle.gj_proof.specs.Rules.{MeetsRules}

-- the claim is that f is minimal, if it is, its table on every grid, and otherwise that it is not,
-- with the first violation; every rule of the checker holds of it
abbrev pub IsMinimalityClaim : FunctionData → Claim → Type 0
IsMinimalityClaim f (Minimal g) = (g ≡ f) × IsMinimal f × MeetsRules (Minimal f)
IsMinimalityClaim f (NotMinimal g v) = (g ≡ f) × IsFirstViolation f v × ShowsViolation f v
    × MeetsRules (NotMinimal f v)
IsMinimalityClaim f c = ⊥
