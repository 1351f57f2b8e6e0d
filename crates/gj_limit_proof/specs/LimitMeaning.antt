-- What a claim says of its function, which jumps (Gomory and Johnson 1972).
use Rattle.std.specs.Prelude.{ℕ, pos, ◌≡◌, ◌*◌, unsigned_abs}
use Rattle.gj_shape.specs.FunctionData.{FunctionData, function_over}
use Rattle.gj_shape.specs.Table.{IsMinimal}
use Rattle.gj_shape.specs.declared.extremality.LimitHalves.{LimitHalves}
use Rattle.gj_shape.specs.declared.extremality.SideNumbers.{SideNumbers}
use Rattle.gj_limit_averages.specs.Averages.{IsExtremeFunction, AreDifferentParts}
use Rattle.gj_limit_proof.specs.declared.claim.LimitClaim.{LimitClaim}
use Rattle.gj_limit_proof.specs.declared.claim.LimitClaim.TheVariants.{Extreme, NotExtreme}

-- the function with these limits and values, on a grid of order m times that of f
abbrev pub half_of : FunctionData → ℕ → LimitHalves → SideNumbers → FunctionData
half_of f m h s = function_over h.order (f.place * m) (unsigned_abs h.scale) s.left s.value s.right

-- the halves are two different minimal functions, on a grid of order a multiple of the function's,
-- that average to it
abbrev pub ShowLimitHalves : FunctionData → LimitHalves → Type 0
ShowLimitHalves f h =
    (m : ℕ) × (c : ℕ) × (h.scale ≡ pos (c * (f.scale * m)))
    × AreDifferentParts f m c (half_of f m h h.first) (half_of f m h h.second)

-- an extreme function, by whatever rows; or a minimal one, and two different minimal functions that
-- average to it
abbrev pub LimitClaimHolds : LimitClaim → Type 0
LimitClaimHolds (Extreme numbers f lines rows) = IsExtremeFunction f
LimitClaimHolds (NotExtreme f h) = IsMinimal f × ShowLimitHalves f h
