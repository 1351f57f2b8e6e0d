-- Fractions over a multiple of their denominators.
use Rattle.std.proofs.Common.{◌≡◌, ℕ, ◌*◌, ◌/◌, ◌<◌, ◌≤◌, ◌^◌, ℤ, pos, ◌*ℤ◌, unsigned_abs, FitsSigned, w64, ap, ◌∙◌, arith}
use Rattle.std.proofs.Math.Nat.{mul-div_cancel', mul_assoc, mul-le-mul_right}
use Rattle.std.proofs.lemmas.Int.{unsigned_abs-mul, fits_signed_from_abs}
use Rattle.std.specs.Int.{◌∣◌}

-- the numerator over the scale is at most 2^20 times the scale
pub numerator_small : (n : ℤ) (d scale : ℕ) → unsigned_abs n ≤ 2 ^ 20 * d → d ∣ scale →
    unsigned_abs (n *ℤ pos (scale / d)) ≤ 2 ^ 20 * scale
numerator_small n d scale small h =
    let size = unsigned_abs-mul n (pos (scale / d)) in
    let less = mul-le-mul_right (scale / d) small in
    let whole : 2 ^ 20 * d * (scale / d) ≡ 2 ^ 20 * scale =
    mul_assoc (2 ^ 20) d (scale / d) ∙ ap (λ n. 2 ^ 20 * n) (mul-div_cancel' d h) in
    omega arith

-- so it fits 64 bits
pub numerator_fits : (n : ℤ) (d scale : ℕ) → unsigned_abs n ≤ 2 ^ 20 * d → d ∣ scale →
    scale < 2 ^ 31 →
    FitsSigned w64 (n *ℤ pos (scale / d))
numerator_fits n d scale small h high =
    let size = numerator_small n d scale small h in
    fits_signed_from_abs w64 (n *ℤ pos (scale / d)) (omega arith)
