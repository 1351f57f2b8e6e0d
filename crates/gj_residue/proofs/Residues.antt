-- Residues of differences.
use Rattle.std.proofs.Common.{◌≡◌, ℕ, ◌+◌, ◌-◌, ◌%◌, ◌<◌, ℤ, pos, ◌+ℤ◌, ◌-ℤ◌, sym, subst, arith}
use Rattle.std.proofs.lemmas.Int.{ints}
use Rattle.gj_shape.specs.Residues.{residue, IsZeroModulo}
use Rattle.gj_theory.proofs.Modulo.{zero_is, zero_sum, residue_same, residue_of_same}

-- of what is taken away as m less its residue
pub residue_taken : (m x p : ℕ) (z : ℤ) → 0 < m → p < m → pos p ≡ residue m z →
    pos ((x + (m - p)) % m) ≡ residue m (pos x -ℤ z)
residue_taken m x p z some low is =
    let apart : IsZeroModulo m (z -ℤ pos p) = subst (λ (y : ℤ). IsZeroModulo m (z -ℤ y)) (sym is)
    (residue_same m z some) in
    let whole : pos (x + (m - p)) ≡ pos x +ℤ pos m -ℤ pos p = omega (arith, ints) in
    residue_of_same m (pos (x + (m - p))) (pos x -ℤ z) some
    (zero_is m (pos (x + (m - p)) -ℤ (pos x -ℤ z)) (pos m +ℤ (z -ℤ pos p)) (omega (arith, ints))
    (zero_sum m (pos m) (z -ℤ pos p) (pos 1, omega (arith, ints)) apart))
