-- Perturbations of a table, and two different minimal tables that average to it (Equivariant
-- Perturbation I).
use Rattle.std.specs.Prelude.{ℕ, ℤ, pos, ◌≡◌, ◌≢◌, ◌+◌, ◌*◌, ◌<◌, ◌+ℤ◌, ◌-ℤ◌, ◌*ℤ◌, ◌<ℤ◌, ◌≤ℤ◌}
use Rattle.gj_shape.specs.Extreme.{AverageTo}
use Rattle.gj_shape.specs.Table.{IsMinimalTable}
use Rattle.gj_theory.specs.Steps.{IsAdditiveAtTight}

-- a perturbation of a table of period n with f at the place k: of that period, additive at each
-- tight pair, and 0 at f
pub record IsPerturbation (t : ℕ → ℤ) (n k : ℕ) (p : ℕ → ℤ) : Type 0 where
  pub at_tight : IsAdditiveAtTight t n p
  pub zero_at_place : p k ≡ pos 0

-- u is above 0 and at most each positive slack of the table
pub record IsBelowSlacks (t : ℕ → ℤ) (u : ℕ) : Type 0 where
  pub positive : 0 < u
  pub below : (i j : ℕ) → pos 0 <ℤ (t i +ℤ t j -ℤ t (i + j)) → pos u ≤ℤ (t i +ℤ t j -ℤ t (i + j))

-- the table plus and minus u/(3 size) times the perturbation, over 3 size times the scale
abbrev pub raised : (ℕ → ℤ) → (ℕ → ℤ) → ℕ → ℕ → ℕ → ℤ
raised t p u size i = pos (3 * size) *ℤ t i +ℤ pos u *ℤ p i

abbrev pub lowered : (ℕ → ℤ) → (ℕ → ℤ) → ℕ → ℕ → ℕ → ℤ
lowered t p u size i = pos (3 * size) *ℤ t i -ℤ pos u *ℤ p i

-- a and b are two different minimal tables over c times the scale that average to the table
pub record AreDifferentHalves (t : ℕ → ℤ) (n k s c : ℕ) (a b : ℕ → ℤ) : Type 0 where
  pub factor : 0 < c
  pub first : IsMinimalTable a n k (c * s)
  pub second : IsMinimalTable b n k (c * s)
  pub average : AverageTo c a b t
  pub index : ℕ
  pub different : a index ≢ b index
