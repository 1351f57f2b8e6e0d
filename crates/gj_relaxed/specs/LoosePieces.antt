-- Whole pieces with small entries, taken as continuous ones, so that the grid takes little of them
-- (own).
use Rattle.std.specs.Prelude.{◌≡◌, ◌⊎◌, ◌<◌, ◌*◌, ℕ, pos, true, false, unsigned_abs}
use Rattle.gj_frac.specs.declared.Frac.{Frac}
use Rattle.gj_frac.specs.Fraction.{numerator, denominator}
use Rattle.gj_fields.specs.Rational.{Rational, whole, rational, ◌*ℚ◌}
use Rattle.gj_problem.specs.Rows.{IsMultiple}
use Rattle.gj_problem.specs.declared.pieces.Piece.{Piece}

-- x is below 1/64 in absolute value
abbrev pub IsSmall : Frac → Type 0
IsSmall x = 64 * unsigned_abs (numerator x) < unsigned_abs (denominator x)

-- a whole piece with a small entry as a continuous one: n times the entry, and 1/n of the inequality
pub record IsLoose (n : ℕ) (s s' : Piece) : Type 0 where
  pub was_whole : s.is_whole ≡ true
  pub was_small : IsSmall s.entry
  pub is_whole : s'.is_whole ≡ false
  pub entry : rational s'.entry ≡ whole (pos n) *ℚ rational s.entry
  pub part : Rational
  pub part_is : whole (pos n) *ℚ part ≡ whole (pos 1)
  pub inequality : IsMultiple part s.inequality.entries s.inequality.right s'.inequality

-- the piece is taken so, or it stays as it is if it cannot be
abbrev pub IsLoosened : ℕ → Piece → Piece → Type 0
IsLoosened n s s' = IsLoose n s s' ⊎ (((t : Piece) → IsLoose n s t → ⊥) × (s' ≡ s))
