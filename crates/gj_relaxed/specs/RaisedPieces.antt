-- Pieces that are raised to the grid, and the sum to which what they gain is added (own).
use Rattle.std.specs.Prelude.{◌≡◌, ℕ, List, length}
use Rattle.std.specs.List.{AllZip}
use Rattle.gj_frac.specs.declared.Frac.{Frac}
use Rattle.gj_fields.specs.Rational.{Rational, rational, ◌+ℚ◌, ◌*ℚ◌, ◌-ℚ◌}
use Rattle.gj_problem.specs.declared.pieces.Piece.{Piece}
use Rattle.gj_problem.specs.declared.sums.Sum.{Sum}
use Rattle.gj_problem.specs.Problems.{surplus_at}
use Rattle.gj_problem.specs.Aggregates.{pieces_at}
use Rattle.gj_safe_cut.specs.AddedTerms.{surplus_of_sum}
use Rattle.gj_relaxed.specs.RelaxedRows.{IsRaised, AreWideGapTerms}

-- the new sum is the old one with what the piece gains by this entry
pub record IsRise (s : Piece) (entry : Frac) (old new : Sum) : Type 0 where
  pub count : length new.coefficients.items ≡ length old.coefficients.items
  pub adds : (point : List Rational) → surplus_of_sum new point
      ≡ surplus_of_sum old point +ℚ (rational entry -ℚ rational s.entry)
      *ℚ surplus_at point s.inequality

-- the pieces are raised, and the new sum is the old one with what they gain
pub record AreRaised (n : ℕ) (pieces raised : List Piece) (old new : Sum) : Type 0 where
  pub raised_are : AllZip (IsRaised n) pieces raised
  pub count : length new.coefficients.items ≡ length old.coefficients.items
  pub adds : (point : List Rational) → surplus_of_sum new point
      ≡ surplus_of_sum old point +ℚ (pieces_at point raised -ℚ pieces_at point pieces)

-- a number does not fit when they are added to this sum
abbrev pub IsWideRaising : ℕ → List Piece → Sum → Type 0
IsWideRaising n pieces old =
    AreWideGapTerms n (length old.coefficients.items) (surplus_of_sum old) pieces
