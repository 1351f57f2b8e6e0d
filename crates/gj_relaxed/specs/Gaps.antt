-- What a row gains on a grid, added up over one denominator (own).
use Rattle.std.specs.Prelude.{◌≡◌, ℕ, negsuc, false, List, [], ◌∷◌, ◌++◌, length, All}
use Rattle.std.specs.List.{AllZip}
use Rattle.gj_frac.specs.declared.Frac.{Frac}
use Rattle.gj_fields.specs.Rational.{Rational, whole, rational, ◌+ℚ◌, ◌*ℚ◌, ◌-ℚ◌}
use Rattle.gj_problem.specs.declared.combination.Combination.{Combination}
use Rattle.gj_problem.specs.declared.pieces.Piece.{Piece}
use Rattle.gj_problem.specs.declared.row.Row.{Row}
use Rattle.gj_problem.specs.Combinations.{HasParts}
use Rattle.gj_problem.specs.Problems.{surplus_at, AreTermsWithin}
use Rattle.gj_problem.specs.Aggregates.{pieces_at}
use Rattle.gj_safe_cut.specs.AddedTerms.{surplus_of}
use Rattle.gj_relaxed.specs.RelaxedProblems.{IsWideLifted}
use Rattle.gj_relaxed.specs.RelaxedRows.{IsRaised, Moves, IsWideRise, AreWideGapTerms}
use Rattle.gj_relaxed.specs.declared.rows.Gap.{Gap}
use Rattle.gj_relaxed.specs.declared.rows.RightMove.{RightMove}

-- n times each entry fits when it goes up to the grid
abbrev pub CanBeRaised : ℕ → List Piece → Type 0
CanBeRaised n = All (λ s. IsWideLifted n s.entry → ⊥)

-- what the piece gains by this entry has been added to these coefficients, against this right side,
-- and all numbers fit
pub record IsRiseAdded (s : Piece) (entry : Frac) (cs : List Frac) (r : Frac) (ds : List Frac)
    (t : Frac) : Type 0 where
  pub count : length ds ≡ length cs
  pub adds : (point : List Rational) → surplus_of ds t point
      ≡ surplus_of cs r point +ℚ (rational entry -ℚ rational s.entry)
      *ℚ surplus_at point s.inequality
  pub fits : IsWideRise cs r s entry → ⊥

-- so it is with all that the pieces gain when they are raised
pub record AreRisesAdded (n : ℕ) (pieces : List Piece) (cs : List Frac) (r : Frac) (ds : List Frac)
    (t : Frac) : Type 0 where
  pub count : length ds ≡ length cs
  pub raised : List Piece
  pub raised_are : AllZip (IsRaised n) pieces raised
  pub adds : (point : List Rational) → surplus_of ds t point
      ≡ surplus_of cs r point +ℚ (pieces_at point raised -ℚ pieces_at point pieces)
  pub can : CanBeRaised n pieces
  pub fit : AreWideGapTerms n (length cs) (surplus_of cs r) pieces → ⊥

-- whatever parts the old sum has
abbrev pub AddsRise : Piece → Frac → Combination → Combination → Type 0
AddsRise s entry old new = (cs : List Frac) (r : Frac) → HasParts old cs r →
    (ds : List Frac) × (t : Frac) × HasParts new ds t × IsRiseAdded s entry cs r ds t

abbrev pub AddsRises : ℕ → List Piece → Combination → Combination → Type 0
AddsRises n pieces old new = (cs : List Frac) (r : Frac) → HasParts old cs r →
    (ds : List Frac) × (t : Frac) × HasParts new ds t × AreRisesAdded n pieces cs r ds t

-- what the pieces gain, with what the right side loses, and the right side on the grid
pub record IsGapOfRow (move : RightMove) (n columns : ℕ) (pieces : List Piece) (right : Frac)
    (gap : Gap) : Type 0 where
  pub right_is : Moves move n right gap.right
  pub raised : List Piece
  pub raised_are : AllZip (IsRaised n) pieces raised
  pub surplus : (point : List Rational) → surplus_at point gap.inequality
      ≡ (rational right -ℚ rational gap.right) +ℚ (pieces_at point raised -ℚ pieces_at point pieces)
  pub terms : AreTermsWithin 0 columns gap.inequality.entries
  pub can : CanBeRaised n pieces

-- the row with its pieces raised, the gap last with the entry -1, and the right side of the gap
pub record IsRowWithGap (n : ℕ) (row : Row) (gap : Gap) (made : Row) : Type 0 where
  pub raised : List Piece
  pub raised_are : AllZip (IsRaised n) (row.slacks.items ++ row.bounds.items) raised
  pub last : Piece
  pub entry : rational last.entry ≡ whole (negsuc 0)
  pub is_whole : last.is_whole ≡ false
  pub inequality : last.inequality ≡ gap.inequality
  pub pieces : made.slacks.items ++ made.bounds.items ≡ raised ++ last ∷ []
  pub right_is : made.right ≡ gap.right
