-- Rows whose entries are taken to the grid of all k/n. What a row gains by that is the surplus of one
-- more inequality, so that it stays an equation (own).
use Rattle.std.specs.Prelude.{◌≡◌, ◌≢◌, ◌⊎◌, ◌<◌, ◌^◌, ℕ, pos, negsuc, false, List, [], ◌∷◌, ◌++◌, length}
use Rattle.std.specs.List.{AllZip}
use Rattle.gj_frac.specs.declared.Frac.{Frac}
use Rattle.gj_frac.specs.Fraction.{numerator}
use Rattle.gj_frac.specs.Fits.{FitsDifference}
use Rattle.gj_fields.specs.Rational.{Rational, whole, rational, ◌+ℚ◌, neg_ℚ, ◌-ℚ◌}
use Rattle.gj_problem.specs.declared.pieces.Piece.{Piece}
use Rattle.gj_problem.specs.Problems.{surplus_at, AreTermsWithin}
use Rattle.gj_problem.specs.Rows.{dot}
use Rattle.gj_problem.specs.Aggregates.{pieces_at}
use Rattle.gj_problem.specs.Moves.{IsBelowOnGrid}
use Rattle.gj_problem.specs.RoundedCuts.{IsWideTimes}
use Rattle.gj_problem.specs.Steps.{IsWideAt, IsWideWithin}
use Rattle.gj_relaxed.specs.RelaxedProblems.{IsWideLifted}
use Rattle.gj_relaxed.specs.declared.rows.RightMove.{RightMove}
use Rattle.gj_relaxed.specs.declared.rows.RightMove.TheVariants.{Down, Kept}

-- the entry goes up to the grid
pub record IsRaised (n : ℕ) (s s' : Piece) : Type 0 where
  pub entry : IsBelowOnGrid n (neg_ℚ (rational s.entry)) (neg_ℚ (rational s'.entry))
  pub inequality : s'.inequality ≡ s.inequality
  pub is_whole : s'.is_whole ≡ s.is_whole

-- what the raised pieces are above the pieces, and the right side above the new one, in n columns;
-- it stands in the row with the entry -1
pub record IsGap (n : ℕ) (pieces raised : List Piece) (right right' : Frac) (s : Piece) :
    Type 0 where
  pub entry : rational s.entry ≡ whole (negsuc 0)
  pub is_whole : s.is_whole ≡ false
  pub surplus : (point : List Rational) → surplus_at point s.inequality
      ≡ (rational right -ℚ rational right') +ℚ (pieces_at point raised -ℚ pieces_at point pieces)
  pub terms : AreTermsWithin 0 n s.inequality.entries

-- the right side goes down to the grid, or not at all
abbrev pub Moves : RightMove → ℕ → Frac → Frac → Type 0
Moves Down n right right' = IsBelowOnGrid n (rational right) (rational right')
Moves Kept n right right' = right' ≡ right

-- the row on the grid
pub record IsRelaxedRow (move : RightMove) (n columns : ℕ) (pieces : List Piece) (right : Frac)
    (relaxed : List Piece) (right' : Frac) : Type 0 where
  pub raised : List Piece
  pub raised_are : AllZip (IsRaised n) pieces raised
  pub right_is : Moves move n right right'
  pub gap : Piece
  pub gap_is : IsGap columns pieces raised right right' gap
  pub relaxed_are : relaxed ≡ raised ++ gap ∷ []

-- ---- when a number does not fit

-- how far the entry is raised does not fit, or that, if it is not 0, times the inequality cannot be
-- added
abbrev pub IsWideRise : List Frac → Frac → Piece → Frac → Type 0
IsWideRise sum right s entry = (FitsDifference entry s.entry → ⊥)
    ⊎ ((k : Frac) × (rational k ≡ rational entry -ℚ rational s.entry) × (numerator k ≢ pos 0)
    × (IsWideWithin sum k s.inequality.entries ⊎ IsWideAt right k s.inequality.right))

-- so it is with the piece, or its entry cannot be raised
abbrev pub IsWideGapTerm : ℕ → List Frac → Frac → Piece → Type 0
IsWideGapTerm n sum right s = IsWideLifted n s.entry
    ⊎ ((s' : Piece) × IsRaised n s s' × IsWideRise sum right s s'.entry)

-- so it is at some piece, when those before it have been raised, and what they gain has been added to
-- what was there
pub record AreWideGapTerms (n columns : ℕ) (there : List Rational → Rational)
    (pieces : List Piece) : Type 0 where
  pub before : List Piece
  pub next : Piece
  pub after : List Piece
  pub place : pieces ≡ before ++ next ∷ after
  pub raised : List Piece
  pub raised_are : AllZip (IsRaised n) before raised
  pub sum : List Frac
  pub right : Frac
  pub count : length sum ≡ columns
  pub adds : (point : List Rational) → dot sum point -ℚ rational right
      ≡ there point +ℚ (pieces_at point raised -ℚ pieces_at point before)
  pub wide : IsWideGapTerm n sum right next

-- n times the right side does not fit, if it goes down
abbrev pub IsWideRight : RightMove → ℕ → Frac → Type 0
IsWideRight Down n right = IsWideTimes n right
IsWideRight Kept n right = ⊥

-- a number of the row on the grid does not fit, or there are more than 2^32 columns
abbrev pub IsWideRelaxedRow : RightMove → ℕ → ℕ → List Piece → Frac → Type 0
IsWideRelaxedRow move n columns pieces right = IsWideRight move n right
    ⊎ ((right' : Frac) × Moves move n right right'
    × ((FitsDifference right' right → ⊥)
    ⊎ (AreWideGapTerms n columns (λ point. rational right -ℚ rational right') pieces
    ⊎ (2 ^ 32 < columns))))
