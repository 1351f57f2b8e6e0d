-- When a number of the row of a problem does not fit (own).
use Rattle.std.specs.Prelude.{◌≡◌, ◌≢◌, ◌⊎◌, ◌↔◌, ℕ, ◌≤◌, ◌^◌, pos, Bool, true, List, ◌∷◌, ◌++◌, map, All, IsTrue}
use Rattle.gj_frac.specs.declared.Frac.{Frac}
use Rattle.gj_frac.specs.Fraction.{numerator}
use Rattle.gj_frac.specs.Fits.{FitsProduct, FitsQuotient}
use Rattle.gj_shape.specs.Given.{IsLeastCommonDenominator}
use Rattle.gj_fields.specs.Rational.{whole, rational, neg_ℚ}
use Rattle.gj_problem.specs.declared.problem.Entry.{Entry}
use Rattle.gj_problem.specs.declared.problem.Problem.{Problem}
use Rattle.gj_problem.specs.declared.pieces.Piece.{Piece}
use Rattle.gj_problem.specs.declared.bounds.Held.{Held}
use Rattle.gj_problem.specs.Aggregates.{Weighted, weighted, IsAggregate, HasWholeColumns, HasNoSlack, IsScale, signed, held, IsLeftOut, IsTurned}
use Rattle.gj_problem.specs.Steps.{AreTurned, IsWideAt, IsWideWithin}

-- ---- slacks

-- the right side of a constraint and its coefficients
abbrev pub numbers_of : Frac → List Entry → List Frac
numbers_of right entries = right ∷ map (λ e. e.value) entries

-- the columns are whole, and the least common denominator of the numbers is 2^127 or more
abbrev pub IsWideScale : Frac → List Entry → Bool → Type 0
IsWideScale right entries is_whole =
    (is_whole ≡ true) × ((n : ℕ) → IsLeastCommonDenominator (numbers_of right entries) n →
    2 ^ 127 ≤ n)

-- the factor times some number of the constraint does not fit
abbrev pub IsWideMultiple : Frac → Frac → List Entry → Type 0
IsWideMultiple factor right entries = All (FitsProduct factor) (numbers_of right entries) → ⊥

-- the entry of the slack, or a number of the constraint times the scale, does not fit
pub record IsWideScaled (w : Weighted) (is_whole : Bool) : Type 0 where
  pub scale : ℕ
  pub scale_is : IsScale w.constraint.right w.constraint.entries is_whole scale
  pub factor : Frac
  pub factor_is : rational factor ≡ whole (signed w.constraint.sense scale)
  pub turned : Frac
  pub turned_is : rational turned ≡ neg_ℚ (rational w.multiplier)
  pub wide : (FitsQuotient turned factor → ⊥)
      ⊎ IsWideMultiple factor w.constraint.right w.constraint.entries

-- a number of the slack of the constraint does not fit
abbrev pub IsWideSlack : Problem → Weighted → Type 0
IsWideSlack p w = (is_whole : Bool) × (IsTrue is_whole ↔ HasWholeColumns p w.constraint)
    × (IsWideScale w.constraint.right w.constraint.entries is_whole ⊎ IsWideScaled w is_whole)

-- ---- the sum

-- a number of the sum with the constraint added, or of its slack, does not fit
pub record IsWideNext (p : Problem) (coefficients : List Frac) (against : Frac) (w : Weighted) :
    Type 0 where
  pub named : numerator w.multiplier ≢ pos 0
  pub wide : (IsWideWithin coefficients w.multiplier w.constraint.entries
      ⊎ IsWideAt against w.multiplier w.constraint.right)
      ⊎ ((HasNoSlack w → ⊥) × IsWideSlack p w)

-- so it is with some constraint, when those before it have been added
pub record IsWideSum (p : Problem) (ws : List Weighted) : Type 0 where
  pub before : List Weighted
  pub next : Weighted
  pub after : List Weighted
  pub place : ws ≡ before ++ next ∷ after
  pub coefficients : List Frac
  pub against : Frac
  pub sum : IsAggregate p before coefficients against
  pub wide : IsWideNext p coefficients against next

-- ---- bounds

-- the column is not left out, and its entry times its bound, or the right side less that, does not
-- fit
pub record IsWideTurn (h : Held) (right : Frac) : Type 0 where
  pub kept : IsLeftOut h → ⊥
  pub piece : Piece
  pub turned : IsTurned h piece
  pub against : Frac
  pub against_is : rational against ≡ neg_ℚ (rational piece.entry)
  pub wide : IsWideAt right against piece.inequality.right

-- so it is with some column, when those before it have been turned, or its index is 2^32 or more
pub record AreWideTurns (hs : List Held) (against : Frac) : Type 0 where
  pub before : List Held
  pub next : Held
  pub after : List Held
  pub place : hs ≡ before ++ next ∷ after
  pub pieces : List Piece
  pub right : Frac
  pub turned : AreTurned before against pieces right
  pub wide : (2 ^ 32 ≤ next.index) ⊎ IsWideTurn next right

-- ---- the row

-- a number of the row of the multipliers does not fit
abbrev pub IsWideRow : Problem → List Frac → List Bool → Type 0
IsWideRow p multipliers at_upper = IsWideSum p (weighted multipliers p.constraints)
    ⊎ ((coefficients : List Frac) × (against : Frac)
    × IsAggregate p (weighted multipliers p.constraints) coefficients against
    × AreWideTurns (held 0 p.columns coefficients at_upper) against)
