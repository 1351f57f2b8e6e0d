-- Sums to which the inequalities of pieces are added, each times its coefficient (own).
use Rattle.std.specs.Prelude.{◌≡◌, ℕ, List, ◌∷◌, ◌++◌, length}
use Rattle.std.specs.List.{AllZip}
use Rattle.gj_frac.specs.declared.Frac.{Frac}
use Rattle.gj_fields.specs.Rational.{Rational, rational, ◌+ℚ◌, ◌-ℚ◌}
use Rattle.gj_problem.specs.declared.pieces.Piece.{Piece}
use Rattle.gj_problem.specs.declared.sums.Sum.{Sum}
use Rattle.gj_problem.specs.declared.combination.Combination.{Combination}
use Rattle.gj_problem.specs.Combinations.{HasParts}
use Rattle.gj_problem.specs.Rows.{dot}
use Rattle.gj_problem.specs.Aggregates.{combined_at}
use Rattle.gj_safe_cut.specs.SafeCuts.{IsCoefficient, IsWideTerm}

-- what these coefficients give at a point, against this right side
abbrev pub surplus_of : List Frac → Frac → List Rational → Rational
surplus_of coefficients right point = dot coefficients point -ℚ rational right

abbrev pub surplus_of_sum : Sum → List Rational → Rational
surplus_of_sum sum = surplus_of sum.coefficients.items sum.right

-- the new surplus is the old one with such coefficients of the pieces
pub record AreAdded (Gives : Piece → Frac → Type 0) (pieces : List Piece) (old new : List Rational →
    Rational) : Type 0 where
  pub coefficients : List Frac
  pub given : AllZip Gives pieces coefficients
  pub adds : (point : List Rational) →
      new point ≡ old point +ℚ combined_at point coefficients pieces

-- the terms of the pieces before some piece have been added to a sum of n columns with this surplus,
-- and then a number does not fit
pub record IsWideAdding (IsValue : Frac → Frac → Type 0) (IsOut : Frac → Type 0) (up down : Frac)
    (pieces : List Piece) (n : ℕ) (old : List Rational → Rational) : Type 0 where
  pub before : List Piece
  pub next : Piece
  pub after : List Piece
  pub place : pieces ≡ before ++ next ∷ after
  pub coefficients : List Frac
  pub given : AllZip (IsCoefficient IsValue up down) before coefficients
  pub sum : List Frac
  pub right : Frac
  pub count : length sum ≡ n
  pub adds : (point : List Rational) →
      dot sum point -ℚ rational right ≡ old point +ℚ combined_at point coefficients before
  pub wide : IsWideTerm IsValue IsOut up down sum right next

-- there is at most one value at each fraction
abbrev pub HasOneValue : (Frac → Frac → Type 0) → Type 0
HasOneValue IsValue = (x y z : Frac) → IsValue x y → IsValue x z → y ≡ z

-- the terms of the pieces have been added to these coefficients, against this right side, and all
-- numbers fit
pub record AreTermsAdded (IsValue : Frac → Frac → Type 0) (IsOut : Frac → Type 0) (up down : Frac)
    (pieces : List Piece) (cs : List Frac) (r : Frac) (ds : List Frac) (s : Frac) : Type 0 where
  pub count : length ds ≡ length cs
  pub added : AreAdded (IsCoefficient IsValue up down) pieces (surplus_of cs r) (surplus_of ds s)
  pub fit : HasOneValue IsValue →
      IsWideAdding IsValue IsOut up down pieces (length cs) (surplus_of cs r) → ⊥

-- so it is with whatever parts the old sum has
abbrev pub AddsTerms : (Frac → Frac → Type 0) → (Frac → Type 0) → Frac → Frac → List Piece →
    Combination → Combination → Type 0
AddsTerms IsValue IsOut up down pieces old new = (cs : List Frac) (r : Frac) → HasParts old cs r →
    (ds : List Frac) × (s : Frac) × HasParts new ds s
    × AreTermsAdded IsValue IsOut up down pieces cs r ds s
