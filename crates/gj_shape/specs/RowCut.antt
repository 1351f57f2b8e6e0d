-- Rows of a mixed-integer program, their solutions and cuts (Gomory and Johnson 1972).
use Rattle.std.specs.Prelude.{ℕ, ℤ, pos, ◌≡◌, ◌+ℤ◌, ◌*ℤ◌, ◌≤ℤ◌, List, ◌∷◌, map, length}
use Rattle.gj_frac.specs.declared.Frac.{Frac}
use Rattle.gj_shape.specs.Given.{IsLeastCommonDenominator, numerator_over}
use Rattle.gj_shape.specs.SlopeRows.{sum_of_products}

-- the basic variable, a whole number, and the others, whole numbers not below 0, solve `basic + sum
-- entries others = right`
pub record IsRowSolution (entries : List Frac) (right : Frac) (basic : ℤ) (others : List ℕ) :
    Type 0 where
  pub count : length others ≡ length entries
  pub c : ℕ
  pub least : IsLeastCommonDenominator (right ∷ entries) c
  pub solves : pos c *ℤ basic +ℤ sum_of_products (map (numerator_over c) entries) (map pos others)
      ≡ numerator_over c right

-- at each solution of the row the sum of the cut's coefficients times the others is at least 1
abbrev pub CutHolds : List Frac → Frac → List Frac → Type 0
CutHolds entries right coefficients =
    (basic : ℤ) (others : List ℕ) (g : ℕ) → IsRowSolution entries right basic others →
    IsLeastCommonDenominator coefficients g →
    pos g ≤ℤ sum_of_products (map (numerator_over g) coefficients) (map pos others)
