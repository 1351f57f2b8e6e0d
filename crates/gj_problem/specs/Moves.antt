-- Coefficients moved by the bounds of their columns, so that the inequality still holds, and numbers
-- on the grid of all k/n (own).
use Rattle.std.specs.Prelude.{◌≡◌, ◌⊎◌, ℕ, zero, suc, pos, List, [], ◌∷◌, Option, Some, None}
use Rattle.gj_frac.specs.declared.Frac.{Frac}
use Rattle.gj_fields.specs.Rational.{Rational, whole, rational, ◌+ℚ◌, ◌*ℚ◌, neg_ℚ, ◌-ℚ◌, ◌≤ℚ◌, IsWholeNumber}
use Rattle.gj_problem.specs.declared.problem.Column.{Column}
use Rattle.gj_problem.specs.Aggregates.{IsLowerBound, IsUpperBound}

-- the coefficient stays
pub record IsUnmoved (x y shift : Rational) : Type 0 where
  pub same : y ≡ x
  pub shift_is : shift ≡ whole (pos 0)

-- the coefficient x of a column goes up to y; the shift of the right side is the change times a
-- lower bound of the column
pub record IsMovedUp (IsLower : Frac → Type 0) (x y shift : Rational) : Type 0 where
  pub bound : Frac
  pub bound_is : IsLower bound
  pub greater : x ≤ℚ y
  pub shift_is : shift ≡ (y -ℚ x) *ℚ rational bound

-- it goes down to y; the shift is the change times an upper bound
pub record IsMovedDown (IsUpper : Frac → Type 0) (x y shift : Rational) : Type 0 where
  pub bound : Frac
  pub bound_is : IsUpper bound
  pub lesser : y ≤ℚ x
  pub shift_is : shift ≡ (y -ℚ x) *ℚ rational bound

abbrev pub IsMovedBy : (Frac → Type 0) → (Frac → Type 0) → Rational → Rational → Rational → Type 0
IsMovedBy IsLower IsUpper x y shift = IsUnmoved x y shift
    ⊎ (IsMovedUp IsLower x y shift ⊎ IsMovedDown IsUpper x y shift)

-- ---- bounds

-- the bounds as they are given
abbrev pub IsGiven : Option Frac → Frac → Type 0
IsGiven bound b = bound ≡ Some b

-- those of a whole column are rounded into its range
abbrev pub HasLower : Column → Frac → Type 0
HasLower c b = (l : Frac) × (c.lower ≡ Some l) × IsLowerBound c.is_whole l b

abbrev pub HasUpper : Column → Frac → Type 0
HasUpper c b = (u : Frac) × (c.upper ≡ Some u) × IsUpperBound c.is_whole u b

-- in each column the coefficient is moved, and the shifts add up to the total
abbrev pub AreMovedBy : List Column → (ℕ → Rational) → (ℕ → Rational) → Rational → Type 0
AreMovedBy [] xs ys total = total ≡ whole (pos 0)
AreMovedBy (c ∷ columns) xs ys total =
    (shift : Rational) × (rest : Rational) × IsMovedBy (HasLower c) (HasUpper c) (xs zero)
    (ys zero) shift
    × AreMovedBy columns (λ j. xs (suc j)) (λ j. ys (suc j)) rest × (total ≡ shift +ℚ rest)

-- ---- to a grid

-- x is k/n for some whole number k
abbrev pub IsGridValue : ℕ → Rational → Type 0
IsGridValue n x = IsWholeNumber (whole (pos n) *ℚ x)

-- y is the greatest such number that is at most x
pub record IsBelowOnGrid (n : ℕ) (x y : Rational) : Type 0 where
  pub on_grid : IsGridValue n y
  pub at_most : y ≤ℚ x
  pub greatest : (z : Rational) → IsGridValue n z → z ≤ℚ x → z ≤ℚ y

-- the coefficient to which x goes: the least k/n that is at least x if there is a lower bound, the
-- greatest that is at most x if there is only an upper one, and x itself, on the grid, if there is
-- none
abbrev pub IsGridCoefficient : ℕ → Option Frac → Option Frac → Rational → Rational → Type 0
IsGridCoefficient n (Some l) upper x y = IsBelowOnGrid n (neg_ℚ x) (neg_ℚ y)
IsGridCoefficient n None (Some u) x y = IsBelowOnGrid n x y
IsGridCoefficient n None None x y = IsGridValue n x × (y ≡ x)
