-- The limits of functions, of halves and of the numbers in rows (own).
use Rattle.std.specs.Prelude.{ℕ, ℤ, ◌<◌, ◌*◌, ◌^◌, unsigned_abs}
use Rattle.gj_frac.specs.declared.Frac.{Frac}
use Rattle.gj_frac.specs.Fraction.{IsAtMost, HasDenominatorBelow}

-- the greatest order of a function
abbrev pub greatest_order : ℕ
greatest_order = 1000

-- the greatest value or limit of a function, in absolute value
abbrev pub greatest_value : ℕ
greatest_value = 2 ^ 20

-- the greatest number in a row, in absolute value
abbrev pub greatest_number : ℕ
greatest_number = 2 ^ 31

-- what each common denominator is below, of the values and limits of a function and of the numbers
-- in a row
abbrev pub denominator_bound : ℕ
denominator_bound = 2 ^ 31

-- a value or limit of a function times the common denominator: at most 2^20 times one below 2^31 in
-- absolute value
abbrev pub IsNumerator : ℤ → Type 0
IsNumerator n = unsigned_abs n < 2 ^ 51

-- the greatest order of halves, and their greatest scale
abbrev pub greatest_halves_order : ℕ
greatest_halves_order = 4 * greatest_order

abbrev pub greatest_halves_scale : ℕ
greatest_halves_scale = 2 ^ 124

-- at most the greatest number in a row, in absolute value
abbrev pub IsSmallNumber : Frac → Type 0
IsSmallNumber x = IsAtMost greatest_number x

-- x alone can stand in a row
pub record IsRowNumber (x : Frac) : Type 0 where
  pub small : IsSmallNumber x
  pub fine : HasDenominatorBelow denominator_bound x
