-- Rows of fractions with whole and continuous columns, their solutions and cuts at all real amounts
-- (Gomory and Johnson 1972).
use Rattle.std.specs.Prelude.{ℕ, ℤ, ◌≡◌, List, [], ◌∷◌, map, length, All}
use Rattle.gj_frac.specs.declared.Frac.{Frac}
use Rattle.gj_frac.specs.Fraction.{numerator, denominator}
use Rattle.gj_fields.specs.Fields.{OrderedField, AtMost, number, whole}

-- the fraction as a number of the field
abbrev pub number_of : {R : Type 0} → OrderedField R → Frac → R
number_of K x = K.times (whole K (numerator x)) (K.inverse (whole K (denominator x)))

-- the sum of the products of fractions and numbers
abbrev pub sum_of_products : {R : Type 0} → OrderedField R → List Frac → List R → R
sum_of_products K [] ys = K.zero
sum_of_products K (x ∷ xs) [] = K.zero
sum_of_products K (x ∷ xs) (y ∷ ys) =
    K.plus (K.times (number_of K x) y) (sum_of_products K xs ys)

-- a whole number for the basic variable, whole numbers not below 0 for the others, and numbers not
-- below 0 for the continuous ones, with `basic + sum entries others + sum columns amounts = right`
pub record IsRealSolution {R : Type 0} (K : OrderedField R) (entries columns : List Frac)
    (right : Frac) (basic : ℤ) (others : List ℕ) (amounts : List R) : Type 0 where
  pub count : length others ≡ length entries
  pub column_count : length amounts ≡ length columns
  pub nonnegative : All (AtMost K K.zero) amounts
  pub solves : K.plus (whole K basic)
      (K.plus (sum_of_products K entries (map (number K) others))
      (sum_of_products K columns amounts))
      ≡ number_of K right

-- at each solution of the row the sum of the coefficients times the others and of the weights times
-- the continuous variables is at least 1
abbrev pub RealCutHolds : {R : Type 0} → OrderedField R → List Frac → List Frac → Frac →
    List Frac → List Frac → Type 0
RealCutHolds {R} K entries columns right coefficients weights =
    (basic : ℤ) (others : List ℕ) (amounts : List R) →
    IsRealSolution K entries columns right basic others amounts →
    AtMost K K.one
    (K.plus (sum_of_products K coefficients (map (number K) others))
    (sum_of_products K weights amounts))

-- y is the value of v at x, as numbers
abbrev pub IsRealValue : {R : Type 0} → OrderedField R → (R → R) → Frac → Frac → Type 0
IsRealValue K v x y = number_of K y ≡ v (number_of K x)
