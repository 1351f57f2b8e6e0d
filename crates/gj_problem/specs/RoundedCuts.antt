-- Inequalities rounded to the grid of all k/n, so that they still hold (own).
use Rattle.std.specs.Prelude.{◌≡◌, ◌⊎◌, ℕ, pos, List, [], ◌∷◌, ◌++◌, All, Option, Some, None, map, slice_index_or}
use Rattle.gj_fields.specs.Rational.{Rational, whole, rational, ◌+ℚ◌, neg_ℚ, ◌-ℚ◌, ◌≤ℚ◌}
use Rattle.gj_frac.specs.declared.Frac.{Frac}
use Rattle.gj_frac.specs.Fits.{FitsProduct, FitsSum}
use Rattle.gj_frac.specs.Fraction.{numerator}
use Rattle.gj_problem.specs.declared.problem.Entry.{Entry}
use Rattle.gj_problem.specs.declared.problem.Inequality.{Inequality}
use Rattle.gj_problem.specs.declared.problem.Problem.{Problem}
use Rattle.gj_problem.specs.Problems.{Holds, HasTerms}
use Rattle.gj_problem.specs.Moves.{IsMovedBy, IsGiven, IsGridValue, IsBelowOnGrid, IsGridCoefficient}
use Rattle.gj_problem.specs.Aggregates.{AreMadeOf}
use Rattle.gj_problem.specs.declared.rounding.RoundedCut.{RoundedCut}
use Rattle.gj_problem.specs.declared.rounding.RoundedCut.TheVariants.{Cut, Free, Wide}

-- the bounds of a column; one that is not there has none
abbrev pub lower_of : Problem → ℕ → Option Frac
lower_of p j = slice_index_or (map (λ c. c.lower) p.columns) j None

abbrev pub upper_of : Problem → ℕ → Option Frac
upper_of p j = slice_index_or (map (λ c. c.upper) p.columns) j None

-- ---- entries that are moved

-- each entry is moved, as Moves says it of the bounds of its column and of its coefficients
abbrev pub AreMovedAs : (Option Frac → Option Frac → Rational → Rational → Rational → Type 0) →
    Problem → List Entry → List Entry → List Rational → Type 0
AreMovedAs Moves p [] [] [] = Unit {0}
AreMovedAs Moves p (e ∷ es) (e' ∷ es') (shift ∷ shifts) = (e'.column ≡ e.column)
    × Moves (lower_of p e.column) (upper_of p e.column) (rational e.value) (rational e'.value) shift
    × AreMovedAs Moves p es es' shifts
AreMovedAs Moves p es es' shifts = ⊥

abbrev pub total_of : List Rational → Rational
total_of [] = whole (pos 0)
total_of (x ∷ xs) = x +ℚ total_of xs

-- by the bounds as they are given
abbrev pub IsChanged : Option Frac → Option Frac → Rational → Rational → Rational → Type 0
IsChanged lower upper x y shift = IsMovedBy (IsGiven lower) (IsGiven upper) x y shift

-- the inequality with entries moved so, and a right side that is at most the old one and all shifts
pub record IsRounded (p : Problem) (q rounded : Inequality) : Type 0 where
  pub shifts : List Rational
  pub changed : AreMovedAs IsChanged p q.entries rounded.entries shifts
  pub right : rational rounded.right ≤ℚ (rational q.right +ℚ total_of shifts)

-- ---- to a grid

-- moved so, to a coefficient on the grid
abbrev pub IsMoved : ℕ → Option Frac → Option Frac → Rational → Rational → Rational → Type 0
IsMoved n lower upper x y shift = IsGridCoefficient n lower upper x y
    × IsChanged lower upper x y shift

abbrev pub AreMoved : Problem → ℕ → List Entry → List Entry → List Rational → Type 0
AreMoved p n es es' shifts = AreMovedAs (IsMoved n) p es es' shifts

-- the entry is 0
abbrev pub IsZero : Entry → Type 0
IsZero e = numerator e.value ≡ pos 0

-- these are the entries that are not 0
abbrev pub AreSomeOf : List Entry → List Entry → Type 0
AreSomeOf = AreMadeOf IsZero (λ e f. f ≡ e)

-- what is 0 once it is moved is left out; the right side is rounded down, once the shifts are added
pub record IsRoundedCut (p : Problem) (n : ℕ) (q rounded : Inequality) : Type 0 where
  pub entries : List Entry
  pub shifts : List Rational
  pub moved : AreMoved p n q.entries entries shifts
  pub some : AreSomeOf entries rounded.entries
  pub right : IsBelowOnGrid n (rational q.right +ℚ total_of shifts) (rational rounded.right)

-- the entry is off the grid, in a column that has no bound
pub record IsFreeEntry (p : Problem) (n : ℕ) (e : Entry) : Type 0 where
  pub no_lower : lower_of p e.column ≡ None
  pub no_upper : upper_of p e.column ≡ None
  pub off_grid : IsGridValue n (rational e.value) → ⊥

-- j is the column of the first such entry
pub record IsFirstFreeEntry (p : Problem) (n : ℕ) (entries : List Entry) (j : ℕ) : Type 0 where
  pub before : List Entry
  pub entry : Entry
  pub after : List Entry
  pub place : entries ≡ before ++ entry ∷ after
  pub none_before : All (λ e. IsFreeEntry p n e → ⊥) before
  pub free : IsFreeEntry p n entry
  pub column : j ≡ entry.column

-- ---- when a number does not fit

-- n times x does not fit
abbrev pub IsWideTimes : ℕ → Frac → Type 0
IsWideTimes n x = (m : Frac) × (rational m ≡ whole (pos n)) × (FitsProduct m x → ⊥)

-- the change from x to y, or its product with the bound, does not fit
abbrev pub IsWideChange : Frac → Frac → Frac → Type 0
IsWideChange x y bound = (m : Frac) × (rational m ≡ neg_ℚ (rational x))
    × ((FitsSum y m → ⊥)
    ⊎ ((d : Frac) × (rational d ≡ rational y -ℚ rational x) × (FitsProduct d bound → ⊥)))

-- to round x by these bounds takes a number that does not fit
abbrev pub IsWideMove : ℕ → Option Frac → Option Frac → Frac → Type 0
IsWideMove n (Some l) upper x = ((m : Frac) × (rational m ≡ neg_ℚ (rational x)) × IsWideTimes n m)
    ⊎ ((y : Frac) × IsBelowOnGrid n (neg_ℚ (rational x)) (neg_ℚ (rational y)) × IsWideChange x y l)
IsWideMove n None (Some u) x = IsWideTimes n x
    ⊎ ((y : Frac) × IsBelowOnGrid n (rational x) (rational y) × IsWideChange x y u)
IsWideMove n None None x = IsWideTimes n x

-- the entry has such a move, or the right side with its shift does not fit
abbrev pub IsWideEntryAt : Problem → ℕ → Frac → Entry → Type 0
IsWideEntryAt p n right e = IsWideMove n (lower_of p e.column) (upper_of p e.column) e.value
    ⊎ ((y : Frac) × (shift : Frac) × IsMoved n (lower_of p e.column) (upper_of p e.column)
    (rational e.value) (rational y) (rational shift)
    × (FitsSum right shift → ⊥))

-- so it is at some entry, when those before it have been moved, or at the right side once all are
pub record IsWideRounding (p : Problem) (n : ℕ) (q : Inequality) : Type 0 where
  pub before : List Entry
  pub after : List Entry
  pub place : q.entries ≡ before ++ after
  pub moved : List Entry
  pub shifts : List Rational
  pub moved_before : AreMoved p n before moved shifts
  pub right : Frac
  pub right_is : rational right ≡ rational q.right +ℚ total_of shifts
  pub wide : ((after ≡ []) × IsWideTimes n right)
      ⊎ ((e : Entry) × (rest : List Entry) × (after ≡ e ∷ rest) × IsWideEntryAt p n right e)

-- the inequality rounded, its first free entry, or a number that does not fit
abbrev pub IsRoundedOf : Problem → ℕ → Inequality → RoundedCut → Type 0
IsRoundedOf p n q (Cut rounded) = IsRoundedCut p n q rounded
IsRoundedOf p n q (Free j) = IsFirstFreeEntry p n q.entries j
IsRoundedOf p n q Wide = IsWideRounding p n q

-- the answer is `Wide` if a number does not fit
abbrev pub TellsWideRounding : Problem → ℕ → Inequality → RoundedCut → Type 0
TellsWideRounding p n q cut = IsWideRounding p n q → cut ≡ Wide

-- what is rounded, if it is, holds at all feasible points
abbrev pub RoundedHolds : Problem → RoundedCut → Type 0
RoundedHolds p (Cut rounded) = Holds p rounded
RoundedHolds p (Free j) = Unit {0}
RoundedHolds p Wide = Unit {0}

-- its entries, if it is, are terms
abbrev pub RoundedHasTerms : Problem → RoundedCut → Type 0
RoundedHasTerms p (Cut rounded) = HasTerms p rounded
RoundedHasTerms p (Free j) = Unit {0}
RoundedHasTerms p Wide = Unit {0}
