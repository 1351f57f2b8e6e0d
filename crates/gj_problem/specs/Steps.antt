-- What one step adds to the pieces of a row, where columns are turned, and when a number does not
-- fit (own).
use Rattle.std.specs.Prelude.{◌≡◌, ◌≤◌, ◌⊎◌, ℕ, Bool, List, [], ◌∷◌, ◌++◌, length, slice_index_or}
use Rattle.gj_frac.specs.declared.Frac.{Frac}
use Rattle.gj_frac.specs.Fraction.{SameValue, fraction_of, product_of}
use Rattle.gj_frac.specs.Fits.{FitsProduct, FitsSum}
use Rattle.gj_fields.specs.Rational.{Rational, rational, ◌+ℚ◌, ◌*ℚ◌}
use Rattle.gj_problem.specs.declared.problem.Entry.{Entry}
use Rattle.gj_problem.specs.declared.pieces.Piece.{Piece}
use Rattle.gj_problem.specs.declared.bounds.Turned.{Turned}
use Rattle.gj_problem.specs.declared.bounds.Turned.TheVariants.{Bounds, Free}
use Rattle.gj_problem.specs.Problems.{sum_at}
use Rattle.gj_problem.specs.Rows.{dot}
use Rattle.gj_problem.specs.declared.bounds.Held.{Held}
use Rattle.gj_problem.specs.declared.problem.Column.{Column}
use Rattle.gj_problem.specs.Aggregates.{pieces_at, AreMadeOf, IsLeftOut, IsTurned, IsFirstFreeOf}

-- the item is passed over, or one more thing is made of it
abbrev pub IsMadeNext : {B : Type 0} → Type 0 → (B → Type 0) → List B → List B → Type 0
IsMadeNext {B} Passed Makes old new = (Passed × (new ≡ old))
    ⊎ ((Passed → ⊥) × (s : B) × Makes s × (new ≡ old ++ s ∷ []))

-- a column with its coefficient
abbrev pub held_by : ℕ → Column → Frac → Bool → Held
held_by index column coefficient up =
    record { index = index; column = column; coefficient = coefficient; at_upper = up }

-- the columns are turned or left out, and the right side is the sum's with the bounds put in
pub record AreTurned (hs : List Held) (against : Frac) (pieces : List Piece) (right : Frac) :
    Type 0 where
  pub made : AreMadeOf IsLeftOut IsTurned hs pieces
  pub right_is : rational right ≡ rational against +ℚ pieces_at [] pieces

abbrev pub AreTurnedOrFree : List Held → Frac → Turned → Type 0
AreTurnedOrFree hs against (Bounds made) = AreTurned hs against made.pieces.items made.right
AreTurnedOrFree hs against (Free j) = IsFirstFreeOf hs j

-- ---- when a number does not fit

-- the product, or its sum with x, does not fit
abbrev pub IsWideAt : Frac → Frac → Frac → Type 0
IsWideAt x factor value = (FitsProduct factor value → ⊥)
    ⊎ ((z : Frac) × SameValue (fraction_of z) (product_of (fraction_of factor) (fraction_of value))
    × (FitsSum x z → ⊥))

-- the column of the entry has no coefficient, or its coefficient with the multiple of the entry
-- added does not fit
abbrev pub IsWideEntry : List Frac → Frac → Entry → Type 0
IsWideEntry coefficients factor e = (length coefficients ≤ e.column)
    ⊎ ((x : Frac) × (slice_index_or coefficients e.column x ≡ x) × IsWideAt x factor e.value)

-- so it is at some entry, when the multiples of those before it have been added
pub record IsWideWithin (coefficients : List Frac) (factor : Frac) (entries : List Entry) :
    Type 0 where
  pub before : List Entry
  pub entry : Entry
  pub after : List Entry
  pub place : entries ≡ before ++ entry ∷ after
  pub reached : List Frac
  pub count : length reached ≡ length coefficients
  pub adds : (point : List Rational) →
      dot reached point ≡ dot coefficients point +ℚ rational factor *ℚ sum_at point before
  pub wide : IsWideEntry reached factor entry
