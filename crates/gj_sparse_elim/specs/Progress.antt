-- What is known of the row that the steps in 64 bits come to.
use Rattle.std.specs.Prelude.{ℕ, ℤ, pos, ◌≡◌, ◌<◌, ◌^◌, unsigned_abs, List, None, Some, All}
use Rattle.gj_shape.specs.Elimination.{at_column}
use Rattle.gj_frac.specs.Fraction.{Fits}
use Rattle.gj_elim.specs.Progress.{IsFreeColumn}
use Rattle.gj_elim.specs.declared.log.LogRow.{LogRow}
use Rattle.gj_elim.specs.declared.lazy.Reached.{Reached}
use Rattle.gj_elim.specs.declared.lazy.Reached.TheVariants.{End, Column}

-- the row is 0 before the column, and its numbers are small
pub record IsSmallFrom (c : ℕ) (row : List ℤ) : Type 0 where
  pub zero_before : (k : ℕ) → k < c → at_column row k ≡ pos 0
  pub small : (k : ℕ) → unsigned_abs (at_column row k) < 2 ^ 63

-- the row that is reached fits, and a column with something left of it is free
abbrev pub IsReachedWithin : ℕ → List LogRow → Reached → List ℤ → List ℤ → Type 0
IsReachedWithin n log (End None) row exact = All Fits row
IsReachedWithin n log (End (Some c)) row exact = IsSmallFrom c row × IsFreeColumn n log c
IsReachedWithin n log (Column c) row exact = All Fits exact
