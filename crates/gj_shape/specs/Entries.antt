-- Lists by their entries (own).
use Rattle.std.specs.Prelude.{ℕ, ℤ, ◌≡◌, ◌<◌, List, length}
use Rattle.gj_shape.specs.FunctionData.{at}

-- the list has the entries t 0, t 1, .., t (n - 1)
pub record HasEntries (t : ℕ → ℤ) (n : ℕ) (xs : List ℤ) : Type 0 where
  pub length_is : length xs ≡ n
  pub entry_is : (i : ℕ) → i < n → at xs i ≡ t i
