-- What divides all entries of a list (own).
use Rattle.std.specs.Prelude.{ℕ, ℤ, List, All, unsigned_abs}
use Rattle.std.specs.Int.{◌∣◌}

-- d divides the number and all entries, and what divides all of these divides d
pub record IsGreatestDivisor (number : ℕ) (xs : List ℤ) (d : ℕ) : Type 0 where
  pub number_is : d ∣ number
  pub entries_are : All (λ n. d ∣ unsigned_abs n) xs
  pub greatest : (e : ℕ) → e ∣ number → All (λ n. e ∣ unsigned_abs n) xs → e ∣ d
