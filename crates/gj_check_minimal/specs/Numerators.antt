-- What is asked of the numerators of a function, by their lists (own).
use Rattle.std.specs.Prelude.{ℕ, ℤ, pos, ◌≡◌, ◌+◌, ◌-◌, ◌<◌, ◌≤◌, ◌+ℤ◌, ◌≤ℤ◌, List, length}
use Rattle.gj_shape.specs.FunctionData.{at}
use Rattle.gj_shape.specs.Limits.{IsNumerator}

-- none of them is negative
abbrev pub HasNoNegative : List ℤ → Type 0
HasNoNegative xs = (i : ℕ) → i < length xs → pos 0 ≤ℤ at xs i

-- each has 51 bits
abbrev pub AreSmall : List ℤ → Type 0
AreSmall xs = (i : ℕ) → IsNumerator (at xs i)

-- each adds up to the total with that of the others at the place less its index, modulo their count
abbrev pub IsOpposite : List ℤ → List ℤ → ℕ → ℤ → ℕ → Type 0
IsOpposite xs ys place total i = at xs i +ℤ at ys (place + (length xs - i)) ≡ total

abbrev pub AreOpposite : List ℤ → List ℤ → ℕ → ℤ → Type 0
AreOpposite xs ys place total = (i : ℕ) → i < length xs → IsOpposite xs ys place total i

-- each from an index up to another adds up to the total with that of the others whose index makes
-- up the sum
abbrev pub AreOppositeBetween : List ℤ → List ℤ → ℕ → ℕ → ℕ → ℤ → Type 0
AreOppositeBetween xs ys from end sum total = (i : ℕ) → i < end → from ≤ i →
    at xs i +ℤ at ys (sum - i) ≡ total
