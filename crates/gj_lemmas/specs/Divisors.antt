-- Greatest common divisors and least common multiples.
use Rattle.std.specs.Prelude.{ℕ, zero, suc, ◌%◌}
use Rattle.std.specs.Int.{◌∣◌}

-- Euclid's algorithm, with as many steps as `steps` allows
unfoldable pub gcd_within : ℕ → ℕ → ℕ → ℕ
gcd_within zero a b = a
gcd_within (suc steps) a zero = a
gcd_within (suc steps) a (suc b) = gcd_within steps (suc b) (a % suc b)

-- the greatest common divisor; that of 0 and 0 is 0
unfoldable pub gcd_of : ℕ → ℕ → ℕ
gcd_of a b = gcd_within b a b

-- m is the least common multiple of a and b: both divide it, and it divides each number that both
-- divide
abbrev pub IsLcm : ℕ → ℕ → ℕ → Type 0
IsLcm a b m = (a ∣ m) × (b ∣ m) × ((c : ℕ) → a ∣ c → b ∣ c → m ∣ c)
