-- Counts packed into one number, their code.
use Rattle.std.specs.Prelude.{ℕ, ◌+◌, ◌*◌, ◌<◌, ◌≤◌, ◌^◌, List, [], ◌∷◌, ◌++◌, map}
use Rattle.std.specs.List.{range_with_len}
use Rattle.gj_system.specs.Components.{rises_at}

-- the number with these digits to the base 2^16, the first for the ones
abbrev pub packed : List ℕ → ℕ
packed [] = 0
packed (x ∷ xs) = x + 2 ^ 16 * packed xs

-- the codes of the counts of n columns before each of the first q grid points
abbrev pub codes_before : (ℕ → ℕ) → ℕ → ℕ → List ℕ
codes_before component n q = map (λ i. packed (rises_at component n i)) (range_with_len 0 q)

-- the same twice over
abbrev pub codes_twice : (ℕ → ℕ) → ℕ → ℕ → List ℕ
codes_twice component n q = codes_before component n q ++ codes_before component n q

-- for counts of n columns, each at most q: a sum of three codes carries no digit, and is below 2^64
pub record ArePackable (n q : ℕ) : Type 0 where
  pub columns : n ≤ 4
  pub order : 3 * q < 2 ^ 16
