-- The entries of halves from two lists (own).
use Rattle.std.specs.Prelude.{ℕ, ℤ, pos, ◌<◌, ◌^◌, ◌+ℤ◌, ◌*ℤ◌, List, get_or, unsigned_abs}

-- an entry of the table times the factor, moved by the step times that of the perturbation
abbrev pub moved_at : List ℤ → ℤ → List ℤ → ℤ → ℕ → ℤ
moved_at table factor values step i = factor *ℤ get_or table i (pos 0) +ℤ step *ℤ get_or values i
    (pos 0)

-- both products are small
pub record IsSmallMove (table : List ℤ) (factor : ℤ) (values : List ℤ) (step : ℤ) (i : ℕ) :
    Type 0 where
  pub entry : unsigned_abs (factor *ℤ get_or table i (pos 0)) < 2 ^ 126
  pub move : unsigned_abs (step *ℤ get_or values i (pos 0)) < 2 ^ 126
