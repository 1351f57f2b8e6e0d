-- The numbers of a row, as the rule `limit` asks for them (own).
use Rattle.std.specs.Prelude.{ℕ, ◌<◌, List, [], ◌∷◌, ◌++◌}
use Rattle.gj_frac.specs.declared.Frac.{Frac}
use Rattle.gj_shape.specs.Limits.{denominator_bound}
use Rattle.gj_shape.specs.Given.{IsLeastCommonDenominator}
use Rattle.gj_proof.specs.Rules.{MeetsLimit}

-- c is the least common denominator of the numbers, from 1 to 2^31 - 1
pub record IsRowDenominator (xs : List Frac) (c : ℕ) : Type 0 where
  pub some : 0 < c
  pub high : c < denominator_bound
  pub least : IsLeastCommonDenominator xs c

-- behind numbers with the least common denominator c the number x is within the limits, and with it
-- they have that of m
abbrev pub ExtendsRowDenominator : ℕ → Frac → ℕ → Type 0
ExtendsRowDenominator c x m = (xs : List Frac) → IsRowDenominator xs c →
    MeetsLimit xs x × IsRowDenominator (xs ++ x ∷ []) m

-- behind such numbers it is not within the limits
abbrev pub IsBeyond : ℕ → Frac → Type 0
IsBeyond c x = (xs : List Frac) → IsRowDenominator xs c → MeetsLimit xs x → ⊥
