-- How much of an input is read, and what the source, if it tells its bytes, then has left (own).
use Rattle.std.specs.Prelude.{ℕ, ◌≡◌, ◌+◌, Bool, true, false, List, drop, IfSome, Option, Some}
use Rattle.gj_port.specs.Whole.{TakesUpTo}

-- the most bytes that are read of an input
abbrev pub input_limit : ℕ
input_limit = 16777216

-- the input is all that the source had, of which it has left what stands behind the limit and one
-- byte more; or the source is as it was, if nothing is read
abbrev pub IsReadWhole : Bool → List ℕ → Option (List ℕ) → Option (List ℕ) → Type 0
IsReadWhole true input left after =
    IfSome left (λ told. (told ≡ input) × (after ≡ Some (drop (input_limit + 1) input)))
IsReadWhole false input left after = after ≡ left

-- at most the limit was read
abbrev pub IsReadInPart : Option (List ℕ) → Option (List ℕ) → Type 0
IsReadInPart left after = IfSome left (λ told. TakesUpTo input_limit told after)
