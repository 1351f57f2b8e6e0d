-- What a source of rows gives (own).
use Rattle.std.specs.Prelude.{ℤ, ◌≡◌, List, [], ◌∷◌, Vec, Option, None, Some, Result, Ok, Err}
use Rattle.std.specs.declared.alloc.Global.{Global}

-- all rows, and those that are still to come
pub record RowsToCome : Type 0 where
  pub all : List (List ℤ)
  pub left : List (List ℤ)

-- what a call did to the rows to come: with a row they lost it from their front, with none there
-- were none, and with an error they are the same
abbrev pub Gives : {E : Type 0} → List (List ℤ) → List (List ℤ) → Result (Option (Vec ℤ Global)) E →
    Type 0
Gives before after (Ok (Some row)) = before ≡ row.items ∷ after
Gives before after (Ok None) = (before ≡ []) × (after ≡ [])
Gives before after (Err e) = after ≡ before
