-- The first element of a list that fails.
use Rattle.std.specs.Prelude.{◌≡◌, List, [], ◌∷◌, ◌++◌}

-- x stands in the list behind the elements `before`, which are good together and are not with x; if
-- each element is tested alone, good is that all pass
pub record IsFirstFailing {A : Type 0} (Good : List A → Type 0) (xs before : List A) (x : A) :
    Type 0 where
  pub after : List A
  pub place : xs ≡ before ++ x ∷ after
  pub good : Good before
  pub bad : Good (before ++ x ∷ []) → ⊥
