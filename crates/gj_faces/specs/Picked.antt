-- The elements with a property, in their order (own).
use Rattle.std.specs.Prelude.{List, [], ◌∷◌}

-- the second list has exactly those elements of the first that have the property, in their order
pub data ArePicked {X : Type 0} (P : X → Type 0) : List X → List X → Type 0 where
  none : ArePicked P [] []
  kept : {x : X} {xs ys : List X} → P x → ArePicked P xs ys → ArePicked P (x ∷ xs) (x ∷ ys)
  dropped : {x : X} {xs ys : List X} → (P x → ⊥) → ArePicked P xs ys → ArePicked P (x ∷ xs) ys
