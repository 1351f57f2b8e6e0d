-- The numbers of a function that is moved along a perturbation (own).
use Rattle.std.specs.Prelude.{ℕ, ℤ, pos, ◌≡◌, ◌*◌, ◌<◌, ◌^◌, ◌+ℤ◌, ◌*ℤ◌, List, length, get_or, map, unsigned_abs}
use Rattle.std.specs.List.{range_with_len}
use Rattle.gj_shape.specs.FunctionData.{FunctionData}
use Rattle.gj_shape.specs.Refinement.{refined}
use Rattle.gj_shape.specs.declared.extremality.SideNumbers.{SideNumbers}

-- a limit or value on the grid times the factor, moved by the step times the number at its index
abbrev pub moved_at : FunctionData → List ℤ → ℕ → ℤ → ℤ → List ℤ → ℕ → ℤ
moved_at f xs m factor step numbers i =
    factor *ℤ refined f xs m i +ℤ step *ℤ get_or numbers i (pos 0)

-- both products are small
pub record IsSmallMove (f : FunctionData) (xs : List ℤ) (m : ℕ) (factor step : ℤ) (numbers : List ℤ)
    (i : ℕ) : Type 0 where
  pub entry : unsigned_abs (factor *ℤ refined f xs m i) < 2 ^ 126
  pub move : unsigned_abs (step *ℤ get_or numbers i (pos 0)) < 2 ^ 126

-- there is a number for each index of the grid, and all products are small
pub record AreSmallMoves (f : FunctionData) (xs : List ℤ) (m : ℕ) (factor step : ℤ)
    (numbers : List ℤ) : Type 0 where
  pub whole : length numbers ≡ f.order * m
  pub each : (i : ℕ) → i < f.order * m → IsSmallMove f xs m factor step numbers i

pub record AreSmallSides (f : FunctionData) (m : ℕ) (factor step : ℤ) (s : SideNumbers) :
    Type 0 where
  pub left : AreSmallMoves f f.left m factor step s.left
  pub value : AreSmallMoves f f.value m factor step s.value
  pub right : AreSmallMoves f f.right m factor step s.right

-- the lists of the function, moved so
abbrev pub moved_by : FunctionData → ℕ → ℤ → ℤ → SideNumbers → SideNumbers
moved_by f m factor step s = record {
  left = map (moved_at f f.left m factor step s.left) (range_with_len 0 (f.order * m));
  value = map (moved_at f f.value m factor step s.value) (range_with_len 0 (f.order * m));
  right = map (moved_at f f.right m factor step s.right) (range_with_len 0 (f.order * m));
}
