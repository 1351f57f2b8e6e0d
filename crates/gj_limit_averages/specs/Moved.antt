-- A function moved along a perturbation (Basu, Hildebrand and Koeppe, Equivariant Perturbation I).
use Rattle.std.specs.Prelude.{ℕ, ℤ, pos, ◌≡◌, ◌≢◌, ◌⊎◌, ◌*◌, ◌≤◌, ◌<◌, ◌+ℤ◌, ◌*ℤ◌, length, unsigned_abs}
use Rattle.gj_shape.specs.FunctionData.{FunctionData, at}
use Rattle.gj_shape.specs.Refinement.{refined}
use Rattle.gj_jumps.specs.LimitSystem.{Limits}

-- no number is above p in absolute value
pub record IsBoundOf (w : Limits ℤ) (p : ℕ) : Type 0 where
  pub left : (i : ℕ) → unsigned_abs (w.left i) ≤ p
  pub value : (i : ℕ) → unsigned_abs (w.value i) ≤ p
  pub right : (i : ℕ) → unsigned_abs (w.right i) ≤ p

-- some number is not 0
abbrev pub HasSome : Limits ℤ → Type 0
HasSome w = (i : ℕ) × ((w.left i ≢ pos 0) ⊎ (w.value i ≢ pos 0) ⊎ (w.right i ≢ pos 0))

-- g is f plus step/(3 p) times the numbers, on the grid of order m times f's and over 3 p m times
-- its scale
pub record IsMovedBy (f : FunctionData) (m p : ℕ) (step : ℤ) (w : Limits ℤ) (g : FunctionData) :
    Type 0 where
  pub order : g.order ≡ f.order * m
  pub place : g.place ≡ f.place * m
  pub scale : g.scale ≡ 3 * p * (f.scale * m)
  pub left_length : length g.left ≡ g.order
  pub value_length : length g.value ≡ g.order
  pub right_length : length g.right ≡ g.order
  pub left : (i : ℕ) → i < g.order →
      at g.left i ≡ pos (3 * p) *ℤ refined f f.left m i +ℤ step *ℤ w.left i
  pub value : (i : ℕ) → i < g.order →
      at g.value i ≡ pos (3 * p) *ℤ refined f f.value m i +ℤ step *ℤ w.value i
  pub right : (i : ℕ) → i < g.order →
      at g.right i ≡ pos (3 * p) *ℤ refined f f.right m i +ℤ step *ℤ w.right i
