-- Functions that may jump as averages of two others, as data (Gomory and Johnson 1972; the grids
-- are own).
use Rattle.std.specs.Prelude.{ℕ, pos, ◌≡◌, ◌≢◌, ◌⊎◌, ◌*◌, ◌<◌, ◌+ℤ◌, ◌*ℤ◌, length}
use Rattle.gj_shape.specs.FunctionData.{FunctionData, at}
use Rattle.gj_shape.specs.Refinement.{refined}
use Rattle.gj_shape.specs.Table.{IsMinimal}

-- g is a minimal function on the grid of order m times f's, over c m times its scale, with its
-- place
pub record IsMinimalOver (f : FunctionData) (m c : ℕ) (g : FunctionData) : Type 0 where
  pub order : g.order ≡ f.order * m
  pub place : g.place ≡ f.place * m
  pub scale : g.scale ≡ c * (f.scale * m)
  pub left_length : length g.left ≡ g.order
  pub value_length : length g.value ≡ g.order
  pub right_length : length g.right ≡ g.order
  pub minimal : IsMinimal g

-- half the sum of g and h is f, at each point of the grid and from both sides of it
pub record AverageToFunction (f : FunctionData) (m c : ℕ) (g h : FunctionData) : Type 0 where
  pub left : (i : ℕ) → at g.left i +ℤ at h.left i ≡ pos (2 * c) *ℤ refined f f.left m i
  pub value : (i : ℕ) → at g.value i +ℤ at h.value i ≡ pos (2 * c) *ℤ refined f f.value m i
  pub right : (i : ℕ) → at g.right i +ℤ at h.right i ≡ pos (2 * c) *ℤ refined f f.right m i

-- a value or a limit of g is not that of h
abbrev pub Differ : FunctionData → FunctionData → Type 0
Differ g h =
    (i : ℕ) × ((at g.left i ≢ at h.left i) ⊎ (at g.value i ≢ at h.value i)
    ⊎ (at g.right i ≢ at h.right i))

-- g and h are two different minimal functions on such a grid that average to f
pub record AreDifferentParts (f : FunctionData) (m c : ℕ) (g h : FunctionData) : Type 0 where
  pub finer : 0 < m
  pub factor : 0 < c
  pub first : IsMinimalOver f m c g
  pub second : IsMinimalOver f m c h
  pub average : AverageToFunction f m c g h
  pub different : Differ g h

-- an extreme function, which may jump: it is minimal, and no average of two different minimal
-- functions on any grid of order a multiple of its own
pub record IsExtremeFunction (f : FunctionData) : Type 0 where
  pub minimal : IsMinimal f
  pub no_average : (m c : ℕ) (g h : FunctionData) → AreDifferentParts f m c g h → ⊥
