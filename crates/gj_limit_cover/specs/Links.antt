-- Intervals that an edge links, and those on which triangles of one row of squares project (own).
use Rattle.std.specs.Prelude.{ℕ, ◌≡◌, ◌↔◌, ◌<◌, List, IsTrue, length, get_or}
use Rattle.gj_loops.specs.IndexSets.{has, no_set}
use Rattle.gj_loops.specs.declared.index_set.IndexSet.{IndexSet}
use Rattle.gj_shape.specs.FunctionData.{FunctionData}
use Rattle.gj_shape.specs.declared.faces.FaceKind.{FaceKind}
use Rattle.gj_jumps.specs.LimitCover.{IsTightAt}
use Rattle.gj_limit_cover.specs.LimitCover.{LinksBy, Covers}

-- an edge of some face links i to j
abbrev pub IsLink : ℕ → (FaceKind → ℕ → ℕ → ℕ → Type 0) → ℕ → ℕ → Type 0
IsLink q T i j = (kind : FaceKind) × (a : ℕ) × (b : ℕ) × LinksBy q T kind a b i j

-- a triangle of a square (a, b) covers the interval
abbrev pub IsDirectInRow : ℕ → (FaceKind → ℕ → ℕ → ℕ → Type 0) → ℕ → ℕ → Type 0
IsDirectInRow q T a i = (kind : FaceKind) × (b : ℕ) × (b < q) × Covers q T kind a b i

-- there are n rows, those of the intervals below n: the intervals to which edges link them
pub record AreLinkedRows (f : FunctionData) (n : ℕ) (rows : List IndexSet) : Type 0 where
  pub count : length rows ≡ n
  pub each : (i j : ℕ) → i < n → IsTrue (has (get_or rows i no_set) j) ↔
      ((j < f.order) × IsLink f.order (IsTightAt f) i j)
