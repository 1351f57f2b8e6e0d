-- Where the limits at the vertices of one row are 0, as sets (own).
use Rattle.std.specs.Prelude.{ℕ, pos, ◌≡◌, ◌↔◌, ◌<◌, List, length, get_or, IsTrue}
use Rattle.gj_loops.specs.IndexSets.{has, no_set}
use Rattle.gj_loops.specs.declared.index_set.IndexSet.{IndexSet}
use Rattle.gj_shape.specs.FunctionData.{FunctionData}
use Rattle.gj_shape.specs.declared.faces.FaceKind.{FaceKind}
use Rattle.gj_shape.specs.declared.faces.FaceKind.TheVariants.{Vertex}
use Rattle.gj_limit_system.specs.LimitRows.{corners}
use Rattle.gj_limit_system.specs.LimitSlacks.{limits_in, slack_at}

-- the set has the indices b of the vertices (a, b) at which the limit for such a corner is 0
abbrev pub IsTightSet : FunctionData → ℕ → FaceKind × ℕ → IndexSet → Type 0
IsTightSet f a c set =
    (b : ℕ) → IsTrue (has set b) ↔ ((b < f.order) × (slack_at (limits_in f) c.0 c.1 a b ≡ pos 0))

-- there are n sets, those of the first n corners
pub record AreTightSets (f : FunctionData) (a n : ℕ) (sets : List IndexSet) : Type 0 where
  pub count : length sets ≡ n
  pub each : (i : ℕ) → i < n → IsTightSet f a (get_or corners i (Vertex, 0)) (get_or sets i no_set)
