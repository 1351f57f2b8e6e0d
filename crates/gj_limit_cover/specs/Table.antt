-- The table of the joins of a function (own).
use Rattle.std.specs.Prelude.{ℕ, ◌≡◌, ◌≢◌, ◌↔◌, ◌<◌, ◌≤◌, false, IsTrue}
use Rattle.gj_loops.specs.IndexSets.{has}
use Rattle.gj_loops.specs.declared.index_set.IndexSet.{IndexSet}
use Rattle.gj_shape.specs.FunctionData.{FunctionData}
use Rattle.gj_jumps.specs.LimitCover.{IsTightAt}
use Rattle.gj_limit_faces.specs.Joins.{AreJoinsOf}
use Rattle.gj_limit_cover.specs.LimitCover.{AreJoined, IsDirectlyCovered}
use Rattle.gj_limit_cover.specs.Links.{AreLinkedRows}
use Rattle.gj_limit_cover.specs.declared.table.Table.{Table}

-- the table is that of the function
pub record IsTableOf (f : FunctionData) (t : Table) : Type 0 where
  pub joins : AreJoinsOf f t.joins
  pub linked : AreLinkedRows f f.order t.linked.items
  pub direct : (i : ℕ) → IsTrue (has t.direct i) ↔
      ((i < f.order) × IsDirectlyCovered f.order (IsTightAt f) i)

-- besides i itself all intervals in the set are joined to i, and all that are joined to i, free and
-- not near are in the set
pub record IsJoinedSet (f : FunctionData) (free near : IndexSet) (i : ℕ) (set : IndexSet) :
    Type 0 where
  pub joined : (j : ℕ) → j < f.order → i ≢ j → IsTrue (has set j) →
      AreJoined f.order (IsTightAt f) i j
  pub whole : (j : ℕ) → j < f.order → i ≢ j → IsTrue (has free j) → has near j ≡ false →
      AreJoined f.order (IsTightAt f) i j → IsTrue (has set j)

-- all intervals in the set are joined to i, and with each that is joined to i and not free the set
-- has this or an earlier one that is not free
pub record HasLeastLined (f : FunctionData) (free : IndexSet) (i : ℕ) (set : IndexSet) :
    Type 0 where
  pub within : (j : ℕ) → IsTrue (has set j) → j < f.order
  pub joined : (j : ℕ) → IsTrue (has set j) → AreJoined f.order (IsTightAt f) i j
  pub least : (j : ℕ) → j < f.order → has free j ≡ false → AreJoined f.order (IsTightAt f) i j →
      (k : ℕ) × (k ≤ j) × IsTrue (has set k) × (has free k ≡ false)
