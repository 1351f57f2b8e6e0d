-- Intervals to which joined ones lead (own): what is kept while more are found.
use Rattle.std.specs.Prelude.{ℕ, ◌≡◌, ◌≢◌, ◌⊎◌, ◌<◌, ◌||◌, false, not, IsTrue}
use Rattle.gj_loops.specs.IndexSets.{has, count_below}
use Rattle.gj_loops.specs.declared.index_set.IndexSet.{IndexSet}
use Rattle.gj_cover.specs.Linking.{Linking, Covered}
use Rattle.gj_cover.specs.declared.reached.Reached.{Reached}

-- the set has the intervals that are not covered
pub record AreUncovered (l : Linking) (free : IndexSet) : Type 0 where
  pub within : (i : ℕ) → IsTrue (has free i) → i < l.order
  pub none : (i : ℕ) → IsTrue (has free i) → Covered l i → ⊥
  pub some : (i : ℕ) → i < l.order → has free i ≡ false → Covered l i

-- the intervals that were reached, and those of them that wait to be looked at
pub record ReachedData : Type 0 where
  pub reached : IndexSet
  pub waiting : IndexSet

abbrev pub reached_data : Reached → ReachedData
reached_data r = record { reached = r.reached; waiting = r.waiting }

-- how many indices below n wait or were not reached
abbrev pub unfinished : ReachedData → ℕ → ℕ
unfinished r n = count_below (λ i. has r.waiting i || not (has r.reached i)) n

-- each interval that was reached waits, or all that are joined to it were reached, and joined ones
-- lead to it from the start
pub record AreReached (l : Linking) (start : ℕ) (r : ReachedData) : Type 0 where
  pub begun : IsTrue (has r.reached start)
  pub waiting : (i : ℕ) → IsTrue (has r.waiting i) → IsTrue (has r.reached i)
  pub closed : (i : ℕ) → IsTrue (has r.reached i) →
      IsTrue (has r.waiting i)
      ⊎ ((j : ℕ) → j < l.order → l.Joined j i → IsTrue (has r.reached j))
  pub led : (i : ℕ) → IsTrue (has r.reached i) → (i < l.order) × l.Leads i start

-- all free intervals that are joined to the interval were reached too, and no others; the new ones
-- wait, the interval does not
pub record IsReachedFrom (l : Linking) (interval : ℕ) (free : IndexSet) (old new : ReachedData) :
    Type 0 where
  pub more : (i : ℕ) → IsTrue (has old.reached i) → IsTrue (has new.reached i)
  pub joined : (i : ℕ) → i < l.order → IsTrue (has free i) → l.Joined i interval →
      IsTrue (has new.reached i)
  pub only : (i : ℕ) → IsTrue (has new.reached i) →
      IsTrue (has old.reached i)
      ⊎ ((i < l.order) × l.Joined i interval × IsTrue (has new.waiting i))
  pub still : (i : ℕ) → IsTrue (has old.waiting i) → i ≢ interval → IsTrue (has new.waiting i)
  pub known : (i : ℕ) → IsTrue (has new.waiting i) →
      IsTrue (has old.waiting i) ⊎ IsTrue (has new.reached i)
  pub fewer : unfinished new 1024 < unfinished old 1024
