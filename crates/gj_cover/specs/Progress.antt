-- Where the search for cover lines stands (own): what is kept while lines are added.
use Rattle.std.specs.Prelude.{ℕ, ◌≡◌, ◌≢◌, ◌↔◌, ◌+◌, ◌<◌, ◌≤◌, List, ◌∷◌, ◌++◌, Option, Some, None, is_none, length, count_by, IsTrue}
use Rattle.gj_shape.specs.Cover.{IsDirectlyCovered, JoinsLines, IsOpen, IsNextLine, HasComponent, components_in}
use Rattle.gj_shape.specs.declared.extremality.CoverLine.{CoverLine}
use Rattle.gj_loops.specs.IndexSets.{has}
use Rattle.gj_loops.specs.declared.index_set.IndexSet.{IndexSet}
use Rattle.gj_cover.specs.CoverOf.{number_at}
use Rattle.gj_cover.specs.Linking.{Linking, Covered, tight_linking}
use Rattle.gj_cover.specs.declared.progress.Progress.{Progress}

-- each line is the next behind those before it
pub record AreInTurn (Next : List CoverLine → CoverLine → Type 0) (lines : List CoverLine) :
    Type 0 where
  pub each : (before : List CoverLine) (l : CoverLine) (after : List CoverLine) →
      lines ≡ before ++ l ∷ after → Next before l

-- the intervals that have a line have a number, which is that of their component
pub record AreNumbered (lines : List CoverLine) (component : List (Option ℕ)) : Type 0 where
  pub opened : (before : List CoverLine) (l : CoverLine) (after : List CoverLine) →
      lines ≡ before ++ l ∷ after →
      l.from ≡ l.interval → number_at component l.interval ≡ Some (components_in before)
  pub joined : (before : List CoverLine) (l : CoverLine) (after : List CoverLine) →
      lines ≡ before ++ l ∷ after →
      l.from ≢ l.interval → (n : ℕ) × (number_at component l.interval ≡ Some n)
      × (number_at component l.from ≡ Some n)
  pub shown : (i n : ℕ) → number_at component i ≡ Some n → HasComponent lines n i

-- the numbers below the count are those of components: only the last may be joined to an interval
-- without a number
pub record AreClasses (J : Linking) (component : List (Option ℕ)) (count : ℕ) : Type 0 where
  pub one : (i j m n : ℕ) → J.Joined i j → number_at component i ≡ Some m →
      number_at component j ≡ Some n → m ≡ n
  pub last : (i j n : ℕ) → j < J.order → J.Joined i j → number_at component i ≡ Some n →
      number_at component j ≡ None → n + 1 ≡ count
  pub linked : (i j n : ℕ) → number_at component i ≡ Some n → number_at component j ≡ Some n →
      J.Leads j i
  pub below : (i n : ℕ) → number_at component i ≡ Some n → n < count
  pub covered : (i n : ℕ) → number_at component i ≡ Some n → Covered J i

-- the set has the intervals without a number
pub record AreFree (q : ℕ) (component : List (Option ℕ)) (free : IndexSet) : Type 0 where
  pub each : (i : ℕ) → IsTrue (has free i) ↔ ((i < q) × (number_at component i ≡ None))

-- an interval without a number is joined to one with a number
pub record JoinsNumbers (J : Linking) (component : List (Option ℕ)) (i j : ℕ) : Type 0 where
  pub first_within : i < J.order
  pub second_within : j < J.order
  pub free : number_at component i ≡ None
  pub number : (n : ℕ) × (number_at component j ≡ Some n)
  pub joined : J.Joined i j

-- of the intervals without a number the set has those that are joined to one with a number
pub record AreNear (J : Linking) (component : List (Option ℕ)) (near : IndexSet) : Type 0 where
  pub each : (i : ℕ) → i < J.order → number_at component i ≡ None →
      IsTrue (has near i) ↔ ((j : ℕ) × JoinsNumbers J component i j)

-- no interval below n without a number is directly covered
pub record AreSearched (q : ℕ) (Tight : ℕ → ℕ → Type 0) (component : List (Option ℕ)) (n : ℕ) :
    Type 0 where
  pub each : (i : ℕ) → i < n → number_at component i ≡ None → IsDirectlyCovered q Tight i → ⊥

-- how many intervals have no number
abbrev pub unnumbered : List (Option ℕ) → ℕ
unnumbered component = count_by is_none component

-- the number of the component of each interval that has a line, the intervals that have none, those
-- of them that are joined to one with a line, the lines, and how many components were opened
pub record ProgressData : Type 0 where
  pub component : List (Option ℕ)
  pub free : IndexSet
  pub near : IndexSet
  pub lines : List CoverLine
  pub count : ℕ

-- what is kept while lines are added
pub record IsKept (J : Linking) (Next : List CoverLine → CoverLine → Type 0) (p : ProgressData) :
    Type 0 where
  pub component_length : length p.component ≡ J.order
  pub lines : AreInTurn Next p.lines
  pub numbers : AreNumbered p.lines p.component
  pub count : p.count ≡ components_in p.lines
  pub few : p.count + unnumbered p.component ≤ J.order
  pub classes : AreClasses J p.component p.count
  pub free : AreFree J.order p.component p.free
  pub near : AreNear J p.component p.near

abbrev pub progress_data : Progress → ProgressData
progress_data p = record {
  component = p.component.items;
  free = p.free;
  near = p.near;
  lines = p.lines.items;
  count = p.count;
}

pub record IsProgress (q : ℕ) (Tight : ℕ → ℕ → Type 0) (p : Progress) : Type 0 where
  pub kept : IsKept (tight_linking q Tight) (IsNextLine q Tight) (progress_data p)
  pub searched : AreSearched q Tight p.component.items p.searched

-- no line comes next: no interval without one is joined to one with a line, or directly covered
pub record IsComplete (q : ℕ) (Tight : ℕ → ℕ → Type 0) (lines : List CoverLine) : Type 0 where
  pub none_joins : (i j : ℕ) → JoinsLines q Tight lines i j → ⊥
  pub none_open : (i : ℕ) → IsOpen q Tight lines i → ⊥
