-- The cover of a continuous function: its components, their number, its cover lines and the class
-- of the least uncovered interval (Light on the Infinite Group Relaxation I and II; the order of
-- the lines is own). Nothing here looks at a function but by the order q and its tight pairs.
use Rattle.std.specs.Prelude.{ℕ, ◌≡◌, ◌↔◌, ◌<◌, List, [], Option, Some, None, Contains, length, slice_index_or}
use Rattle.std.specs.List.Sorted.{IsStrictlyIncreasing}
use Rattle.gj_shape.specs.Cover.{IsCovered, AreInOneComponent, IsInClassOf, AreCoverLines, HasComponent, components_in}
use Rattle.gj_shape.specs.FirstViolation.{IsLeastFrom}
use Rattle.gj_shape.specs.declared.extremality.CoverLine.{CoverLine}
use Rattle.gj_cover.specs.declared.covered.Cover.{Cover}

-- the number of the component of an interval, in a list with an entry for each
abbrev pub number_at : List (Option ℕ) → ℕ → Option ℕ
number_at component i = slice_index_or component i None

-- the list has the number of each interval's component, by the lines, and None if it is uncovered
pub record AreComponents (q : ℕ) (Tight : ℕ → ℕ → Type 0) (lines : List CoverLine)
    (component : List (Option ℕ)) : Type 0 where
  pub length : length component ≡ q
  pub numbers : (i n : ℕ) → i < q → (number_at component i ≡ Some n) ↔ HasComponent lines n i
  pub uncovered : (i : ℕ) → i < q → (number_at component i ≡ None) ↔ (IsCovered q Tight i → ⊥)
  pub same : (i j : ℕ) → i < q → j < q →
      ((n : ℕ) × (number_at component i ≡ Some n) × (number_at component j ≡ Some n))
      ↔ AreInOneComponent q Tight i j
  pub below : (i n : ℕ) → number_at component i ≡ Some n → n < components_in lines

-- the list has the intervals of the class of the least uncovered interval in ascending order, and
-- none if all are covered
pub record IsLeastClass (q : ℕ) (Tight : ℕ → ℕ → Type 0) (class : List ℕ) : Type 0 where
  pub ascending : IsStrictlyIncreasing class
  pub members : (least : ℕ) → IsLeastFrom 0 (λ i. (i < q) × (IsCovered q Tight i → ⊥)) least →
      (i : ℕ) → Contains class i ↔ ((i < q) × IsInClassOf q Tight least i)
  pub none : (class ≡ []) ↔ ((i : ℕ) → i < q → IsCovered q Tight i)

-- the cover of a function of order q with these tight pairs
pub record IsCoverOf (q : ℕ) (Tight : ℕ → ℕ → Type 0) (cover : Cover) : Type 0 where
  pub lines : AreCoverLines q Tight cover.lines
  pub count : cover.count ≡ components_in cover.lines
  pub component : AreComponents q Tight cover.lines cover.component
  pub «class» : IsLeastClass q Tight cover.class
