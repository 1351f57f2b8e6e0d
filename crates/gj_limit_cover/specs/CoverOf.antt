-- The cover of a function that may jump: its components, their number, its cover lines and the
-- class of the least uncovered interval (Basu, Hildebrand and Koeppe, Equivariant Perturbation I;
-- the order of the lines is own).
use Rattle.std.specs.Prelude.{ℕ, ◌≡◌, ◌↔◌, ◌<◌, List, [], Option, Some, None, Contains, length}
use Rattle.std.specs.List.Sorted.{IsStrictlyIncreasing}
use Rattle.gj_shape.specs.declared.faces.FaceKind.{FaceKind}
use Rattle.gj_shape.specs.Cover.{HasComponent, components_in}
use Rattle.gj_limit_cover.specs.LimitCover.{IsCovered, AreInOneComponent, IsInClassOf, AreCoverLines}
use Rattle.gj_shape.specs.FirstViolation.{IsLeastFrom}
use Rattle.gj_shape.specs.declared.extremality.CoverLine.{CoverLine}
use Rattle.gj_cover.specs.CoverOf.{number_at}
use Rattle.gj_cover.specs.declared.covered.Cover.{Cover}

-- the list has the number of each interval's component, by the lines, and None if it is uncovered
pub record AreComponents (q : ℕ) (T : FaceKind → ℕ → ℕ → ℕ →
    Type 0) (lines : List CoverLine) (component : List (Option ℕ)) : Type 0 where
  pub length : length component ≡ q
  pub numbers : (i n : ℕ) → i < q → (number_at component i ≡ Some n) ↔ HasComponent lines n i
  pub uncovered : (i : ℕ) → i < q → (number_at component i ≡ None) ↔ (IsCovered q T i → ⊥)
  pub same : (i j : ℕ) → i < q → j < q →
      ((n : ℕ) × (number_at component i ≡ Some n) × (number_at component j ≡ Some n)) ↔
      AreInOneComponent q T i j
  pub below : (i n : ℕ) → number_at component i ≡ Some n → n < components_in lines

-- the list has the intervals of the class of the least uncovered interval in ascending order, and
-- none if all are covered
pub record IsLeastClass (q : ℕ) (T : FaceKind → ℕ → ℕ → ℕ → Type 0) (class : List ℕ) : Type 0 where
  pub ascending : IsStrictlyIncreasing class
  pub members : (least : ℕ) → IsLeastFrom 0 (λ i. (i < q) × (IsCovered q T i → ⊥)) least →
      (i : ℕ) → Contains class i ↔ ((i < q) × IsInClassOf q T least i)
  pub none : (class ≡ []) ↔ ((i : ℕ) → i < q → IsCovered q T i)

-- the cover of a function of order q with these tight corners
pub record IsCoverOf (q : ℕ) (T : FaceKind → ℕ → ℕ → ℕ → Type 0) (cover : Cover) : Type 0 where
  pub lines : AreCoverLines q T cover.lines
  pub count : cover.count ≡ components_in cover.lines
  pub component : AreComponents q T cover.lines cover.component
  pub «class» : IsLeastClass q T cover.class
