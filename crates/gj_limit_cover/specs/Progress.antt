-- Where the search for cover lines stands (own): what is kept while lines are added.
use Rattle.std.specs.Prelude.{ℕ, List}
use Rattle.gj_shape.specs.declared.faces.FaceKind.{FaceKind}
use Rattle.gj_limit_cover.specs.LimitCover.{JoinsLines, IsOpen, IsNextLine}
use Rattle.gj_shape.specs.declared.extremality.CoverLine.{CoverLine}
use Rattle.gj_cover.specs.Progress.{ProgressData, IsKept}
use Rattle.gj_limit_cover.specs.Linking.{limit_linking}
use Rattle.gj_limit_cover.specs.declared.progress.Progress.{Progress}

abbrev pub progress_data : Progress → ProgressData
progress_data p = record {
  component = p.component.items;
  free = p.free;
  near = p.near;
  lines = p.lines.items;
  count = p.count;
}

-- what is kept while lines are added
abbrev pub IsProgress : ℕ → (FaceKind → ℕ → ℕ → ℕ → Type 0) → Progress → Type 0
IsProgress q T p = IsKept (limit_linking q T) (IsNextLine q T) (progress_data p)

-- no line comes next: no interval without one is joined to one with a line, or directly covered
pub record IsComplete (q : ℕ) (T : FaceKind → ℕ → ℕ → ℕ →
    Type 0) (lines : List CoverLine) : Type 0 where
  pub none_joins : (i j : ℕ) → JoinsLines q T lines i j → ⊥
  pub none_open : (i : ℕ) → IsOpen q T lines i → ⊥
