-- The rule `cover` over cover lines in turn: whether all meet it, and which is the first that does
-- not (own).
use Rattle.std.specs.Prelude.{ℕ, ◌≡◌, ◌↔◌, ◌<◌, Bool, false, List, All, IsTrue, length, get_or}
use Rattle.gj_shape.specs.Additive.{IsTight}
use Rattle.gj_shape.specs.Cover.{HasCoverLine, components_in}
use Rattle.gj_shape.specs.FunctionData.{FunctionData}
use Rattle.gj_shape.specs.declared.extremality.CoverLine.{CoverLine}
use Rattle.gj_theory.specs.CoverRules.{MeetsCoverRule}
use Rattle.gj_proof.specs.PresentRows.{AreNumbersOf}
use Rattle.gj_proof.specs.Rules.{AtIndex}
use Rattle.gj_check.specs.declared.cover_lines.Components.{Components}
use Rattle.gj_check.specs.declared.cover_lines.Covered.{Covered}
use Rattle.gj_check.specs.declared.cover_lines.Covered.TheVariants.{Whole, BrokenAt}

-- the intervals that have one of the lines
abbrev pub HaveLines : List CoverLine → List Bool → Type 0
HaveLines lines has_line = (i : ℕ) → i < length has_line → IsTrue (get_or has_line i false)
    ↔ HasCoverLine lines i

-- the rule `cover` on the i-th line
abbrev pub MeetsCover : FunctionData → List CoverLine → ℕ → Type 0
MeetsCover f lines i = AtIndex lines i (MeetsCoverRule f.order (IsTight f))

-- the numbers of the components of all intervals, below the number of components
pub record AreComponentsOf (f : FunctionData) (lines : List CoverLine) (c : Components) :
    Type 0 where
  pub length : length c.number.items ≡ f.order
  pub below : All (λ n. n < c.count) c.number.items
  pub numbers : AreNumbersOf f lines (λ i. get_or c.number.items i 0)
  pub count : c.count ≡ components_in lines

-- the line is the first that breaks the rule
pub record IsFirstBroken (f : FunctionData) (lines : List CoverLine) (i : ℕ) : Type 0 where
  pub within : i < length lines
  pub before : (j : ℕ) → j < i → MeetsCover f lines j
  pub here : AtIndex lines i (λ before l. MeetsCoverRule f.order (IsTight f) before l → ⊥)

abbrev pub IsCoverOutcome : FunctionData → List CoverLine → Covered → Type 0
IsCoverOutcome f lines (Whole c) = ((i : ℕ) → MeetsCover f lines i) × AreComponentsOf f lines c
IsCoverOutcome f lines (BrokenAt i) = IsFirstBroken f lines i
