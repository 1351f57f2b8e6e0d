-- The summary of the demonstration (own).
use Rattle.std.specs.Prelude.{ℕ, ◌≡◌, ◌+◌, List, ◌++◌, codes, length}
use Rattle.std.specs.List.{range_with_len}
use Rattle.gj_lex.specs.NumberText.{count_line}
use Rattle.gj_shape.specs.Additive.{IsTight}
use Rattle.gj_shape.specs.Cover.{AreCoverLines, IsCovered, components_in}
use Rattle.gj_shape.specs.FunctionData.{FunctionData, IsWithinBounds}
use Rattle.gj_shape.specs.declared.extremality.CoverLine.{CoverLine}
use Rattle.gj_shape.specs.declared.extremality.Halves.{Halves}
use Rattle.gj_shape.specs.declared.faces.Face.{Face}
use Rattle.gj_faces.specs.Picked.{ArePicked}
use Rattle.gj_faces.specs.Triangles.{AreAdditiveTriangles}
use Rattle.gj_function_lines.specs.FunctionLines.{line, order_line}
use Rattle.gj_proof.specs.ProofText.{halves_line}
use Rattle.gj_proof.specs.declared.claim.Claim.TheVariants.{NotExtreme}
use Rattle.gj_extreme.specs.Decision.{IsDecided}
use Rattle.gj_demo.specs.Demo.{IsDemo}

-- the covered intervals of the function, ascending
abbrev pub AreCoveredIntervals : FunctionData → List ℕ → Type 0
AreCoveredIntervals f intervals =
    ArePicked (IsCovered f.order (IsTight f)) (range_with_len 0 f.order) intervals

-- the lines of a summary with these numbers
abbrev pub lines_with : ℕ → ℕ → ℕ → ℕ → ℕ → ℕ → Halves → List ℕ
lines_with n order triangles covered uncovered components h =
    count_line (codes "demo ") n ++ order_line order ++ line (codes "f 1/2") ++ count_line
    (codes "triangles ") triangles
    ++ count_line (codes "covered ") covered ++ count_line (codes "uncovered ") uncovered
    ++ count_line (codes "components ") components ++ line (codes "verdict not-extreme")
    ++ halves_line h

-- the text sums up the n-th function: how many triangles are additive, how many intervals are
-- covered and how many are not, how many components there are, and that it is not extreme, with the
-- order and scale of the halves
pub record IsSummary (n : ℕ) (f : FunctionData) (h : Halves) (text : List ℕ) : Type 0 where
  pub demo : IsDemo n f
  pub triangles : List Face
  pub are_triangles : AreAdditiveTriangles f triangles
  pub intervals : List ℕ
  pub are_intervals : AreCoveredIntervals f intervals
  pub uncovered : ℕ
  pub others : length intervals + uncovered ≡ f.order
  pub lines : List CoverLine
  pub are_lines : AreCoverLines f.order (IsTight f) lines
  pub spelled : text ≡ lines_with n f.order (length triangles) (length intervals) uncovered
      (components_in lines) h

-- the text is such a summary, of a function within the limits, with the halves that the decision
-- gives
pub record HasSummary (n : ℕ) (text : List ℕ) : Type 0 where
  pub function : FunctionData
  pub halves : Halves
  pub within : IsWithinBounds function
  pub verdict : IsDecided function (NotExtreme function halves)
  pub summary : IsSummary n function halves text
