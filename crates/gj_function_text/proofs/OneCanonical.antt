-- A function has one canonical text.
use Rattle.std.proofs.Common.{◌≡◌, ℕ, List, ◌++◌, codes, sym, ap, ◌∙◌}
use Rattle.gj_shape.specs.FunctionData.{FunctionData, IsWithinBounds}
use Rattle.gj_function_lines.specs.FunctionLines.{line}
use Rattle.gj_function_lines.proofs.OneTextOfLines.{one_text_of_lines}
use Rattle.gj_function_text.specs.FunctionText.{IsCanonicalText}

pub one_canonical_text : (f : FunctionData) (a b : List ℕ) → IsWithinBounds f →
    IsCanonicalText a f → IsCanonicalText b f → a ≡ b
one_canonical_text f a b within p q =
    let lines_are = one_text_of_lines f p.lines q.lines within p.are_lines q.are_lines in
    p.spelled ∙ ap (λ t. line (codes "gj-function 1") ++ t ++ line (codes "end")) lines_are
    ∙ sym q.spelled
