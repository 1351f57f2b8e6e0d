-- A canonical text is a function text, and short.
use Rattle.std.proofs.Common.{◌≡◌, inr, ℕ, List, [], ◌∷◌, ◌++◌, codes, refl, ap, subst, ◌∙◌, ◌+◌, ◌≤◌, length, length-append, append-nil, arith}
use Rattle.std.proofs.lemmas.List.{append_assoc}
use Rattle.gj_lex.specs.declared.spelling.Spelling.TheVariants.{Lenient}
use Rattle.gj_forms.specs.TextLines.IsSkippedText.{nothing}
use Rattle.gj_forms.proofs.CanonicalLines.{words_line}
use Rattle.gj_shape.specs.FunctionData.{FunctionData, IsWithinBounds}
use Rattle.gj_function_lines.specs.FunctionLines.{line}
use Rattle.gj_function_lines.proofs.CanonicalFunctions.{canonical_lines_are_read}
use Rattle.gj_function_lines.proofs.StrictFunctions.{function_lines_are_short}
use Rattle.gj_function_text.specs.FunctionText.{IsFunctionText, IsWholeFunctionText, IsCanonicalText}
use Rattle.gj_function_text.proofs.FunctionTexts.{no_family_line, no_other_title, whole_text}

regrouped : (title lines end after : List ℕ) →
    (title ++ lines ++ end) ++ after ≡ title ++ (lines ++ (end ++ after))
regrouped title lines end after = simp append_assoc

pub canonical_text_is_function_text : (f : FunctionData) (text after : List ℕ) → IsWithinBounds f →
    IsCanonicalText text f →
    IsFunctionText (text ++ after) f after
canonical_text_is_function_text f text after within h =
    let end = line (codes "end") ++ after in
    let whole : text ++ after ≡ line (codes "gj-function 1") ++ (h.lines ++ end) =
    ap (λ t. t ++ after) h.spelled
    ∙ regrouped (line (codes "gj-function 1")) h.lines (line (codes "end")) after in
    let title = words_line Lenient (codes "gj-function") (codes "1" ∷ []) (text ++ after)
    (h.lines ++ end) refl (λ e. omega arith) whole in
    let last = words_line Lenient (codes "end") [] end after refl (λ e. omega arith) refl in
    let lines = canonical_lines_are_read Lenient f h.lines end within h.are_lines in
    inr (
      no_other_title (text ++ after) (h.lines ++ end) title,
      (
        tt,
        h.lines ++ end,
        title,
        (
          f,
          end,
          inr (no_family_line (h.lines ++ end) f end lines, lines),
          (tt, after, last, (refl, refl)),
        ),
      ),
    )

-- nothing but the lines of the function and two lines more
pub canonical_text_is_short : (f : FunctionData) (text : List ℕ) → IsWithinBounds f →
    IsCanonicalText text f → length text ≤ 1000000
canonical_text_is_short f text within h =
    let title = line (codes "gj-function 1") in
    let end = line (codes "end") in
    let parts : length (title ++ h.lines ++ end) ≡ 14 + length h.lines + 4 =
    simp length-append (omega arith) in
    omega (arith, ap length h.spelled, function_lines_are_short f h.lines within h.are_lines)

-- a canonical text is a whole function text
pub canonical_text_is_whole : (f : FunctionData) (text : List ℕ) → IsWithinBounds f →
    IsCanonicalText text f → IsWholeFunctionText text f
canonical_text_is_whole f text within h =
    whole_text text [] f
    (subst (λ t. IsFunctionText t f []) (append-nil text)
    (canonical_text_is_function_text f text [] within h))
    (nothing [] refl)
