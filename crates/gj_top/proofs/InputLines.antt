-- Inputs by their lines, and as the readers find them.
use Rattle.std.proofs.Common.{◌≡◌, inl, inr, codes, ℕ, List, [], ◌∷◌, ◌++◌, refl, sym, subst}
use Rattle.gj_forms.specs.TextLines.{HasLines, HasNextLine}
use Rattle.gj_lex.specs.declared.spelling.Spelling.TheVariants.{Lenient}
use Rattle.gj_forms.proofs.WhereLaws.{other_word}
use Rattle.gj_shape.specs.FunctionData.{FunctionData}
use Rattle.gj_function_text.specs.BreaksText.{end_words}
use Rattle.gj_function_text.specs.FunctionText.{title_words, breaks_title_words, IsWholeFunctionText}
use Rattle.gj_function_text.specs.RuleText.{rule_title_words, rule_name_words, BeginsAsRule}
use Rattle.gj_function_text.proofs.LinesOfFunction.{text_has_lines, lines_are_text}
use Rattle.gj_proof.specs.declared.cut.CutRule.{CutRule}
use Rattle.gj_proof.specs.declared.cut.CutRule.TheVariants.{Gmic, Table}
use Rattle.gj_top.specs.Forms.{BeginsWithFunction, IsFunctionInput}
use Rattle.gj_top.specs.Cut.{HasLinesOfRule, BeginsWithRule}

-- ---- function texts

pub whole_of_input : (input : List ℕ) (f : FunctionData) → IsFunctionInput input f →
    IsWholeFunctionText input f
whole_of_input input f (rest, lines, nothing) =
    (rest, (f, rest, lines_are_text input f rest lines, (refl, refl, nothing)))

pub input_of_whole : (input : List ℕ) (f : FunctionData) → IsWholeFunctionText input f →
    IsFunctionInput input f
input_of_whole input f (end, (g, rest, read, (same, at, nothing))) = (
  rest,
  subst (λ (h : FunctionData). BeginsWithFunction input h rest) (sym same)
      (text_has_lines input g rest read),
  nothing,
)

-- ---- the lines of a function begin with no line of a rule

title_is_other : (more : List (List ℕ)) → title_words ≡ codes "gj-rule" ∷ more → ⊥
title_is_other more e = cc

breaks_title_is_other : (more : List (List ℕ)) → breaks_title_words ≡ codes "gj-rule" ∷ more → ⊥
breaks_title_is_other more e = cc

no_rule_before : (text rest : List ℕ) (first : List (List ℕ)) (more : List (List (List ℕ))) →
    HasLines Lenient text (first ∷ more) rest →
    ((words : List (List ℕ)) → first ≡ codes "gj-rule" ∷ words → ⊥) →
    BeginsAsRule text → ⊥
no_rule_before text rest first more (start, next, line, behind) other begins =
    other_word Lenient text start first (codes "gj-rule") next line other begins

no_rule : (text : List ℕ) (f : FunctionData) (rest : List ℕ) → BeginsWithFunction text f rest →
    BeginsAsRule text → ⊥
no_rule text f rest (inl h) =
    no_rule_before text rest title_words (h.order ∷ h.place ∷ h.point_lines ++ end_words ∷ [])
    h.has_lines title_is_other
no_rule text f rest (inr (inl h)) =
    no_rule_before text rest title_words (h.words ∷ end_words ∷ []) h.has_lines title_is_other
no_rule text f rest (inr (inr h)) =
    no_rule_before text rest breaks_title_words (h.place ∷ h.points ++ end_words ∷ []) h.has_lines
    breaks_title_is_other

-- ---- rules

pub rule_of_lines : (text : List ℕ) (r : CutRule) (rest : List ℕ) → HasLinesOfRule text r rest →
    BeginsWithRule text r rest
rule_of_lines text Gmic rest (s, m, title, (t, n, name, (u, end, last, at))) = (
  (codes "1" ∷ [], (s, m, title)),
  (
    tt,
    m,
    (s, rule_title_words, title, refl),
    (tt, n, (t, rule_name_words, name, refl), (tt, end, (u, end_words, last, refl), (refl, at))),
  ),
)
rule_of_lines text (Table f) rest h = (no_rule text f rest h, lines_are_text text f rest h)

pub lines_of_rule : (text : List ℕ) (r : CutRule) (rest : List ℕ) → BeginsWithRule text r rest →
    HasLinesOfRule text r rest
lines_of_rule text Gmic rest (
  begins,
  (
    a,
    m,
    (s, vs, title, title_is),
    (b, n, (t, ws, name, name_is), (c, end, (u, xs, last, last_is), (same, at))),
  ),
) = (
  s,
  m,
  subst (λ words. HasNextLine s words m text) title_is title,
  (
    t,
    n,
    subst (λ words. HasNextLine t words n m) name_is name,
    (u, end, subst (λ words. HasNextLine u words end n) last_is last, at),
  ),
)
lines_of_rule text (Table f) rest (begins, read) = text_has_lines text f rest read
