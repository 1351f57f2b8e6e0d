-- How the lines that were read make a function text, and a fault of theirs one of the text.
use Rattle.std.proofs.Common.{◌≡◌, ◌⊎◌, inl, inr, ℕ, List, [], ◌∷◌, codes, refl, sym, subst, ◌∙◌, arith}
use Rattle.gj_forms.specs.declared.fault.PartFault.{PartFault}
use Rattle.gj_lex.specs.declared.spelling.Spelling.TheVariants.{Lenient}
use Rattle.gj_forms.specs.Parts.{words_rule, Part, line_part, empty_part, then_part, ReadsInTurn, BeginsWithLine, BeginsWithWord, IsFaultOf}
use Rattle.gj_forms.specs.Parts.ReadsInTurn.{last, onward}
use Rattle.gj_forms.specs.TextLines.{HasNothing}
use Rattle.gj_forms.proofs.PartLaws.{fault_in_first, fault_in_next}
use Rattle.gj_forms.proofs.WhereLaws.{other_line, other_word}
use Rattle.gj_shape.specs.FunctionData.{FunctionData, IsWithinBounds}
use Rattle.gj_shape.specs.Breaks.{BreakList}
use Rattle.gj_forms.proofs.SpelledLaws.{spelled_words}
use Rattle.gj_function_lines.specs.FunctionLines.{order_form}
use Rattle.gj_function_lines.specs.FunctionGrammar.{function_part}
use Rattle.gj_function_lines.proofs.FunctionRead.{within_bounds}
use Rattle.gj_function_text.specs.BreaksText.{end_words, next_break}
use Rattle.gj_function_text.specs.FunctionText.{title_words, breaks_title_words, body_part, points_text, breaks_text, IsFunctionText, IsWholeFunctionText}

-- the first and the last line
abbrev pub title_part : Part (Unit {0})
title_part = line_part Lenient (words_rule title_words)

abbrev pub last_part : Part (Unit {0})
last_part = line_part Lenient (words_rule end_words)

-- behind what tells f
abbrev end_of : FunctionData → Part FunctionData
end_of f = then_part last_part (λ t. empty_part f)

abbrev behind_title : Unit {0} → Part FunctionData
behind_title t = then_part body_part end_of

pub fault_in_body : (text middle : List ℕ) (fault : PartFault) → title_part.Reads text tt middle →
    IsFaultOf body_part middle fault → IsFaultOf points_text text fault
fault_in_body text middle fault title h =
    fault_in_next title_part behind_title text tt middle fault title
    (fault_in_first body_part end_of middle fault h)

pub fault_in_end : (text middle rest : List ℕ) (f : FunctionData) (fault : PartFault) →
    title_part.Reads text tt middle →
    body_part.Reads middle f rest → IsFaultOf last_part rest fault →
    IsFaultOf points_text text fault
fault_in_end text middle rest f fault title lines h =
    fault_in_next title_part behind_title text tt middle fault title
    (fault_in_next body_part end_of middle f rest fault lines
    (fault_in_first last_part (λ t. empty_part f) rest fault h))

-- the lines of a function begin with no line of a family
pub no_family_line : (text : List ℕ) (f : FunctionData) (rest : List ℕ) →
    (function_part Lenient).Reads text f rest →
    BeginsWithWord Lenient (codes "family") text → ⊥
no_family_line text f rest (q, next, (start, words, line, (n, (spelled, t), order)), h) =
    other_word Lenient text start words (codes "family") next line
    (λ more e. not_both more _
    (sym e ∙ spelled_words Lenient (order_form.fields n) words spelled))
  where
    not_both : (more : List (List ℕ)) (word : List ℕ) →
        codes "family" ∷ more ≡ codes "order" ∷ word ∷ [] → ⊥
    not_both more word e = cc

-- the title of text 1 is not that of text 2
second_bytes : (word : List ℕ) (a b : ℕ) → word ∷ (a ∷ []) ∷ [] ≡ word ∷ (b ∷ []) ∷ [] → a ≡ b
second_bytes word a b e = cc

pub one_title : title_words ≡ breaks_title_words → ⊥
one_title e = let bytes = second_bytes _ _ _ e in omega arith

-- so a text with the one as its first line does not begin with the other
pub no_other_title : (text rest : List ℕ) → title_part.Reads text tt rest →
    BeginsWithLine Lenient breaks_title_words text → ⊥
no_other_title text rest (start, words, line, is) begins =
    other_line Lenient text start words breaks_title_words rest line
    (λ e. one_title (sym is ∙ e)) begins

pub whole_text : (text rest : List ℕ) (f : FunctionData) → IsFunctionText text f rest →
    HasNothing Lenient rest → IsWholeFunctionText text f
whole_text text rest f h nothing = (rest, (f, rest, h, (refl, refl, nothing)))

-- what tells a function, and that it is within bounds
body_is_within : (text : List ℕ) (f : FunctionData) (rest : List ℕ) → body_part.Reads text f rest →
    IsWithinBounds f
body_is_within text f rest (inl (is, (start, words, line, (family, spelled, (of, within))))) =
    within
body_is_within text f rest (inr (not, h)) = within_bounds Lenient text f rest h

points_are_within : (text : List ℕ) (f : FunctionData) (rest : List ℕ) →
    points_text.Reads text f rest → IsWithinBounds f
points_are_within text f rest (t, m, title, (g, n, lines, (t', r, end, (same, at)))) =
    subst IsWithinBounds (sym same) (body_is_within m g n lines)

-- or breakpoints
in_turn_within : (f : FunctionData) (rest : List ℕ) (s : BreakList) (text : List ℕ) →
    ReadsInTurn (λ t. (next_break t).Reads) f rest s text →
    IsWithinBounds f
in_turn_within f rest s text
    (last _ _ (inl (
      ends,
      (g, (start, words, line, (t, is, (k, place, (points, grid, given)))), same),
    ))) =
    subst IsWithinBounds (sym (right_is f g same)) given.within
  where
    right_is : (f g : FunctionData) → ◌≡◌ {A = BreakList ⊎ FunctionData} (inr f) (inr g) → f ≡ g
    right_is f g e = cc
in_turn_within f rest s text (last _ _ (inr (not, (t, reads, same)))) = absurd (apart t f same)
  where
    apart : (t : BreakList) (f : FunctionData) →
        ◌≡◌ {A = BreakList ⊎ FunctionData} (inr f) (inl t) → ⊥
    apart t f e = cc
in_turn_within f rest s text (onward _ _ next middle reads more) =
    in_turn_within f rest next middle more

breaks_are_within : (text : List ℕ) (f : FunctionData) (rest : List ℕ) →
    breaks_text.Reads text f rest → IsWithinBounds f
breaks_are_within text f rest (t, m, title, (s, n, start, more)) = in_turn_within f rest s n more

pub function_is_within : (text : List ℕ) (f : FunctionData) (rest : List ℕ) →
    IsFunctionText text f rest → IsWithinBounds f
function_is_within text f rest (inl (is, h)) = breaks_are_within text f rest h
function_is_within text f rest (inr (not, h)) = points_are_within text f rest h
