-- The canonical text of breakpoints is a function text of their function.
use Rattle.std.proofs.Common.{◌≡◌, ◌≢◌, ℕ, inr, List, [], ◌∷◌, ◌++◌, map, flat_map, codes, refl, sym, subst, append_assoc, arith}
use Rattle.std.specs.List.{AllZip}
use Rattle.gj_frac.specs.declared.Frac.{Frac}
use Rattle.gj_forms.specs.TextLines.{HasLine, HasLines}
use Rattle.gj_lex.specs.declared.spelling.Spelling.TheVariants.{Lenient}
use Rattle.gj_forms.proofs.CanonicalLines.{line_in, plain_by_test}
use Rattle.gj_shape.specs.Breaks.{BreakList, AreBreaks, IsOfBreaks}
use Rattle.gj_shape.specs.FunctionData.{FunctionData}
use Rattle.gj_shape.specs.declared.breaks.Break.{Break}
use Rattle.gj_function_lines.specs.BreakLines.{break_line}
use Rattle.gj_function_lines.specs.FunctionLines.{line, place_form, place_line}
use Rattle.gj_function_lines.proofs.ClearLines.{good_place}
use Rattle.gj_forms.specs.LineForms.{words_of}
use Rattle.gj_forms.proofs.SpelledLines.{spells_its_thing, has_its_line}
use Rattle.gj_function_lines.proofs.CanonicalBreaks.{words_of_break, break_is_read, break_is_spelled}
use Rattle.gj_function_text.specs.BreaksText.{end_words}
use Rattle.gj_function_text.specs.FunctionText.{breaks_title_words, canonical_breaks_text, IsFunctionText}
use Rattle.gj_function_text.specs.LinesOfFunction.{SpellBreak}
use Rattle.gj_function_text.proofs.LinesOfFunction.{lines_are_text}

-- ---- the lines

place_is_read : (place : Frac) (rest : List ℕ) →
    HasLine Lenient (place_line place ++ rest) (place_line place ++ rest)
    (words_of (place_form.fields place)) rest
place_is_read place rest =
    has_its_line Lenient (place_form.fields place) (place_line place ++ rest) rest
    (good_place place) (λ z. omega arith) refl

breaks_are_read : (breaks : List Break) (after : List ℕ) →
    HasLines Lenient (flat_map break_line breaks ++ (line (codes "end") ++ after))
    (map words_of_break breaks ++ end_words ∷ []) after
breaks_are_read [] after =
    let text = line (codes "end") ++ after in (
      text,
      after,
      line_in Lenient (codes "end") [] text after (plain_by_test end_words refl)
          (λ e. omega arith) refl,
      refl,
    )
breaks_are_read (b ∷ breaks) after =
    let more = flat_map break_line breaks ++ (line (codes "end") ++ after) in
    let text = flat_map break_line (b ∷ breaks) ++ (line (codes "end") ++ after) in
    let split : text ≡ break_line b ++ more =
    append_assoc (break_line b) (flat_map break_line breaks) (line (codes "end") ++ after) in (
      text,
      more,
      subst (λ t. HasLine Lenient t t (words_of_break b) more) (sym split)
          (break_is_read b more),
      breaks_are_read breaks after,
    )

breaks_are_spelled : (breaks : List Break) → AllZip SpellBreak (map words_of_break breaks) breaks
breaks_are_spelled [] = tt
breaks_are_spelled (b ∷ breaks) = (break_is_spelled b, breaks_are_spelled breaks)

-- ---- the text

regrouped : (title place lines end after : List ℕ) →
    (title ++ place ++ lines ++ end) ++ after ≡ title ++ (place ++ (lines ++ (end ++ after)))
regrouped title place lines end after = simp append_assoc

pub breaks_read_again : (list : BreakList) (f : FunctionData) (after : List ℕ) → AreBreaks list →
    list.breaks ≢ [] → IsOfBreaks list f →
    IsFunctionText (canonical_breaks_text list.place list.breaks ++ after) f after
breaks_read_again list f after are some of =
    let last = flat_map break_line list.breaks ++ (line (codes "end") ++ after) in
    let middle = place_line list.place ++ last in
    let text = canonical_breaks_text list.place list.breaks ++ after in
    let split : text ≡ line (codes "gj-function 2") ++ middle =
    regrouped (line (codes "gj-function 2")) (place_line list.place)
    (flat_map break_line list.breaks) (line (codes "end")) after in
    let title = line_in Lenient (codes "gj-function") (codes "2" ∷ []) text middle
    (plain_by_test breaks_title_words refl) (λ e. omega arith)
    split in
    let points = map words_of_break list.breaks in
    lines_are_text text f after
    (inr (inr (record {
      has_lines = (
        text,
        middle,
        title,
        (middle, last, place_is_read list.place last, breaks_are_read list.breaks after),
      );
      place = words_of (place_form.fields list.place);
      points = points;
      list = list;
      are_breaks = are;
      some = some;
      place_spelled = spells_its_thing Lenient place_form list.place (good_place list.place) tt;
      points_spelled = breaks_are_spelled list.breaks;
      function_is = of;
    })))
