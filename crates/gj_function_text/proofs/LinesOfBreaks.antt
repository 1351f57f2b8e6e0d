-- A function text by breakpoints has the lines of its function, and a text that has them is one.
use Rattle.std.proofs.Common.{◌≡◌, ◌≢◌, ◌⊎◌, inl, inr, codes, ℕ, List, [], ◌∷◌, ◌++◌, refl, sym, ap, subst, ◌∙◌, append-nil, append_assoc}
use Rattle.std.specs.List.{AllZip}
use Rattle.gj_forms.specs.TextLines.{HasLines, HasNextLine}
use Rattle.gj_forms.specs.Parts.{ReadsInTurn}
use Rattle.gj_forms.specs.Parts.ReadsInTurn.{last, onward}
use Rattle.gj_lex.specs.declared.spelling.Spelling.TheVariants.{Lenient}
use Rattle.gj_forms.proofs.WhereLaws.{other_word}
use Rattle.gj_shape.specs.FunctionData.{FunctionData}
use Rattle.gj_shape.specs.Breaks.{BreakList, no_breaks, AreBreaks, IsOfBreaks, Follows}
use Rattle.gj_shape.specs.declared.breaks.Break.{Break}
use Rattle.gj_shape.proofs.BreakLists.{breaks_of_none}
use Rattle.gj_shape.proofs.BreakChains.{breaks_kept, next_follows, one_break_list, place_denominator}
use Rattle.gj_forms.specs.SpelledForms.{Spell}
use Rattle.gj_forms.proofs.SpelledLaws.{spelled_words}
use Rattle.gj_function_lines.specs.FunctionLines.{place_form}
use Rattle.gj_function_lines.specs.BreakLines.{break_form}
use Rattle.gj_function_text.specs.BreaksText.{end_words, next_break}
use Rattle.gj_function_text.specs.FunctionText.{breaks_title_words, breaks_text}
use Rattle.gj_function_text.specs.LinesOfFunction.{SpellBreak, HasLinesOfBreaks}

-- ---- from the grammar to the lines

-- the lines of the breakpoints behind those of s, and the last line, tell f
record HasBreakLines (f : FunctionData) (rest : List ℕ) (s : BreakList) (text : List ℕ) :
    Type 0 where
  points : List (List (List ℕ))
  added : List Break
  list : BreakList
  are_breaks : AreBreaks list
  some : list.breaks ≢ []
  place_is : list.place ≡ s.place
  breaks_are : list.breaks ≡ s.breaks ++ added
  spelled : AllZip SpellBreak points added
  function_is : IsOfBreaks list f
  lines : HasLines Lenient text (points ++ end_words ∷ []) rest

-- what was read leads to one next list, or ends with one function
same_list : (s t : BreakList) → ◌≡◌ {A = BreakList ⊎ FunctionData} (inl s) (inl t) → s ≡ t
same_list s t e = cc

same_function : (f g : FunctionData) → ◌≡◌ {A = BreakList ⊎ FunctionData} (inr f) (inr g) → f ≡ g
same_function f g e = cc

not_both_ways : (s : BreakList) (f : FunctionData) →
    ◌≡◌ {A = BreakList ⊎ FunctionData} (inl s) (inr f) → ⊥
not_both_ways s f e = cc

turns_have_lines : (f : FunctionData) (rest : List ℕ) (s : BreakList) (text : List ℕ) →
    AreBreaks s →
    ReadsInTurn (λ t. (next_break t).Reads) f rest s text → HasBreakLines f rest s text
turns_have_lines f rest s text are
    (last _ _ (inl ((some, begins), (g, (start, words, line, (t, is, of)), same)))) = record {
      points = [];
      added = [];
      list = s;
      are_breaks = are;
      some = some;
      place_is = refl;
      breaks_are = sym (append-nil s.breaks);
      spelled = tt;
      function_is = subst (IsOfBreaks s) (sym (same_function f g same)) of;
      lines = (start, rest, subst (λ ws. HasNextLine start ws rest text) is line, refl);
    }
turns_have_lines f rest s text are (last _ _ (inr (not, (t, reads, same)))) =
    absurd (not_both_ways t f (sym same))
turns_have_lines f rest s text are (onward _ _ next middle (inl (ends, (g, reads, same))) more) =
    absurd (not_both_ways next g same)
turns_have_lines f rest s text are
    (onward _ _ next middle (inr (not, (t, (start, words, line, (b, spelled, follows)), same)))
    more) =
    let behind = subst (λ u. Follows s b u) (sym (same_list next t same)) follows in
    let found = turns_have_lines f rest next middle (breaks_kept s next b are behind) more in
    record {
      points = words ∷ found.points;
      added = b ∷ found.added;
      list = found.list;
      are_breaks = found.are_breaks;
      some = found.some;
      place_is = found.place_is ∙ behind.place_is;
      breaks_are = found.breaks_are ∙ ap (λ bs. bs ++ found.added) behind.breaks_are
          ∙ append_assoc s.breaks (b ∷ []) found.added;
      spelled = (spelled, found.spelled);
      function_is = found.function_is;
      lines = (start, middle, line, found.lines);
    }

pub breaks_have_lines : (text : List ℕ) (f : FunctionData) (rest : List ℕ) →
    breaks_text.Reads text f rest → HasLinesOfBreaks text f rest
breaks_have_lines text f rest (
  t,
  m,
  (start, ws, title, title_is),
  (s, n, (start1, ws1, line, (x, spelled, (inside, few, list_is))), turns),
) =
    let found = turns_have_lines f rest (no_breaks x) n (breaks_of_none x inside few)
    (subst (λ u. ReadsInTurn (λ t. (next_break t).Reads) f rest u n) list_is turns) in
    record {
      has_lines = (
        start,
        m,
        subst (λ vs. HasNextLine start vs m text) title_is title,
        (start1, n, line, found.lines),
      );
      place = ws1;
      points = found.points;
      list = found.list;
      are_breaks = found.are_breaks;
      some = found.some;
      place_spelled = subst (λ p. Spell Lenient place_form ws1 p) (sym found.place_is) spelled;
      points_spelled = subst (λ bs. AllZip SpellBreak found.points bs)
          (sym found.breaks_are) found.spelled;
      function_is = found.function_is;
    }

-- ---- from the lines to the grammar

-- the line of a breakpoint is not the last one
not_the_end : (words more : List (List ℕ)) → codes "point" ∷ words ≡ codes "end" ∷ more → ⊥
not_the_end words more e = cc

-- the lines of the breakpoints behind those of s, up to all of the list, are read in turn
lines_in_turn : (all : BreakList) (f : FunctionData) (rest : List ℕ) → AreBreaks all →
    all.breaks ≢ [] → IsOfBreaks all f →
    (points : List (List (List ℕ))) (back : List Break) (s : BreakList) (text : List ℕ) →
    AreBreaks s → s.place ≡ all.place →
    all.breaks ≡ s.breaks ++ back → AllZip SpellBreak points back →
    HasLines Lenient text (points ++ end_words ∷ []) rest →
    ReadsInTurn (λ t. (next_break t).Reads) f rest s text
lines_in_turn all f rest whole some of [] [] s text are place split spelled
    (start, next, line, at) =
    let same : all ≡ s = one_break_list all s whole are (sym place) (split ∙ append-nil s.breaks) in
    let end = subst (λ r. HasNextLine start end_words r text) at line in
    last s text
    (inl (
      (subst (λ (u : BreakList). u.breaks ≢ []) same some, ([], (start, rest, end))),
      (
        f,
        (start, end_words, end, (tt, refl, subst (λ (u : BreakList). IsOfBreaks u f) same of)),
        refl,
      ),
    ))
lines_in_turn all f rest whole some of [] (b ∷ back) s text are place split spelled lines =
    absurd spelled
lines_in_turn all f rest whole some of (words ∷ points) [] s text are place split spelled lines =
    absurd spelled
lines_in_turn all f rest whole some of (words ∷ points) (b ∷ back) s text are place split
    (spelled, more) (start, next, line, lines) =
    let (order, follows) = next_follows all s b back whole are place split in
    let t : BreakList = record { place = s.place; order = order; breaks = s.breaks ++ b ∷ [] } in
    let (numbers, (h, u), b_is) = spelled in
    let is = spelled_words Lenient (break_form.fields numbers) words h in
    onward s text t next
    (inr (
      λ begins. other_word Lenient text start words (codes "end") next line
          (λ tail e. not_the_end _ tail (sym is ∙ e)) begins.1,
      (t, (start, words, line, (b, spelled, follows)), refl),
    ))
    (lines_in_turn all f rest whole some of points back t next (breaks_kept s t b are follows) place
    (split ∙ sym (append_assoc s.breaks (b ∷ []) back)) more lines)

pub lines_are_breaks : (text : List ℕ) (f : FunctionData) (rest : List ℕ) →
    HasLinesOfBreaks text f rest → breaks_text.Reads text f rest
lines_are_breaks text f rest h =
    let list = h.list in
    let whole = h.are_breaks in
    let few = place_denominator list whole in
    let (start, m, title, (start1, n, line, lines)) = h.has_lines in (
      tt,
      m,
      (start, breaks_title_words, title, refl),
      (
        no_breaks list.place,
        n,
        (
          start1,
          h.place,
          line,
          (list.place, h.place_spelled, (whole.inside, few, refl)),
        ),
        lines_in_turn list f rest whole h.some h.function_is h.points list.breaks
            (no_breaks list.place) n
            (breaks_of_none list.place whole.inside few) refl refl h.points_spelled lines,
      ),
    )
