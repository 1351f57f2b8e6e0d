-- A function text has the lines of its function, and a text that has them is one.
use Rattle.std.proofs.Common.{◌≡◌, ◌⊎◌, ⊎_elim, inl, inr, codes, ℕ, zero, suc, pos, List, [], ◌∷◌, ◌++◌, length, refl, sym, ap, subst, subst₂, ◌∙◌, append-nil, append_assoc}
use Rattle.std.specs.List.{AllZip}
use Rattle.std.proofs.lemmas.Grind.{flat_map-append}
use Rattle.gj_frac.specs.Fraction.{IsRatio}
use Rattle.gj_forms.specs.Parts.{BeginsWithLine, BeginsWithWord}
use Rattle.gj_forms.specs.TextLines.{HasLines, HasNextLine}
use Rattle.gj_lex.specs.declared.spelling.Spelling.TheVariants.{Lenient, Strict}
use Rattle.gj_forms.proofs.WhereLaws.{other_line, begins_so}
use Rattle.gj_shape.specs.FunctionData.{FunctionData}
use Rattle.gj_shape.specs.Given.{AreWithinBounds}
use Rattle.gj_shape.specs.Points.{fractions_of, all_fractions, ArePointsOf}
use Rattle.gj_shape.specs.declared.points.Point.{Point}
use Rattle.gj_shape.proofs.GivenPoints.{given_by_points, points_given, good_points, count_of_points}
use Rattle.gj_shape.proofs.LeastDenominator.{within_bounds_closed}
use Rattle.gj_function_lines.specs.FunctionGrammar.{points_part, function_part}
use Rattle.gj_function_text.specs.BreaksText.{end_words}
use Rattle.gj_function_text.specs.FunctionText.{title_words, breaks_title_words, points_text, IsFunctionText}
use Rattle.gj_function_text.specs.FamilyLine.{Family, gmic, half, two_slope, family_fields}
use Rattle.gj_forms.specs.LineForms.{with_numbers}
use Rattle.gj_forms.specs.SpelledForms.{SpellFields, Spell}
use Rattle.gj_forms.proofs.SpelledLaws.{spelled_words}
use Rattle.gj_function_lines.specs.FunctionLines.{order_form}
use Rattle.gj_function_text.specs.LinesOfFunction.{SpellPoint, HasLinesOfFunction, HasLinesOfFamily, HasLinesOfBreaks}
use Rattle.gj_function_text.proofs.LinesOfBreaks.{breaks_have_lines, lines_are_breaks}
use Rattle.gj_function_text.proofs.FunctionTexts.{no_family_line, one_title}

-- ---- lines, one after the other

lines_joined : (text middle rest : List ℕ) (lines more : List (List (List ℕ))) →
    HasLines Lenient text lines middle →
    HasLines Lenient middle more rest → HasLines Lenient text (lines ++ more) rest
lines_joined text middle rest [] more h k = subst (λ t. HasLines Lenient t more rest) (sym h) k
lines_joined text middle rest (words ∷ lines) more (start, next, line, h) k =
    (start, next, line, lines_joined next middle rest lines more h k)

lines_split : (text rest : List ℕ) (lines more : List (List (List ℕ))) →
    HasLines Lenient text (lines ++ more) rest →
    (middle : List ℕ) × HasLines Lenient text lines middle × HasLines Lenient middle more rest
lines_split text rest [] more h = (text, refl, h)
lines_split text rest (words ∷ lines) more (start, next, line, h) =
    let (middle, front, back) = lines_split next rest lines more h in
    (middle, (start, next, line, front), back)

-- ---- the points

-- the lines of the points behind these
record HasPointLines (text rest : List ℕ) (before points : List Point) : Type 0 where
  spelling : List (List (List ℕ))
  added : List Point
  points_are : points ≡ before ++ added
  spelled : AllZip SpellPoint spelling added
  lines : HasLines Lenient text spelling rest

points_have_lines : (n : ℕ) (before : List Point) (text rest : List ℕ) (points : List Point) →
    (points_part Lenient n before).Reads text points rest → HasPointLines text rest before points
points_have_lines zero before text rest points (is, at) = record {
  spelling = [];
  added = [];
  points_are = is ∙ sym (append-nil before);
  spelled = tt;
  lines = at;
}
points_have_lines (suc n) before text rest points
    (p, next, (start, words, line, (q, (n', (not, spelled), q_is), (p_is, within))), h) =
    let more = points_have_lines n (before ++ p ∷ []) next rest points h in
    record {
      spelling = words ∷ more.spelling;
      added = p ∷ more.added;
      points_are = more.points_are ∙ append_assoc before (p ∷ []) more.added;
      spelled = ((n', spelled, p_is ∙ q_is), more.spelled);
      lines = (start, next, line, more.lines);
    }

-- the first points of some that are within bounds
first_points : (before more : List Point) (p : Point) →
    AreWithinBounds (all_fractions (before ++ p ∷ more)) →
    AreWithinBounds (all_fractions (before ++ p ∷ []))
first_points before more p h =
    within_bounds_closed (all_fractions (before ++ p ∷ [])) (all_fractions more)
    (subst AreWithinBounds
    (ap all_fractions (sym (append_assoc before (p ∷ []) more))
    ∙ flat_map-append fractions_of (before ++ p ∷ []) more) h)

lenient_or_strict : Lenient ≡ Strict → ⊥
lenient_or_strict e = cc

points_from_lines : (lines : List (List (List ℕ))) (added before : List Point)
    (text rest : List ℕ) →
    AllZip SpellPoint lines added → HasLines Lenient text lines rest →
    AreWithinBounds (all_fractions (before ++ added)) →
    (points_part Lenient (length added) before).Reads text (before ++ added) rest
points_from_lines [] [] before text rest spelled h within = (append-nil before, h)
points_from_lines [] (p ∷ added) before text rest spelled h within = absurd spelled
points_from_lines (words ∷ lines) [] before text rest spelled h within = absurd spelled
points_from_lines (words ∷ lines) (p ∷ added) before text rest ((n, spelled, p_is), more)
    (start, next, line, h) within =
    let same : (before ++ p ∷ []) ++ added ≡ before ++ p ∷ added =
    append_assoc before (p ∷ []) added in
    let behind = points_from_lines lines added (before ++ p ∷ []) next rest more h
    (subst (λ ps. AreWithinBounds (all_fractions ps)) (sym same) within) in (
      p,
      next,
      (
        start,
        words,
        line,
        (
          p,
          (n, (λ same. lenient_or_strict same.0, spelled), p_is),
          (refl, first_points before added p within),
        ),
      ),
      subst (λ ps. (points_part Lenient (length added) (before ++ p ∷ [])).Reads next ps rest) same
          behind,
    )

-- ---- the whole text

points_text_has_lines : (text : List ℕ) (f : FunctionData) (rest : List ℕ) →
    points_text.Reads text f rest →
    HasLinesOfFunction text f rest ⊎ HasLinesOfFamily text f rest
points_text_has_lines text f rest (
  t,
  m,
  (s, ws, title, title_is),
  (
    g,
    n,
    inl (begins, (s1, ws1, line, (family, spelled, (is_of, within)))),
    (t', r, (s3, ws3, last, last_is), (same, at)),
  ),
) =
    let end : HasLines Lenient n (end_words ∷ []) rest =
    (s3, r, subst (λ vs. HasNextLine s3 vs r n) last_is last, at) in
    let found : HasLinesOfFamily text g rest = record {
      words = ws1;
      family = family;
      spelled = spelled;
      is_of = is_of;
      within = within;
      has_lines = (
        s,
        m,
        subst (λ vs. HasNextLine s vs m text) title_is title,
        (s1, n, line, end),
      );
    } in
    inr (subst (λ (h : FunctionData). HasLinesOfFamily text h rest) (sym same) found)
points_text_has_lines text f rest (
  t,
  m,
  (s, ws, title, title_is),
  (
    g,
    n,
    inr (
      not_family,
      (
        q,
        m1,
        (s1, ws1, order_line, (order, order_spelled, (q_is, order_fits))),
        (
          k,
          m2,
          (s2, ws2, place_line, (fraction, place_spelled, (place_fits, ratio))),
          (points, points_read, given),
        ),
      ),
    ),
    (t', r, (s3, ws3, last, last_is), (same, at)),
  ),
) =
    let pts = points_have_lines q [] m2 n points points_read in
    let end : HasLines Lenient n (end_words ∷ []) rest =
    (s3, r, subst (λ vs. HasNextLine s3 vs r n) last_is last, at) in
    let found : HasLinesOfFunction text g rest = record {
      within = given.within;
      has_lines = (
        s,
        m,
        subst (λ vs. HasNextLine s vs m text) title_is title,
        (
          s1,
          m1,
          order_line,
          (
            s2,
            m2,
            place_line,
            lines_joined m2 n rest pts.spelling
                (end_words ∷ []) pts.lines end,
          ),
        ),
      );
      order = ws1;
      place = ws2;
      point_lines = pts.spelling;
      fraction = fraction;
      points = pts.added;
      order_spelled = subst (Spell Lenient order_form ws1) (sym (given.order ∙ q_is)) order_spelled;
      place_spelled = place_spelled;
      place_is = subst₂ (λ i j. IsRatio fraction (pos i) (pos j)) (sym given.place)
          (sym given.order) ratio;
      points_spelled = pts.spelled;
      points_are = subst (ArePointsOf g) pts.points_are (points_given q k points g given);
    } in
    inl (subst (λ (h : FunctionData). HasLinesOfFunction text h rest) (sym same) found)

pub text_has_lines : (text : List ℕ) (f : FunctionData) (rest : List ℕ) →
    IsFunctionText text f rest →
    HasLinesOfFunction text f rest ⊎ HasLinesOfFamily text f rest ⊎ HasLinesOfBreaks text f rest
text_has_lines text f rest (inl (begins, h)) = inr (inr (breaks_have_lines text f rest h))
text_has_lines text f rest (inr (not, h)) = ⊎_elim (λ lines. inl lines) (λ lines. inr (inl lines))
    (points_text_has_lines text f rest h)

no_breaks_title : (text start rest : List ℕ) → HasNextLine start title_words rest text →
    BeginsWithLine Lenient breaks_title_words text → ⊥
no_breaks_title text start rest line begins =
    other_line Lenient text start title_words breaks_title_words rest line one_title begins

function_lines_are_text : (text : List ℕ) (f : FunctionData) (rest : List ℕ) →
    HasLinesOfFunction text f rest → IsFunctionText text f rest
function_lines_are_text text f rest h =
    let within = h.within in
    let (s, m, title, (s1, m1, order_line, (s2, m2, place_line, more))) =
    h.has_lines in
    let (n, point_lines, (s3, r, last, at)) =
    lines_split m2 rest h.point_lines (end_words ∷ []) more in
    let points_read = subst (λ j. (points_part Lenient j []).Reads m2 h.points n)
    (count_of_points h.points f within h.points_are)
    (points_from_lines h.point_lines h.points [] m2 n h.points_spelled point_lines
    (good_points h.points f within h.points_are)) in
    let lines : (function_part Lenient).Reads m f n = (
      f.order,
      m1,
      (
        s1,
        h.order,
        order_line,
        (f.order, h.order_spelled, (refl, (within.order_low, within.order_high))),
      ),
      (
        f.place,
        m2,
        (
          s2,
          h.place,
          place_line,
          (h.fraction, h.place_spelled, ((within.place_low, within.place_high), h.place_is)),
        ),
        (h.points, points_read, given_by_points h.points f within h.points_are),
      ),
    ) in
    inr (
      no_breaks_title text s m title,
      (
        tt,
        m,
        (s, title_words, title, refl),
        (
          f,
          n,
          inr (no_family_line m f n lines, lines),
          (tt, r, (s3, end_words, last, refl), (refl, at)),
        ),
      ),
    )

-- the words of a family begin with `family`
family_begins : (text start rest : List ℕ) (words : List (List ℕ)) (a : Family) →
    HasNextLine start words rest text →
    SpellFields Lenient (family_fields a) words → BeginsWithWord Lenient (codes "family") text
family_begins text start rest words a line spelled =
    let (more, is) = first_word a in (
      more,
      (
        start,
        rest,
        subst (λ ws. HasNextLine start ws rest text)
            (spelled_words Lenient _ words spelled ∙ is) line,
      ),
    )
  where
    first_word : (b : Family) →
        (more : List (List ℕ)) × (with_numbers (family_fields b) words ≡ codes "family" ∷ more)
    first_word (gmic x) = (_, refl)
    first_word (half x) = (_, refl)
    first_word (two_slope k w) = (_, refl)

family_lines_are_text : (text : List ℕ) (f : FunctionData) (rest : List ℕ) →
    HasLinesOfFamily text f rest → IsFunctionText text f rest
family_lines_are_text text f rest h =
    let (s, m, title, (s1, n, line, (s3, r, last, at))) = h.has_lines in
    inr (
      no_breaks_title text s m title,
      (
        tt,
        m,
        (s, title_words, title, refl),
        (
          f,
          n,
          inl (
            family_begins m s1 n h.words h.family line h.spelled.0,
            (s1, h.words, line, (h.family, h.spelled, (h.is_of, h.within))),
          ),
          (tt, r, (s3, end_words, last, refl), (refl, at)),
        ),
      ),
    )

breaks_lines_are_text : (text : List ℕ) (f : FunctionData) (rest : List ℕ) →
    HasLinesOfBreaks text f rest → IsFunctionText text f rest
breaks_lines_are_text text f rest h =
    let reads = lines_are_breaks text f rest h in
    let (t, m, title, turns) = reads in
    inl (begins_so Lenient text m breaks_title_words title, reads)

pub lines_are_text : (text : List ℕ) (f : FunctionData) (rest : List ℕ) →
    HasLinesOfFunction text f rest ⊎ HasLinesOfFamily text f rest ⊎ HasLinesOfBreaks text f rest →
    IsFunctionText text f rest
lines_are_text text f rest h =
    ⊎_elim (function_lines_are_text text f rest)
    (⊎_elim (family_lines_are_text text f rest) (breaks_lines_are_text text f rest)) h
