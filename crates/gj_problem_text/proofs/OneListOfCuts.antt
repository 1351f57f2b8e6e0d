-- A text of cuts spells one list of them.
use Rattle.std.proofs.Common.{◌≡◌, ℕ, ◌<◌, List, [], ◌∷◌, ◌++◌, All, length, map, flat_map, codes, refl, sym, ap, ap₂, subst, ◌∙◌}
use Rattle.std.proofs.lemmas.Grind.{flat_map-append}
use Rattle.std.proofs.lemmas.List.{append-nil}
use Rattle.std.proofs.lemmas.List.Elements.{All-nil, All-cons, All-head, All-tail}
use Rattle.gj_frac.specs.declared.Frac.{Frac}
use Rattle.gj_lex.proofs.CanonicalTexts.{same_from_fraction_text}
use Rattle.gj_forms.specs.LineForms.{Field, LineForm, words_of, first_of, others_of, line_of}
use Rattle.gj_forms.specs.LineForms.Field.{word, fraction}
use Rattle.gj_forms.proofs.FieldWords.{AreGood, head_and_tail}
use Rattle.gj_forms.proofs.LineLaws.{IsClear, same_lines}
use Rattle.gj_forms.proofs.PlainWords.{apart, known, name_is_plain}
use Rattle.gj_problem.specs.declared.problem.Entry.{Entry}
use Rattle.gj_safe_cut.specs.declared.cut.SafeCut.{SafeCut}
use Rattle.gj_safe_cut.specs.declared.cut.SafeCut.TheVariants.{Cut, Integral, OtherFraction, Free, Wide}
use Rattle.gj_problem_text.specs.CutText.{name_at, cut_term_line, cut_lines, AreNames, HasColumnsBelow}

-- ---- lines as data

data SafeLine : Type 0 where
  cut : Frac → SafeLine
  term : List ℕ → Frac → SafeLine
  integral : SafeLine
  other : SafeLine
  free : List ℕ → SafeLine
  wide : SafeLine

abbrev fields_of : SafeLine → List Field
fields_of (cut x) = word (codes "cut") ∷ fraction x ∷ []
fields_of (term name x) = word (codes "term") ∷ word name ∷ fraction x ∷ []
fields_of integral = word (codes "skip") ∷ word (codes "integral") ∷ []
fields_of other = word (codes "skip") ∷ word (codes "other") ∷ []
fields_of (free name) = word (codes "skip") ∷ word (codes "free") ∷ word name ∷ []
fields_of wide = word (codes "skip") ∷ word (codes "wide") ∷ []

abbrev IsGoodLine : SafeLine → Type 0
IsGoodLine l = AreGood (fields_of l)

abbrev safe_form : LineForm SafeLine
safe_form = record { fields = fields_of; HasForm = IsGoodLine; HasLine = IsGoodLine }

abbrev line_bytes : SafeLine → List ℕ
line_bytes = line_of safe_form

module _ (names : List (List ℕ)) where
  abbrev term_at : Entry → SafeLine
  term_at e = term (name_at names e.column) e.value

  abbrev lines_of : SafeCut → List SafeLine
  lines_of (Cut q) = cut q.right ∷ map term_at q.entries
  lines_of Integral = integral ∷ []
  lines_of OtherFraction = other ∷ []
  lines_of (Free j) = free (name_at names j) ∷ []
  lines_of Wide = wide ∷ []

  terms_are : (es : List Entry) →
      flat_map (cut_term_line names) es ≡ flat_map line_bytes (map term_at es)
  terms_are [] = refl
  terms_are (e ∷ es) = ap (λ t. cut_term_line names e ++ t) (terms_are es)

  lines_are : (c : SafeCut) → cut_lines names c ≡ flat_map line_bytes (lines_of c)
  lines_are (Cut q) = ap (λ t. line_bytes (cut q.right) ++ t) (terms_are q.entries)
  lines_are Integral = sym (append-nil (line_bytes integral))
  lines_are OtherFraction = sym (append-nil (line_bytes other))
  lines_are (Free j) = sym (append-nil (line_bytes (free (name_at names j))))
  lines_are Wide = sym (append-nil (line_bytes wide))

  text_is : (cs : List SafeCut) →
      flat_map (cut_lines names) cs ≡ flat_map line_bytes (flat_map lines_of cs)
  text_is [] = refl
  text_is (c ∷ cs) = ap₂ (λ s t. s ++ t) (lines_are c) (text_is cs)
      ∙ sym (flat_map-append line_bytes (lines_of c) (flat_map lines_of cs))

-- ---- the words of a line tell it

second : (words others : List (List ℕ)) → words ≡ others →
    first_of (others_of words) ≡ first_of (others_of others)
second words others e = ap (λ ws. first_of (others_of ws)) e

abbrev head : SafeLine → List ℕ
head (cut x) = codes "cut"
head (term name x) = codes "term"
head integral = codes "skip"
head other = codes "skip"
head (free name) = codes "skip"
head wide = codes "skip"

one_line : (a b : SafeLine) → words_of (fields_of a) ≡ words_of (fields_of b) → a ≡ b
one_line (cut x) (cut y) e = ap cut (same_from_fraction_text x y (second _ _ e))
one_line (term m x) (term n y) e =
    ap₂ term (second _ _ e)
    (same_from_fraction_text x y (ap (λ ws. first_of (others_of (others_of ws))) e))
one_line integral integral e = refl
one_line other other e = refl
one_line (free m) (free n) e = ap free (ap (λ ws. first_of (others_of (others_of ws))) e)
one_line wide wide e = refl
one_line integral other e = absurd (apart (codes "integral") (codes "other") refl (second _ _ e))
one_line integral (free n) e = absurd (apart (codes "integral") (codes "free") refl (second _ _ e))
one_line integral wide e = absurd (apart (codes "integral") (codes "wide") refl (second _ _ e))
one_line other integral e = absurd (apart (codes "other") (codes "integral") refl (second _ _ e))
one_line other (free n) e = absurd (apart (codes "other") (codes "free") refl (second _ _ e))
one_line other wide e = absurd (apart (codes "other") (codes "wide") refl (second _ _ e))
one_line (free m) integral e = absurd (apart (codes "free") (codes "integral") refl (second _ _ e))
one_line (free m) other e = absurd (apart (codes "free") (codes "other") refl (second _ _ e))
one_line (free m) wide e = absurd (apart (codes "free") (codes "wide") refl (second _ _ e))
one_line wide integral e = absurd (apart (codes "wide") (codes "integral") refl (second _ _ e))
one_line wide other e = absurd (apart (codes "wide") (codes "other") refl (second _ _ e))
one_line wide (free n) e = absurd (apart (codes "wide") (codes "free") refl (second _ _ e))
one_line a b e = absurd (apart (head a) (head b) refl (ap first_of e))

form_is_clear : IsClear safe_form
form_is_clear = record { of_form = λ a h. h; good = λ a h. h; one = λ a b h k e. one_line a b e }

-- ---- lines tell cuts

abbrev NoTermFirst : List SafeLine → Type 0
NoTermFirst [] = Unit {0}
NoTermFirst (cut x ∷ ls) = Unit {0}
NoTermFirst (term name x ∷ ls) = ⊥
NoTermFirst (integral ∷ ls) = Unit {0}
NoTermFirst (other ∷ ls) = Unit {0}
NoTermFirst (free name ∷ ls) = Unit {0}
NoTermFirst (wide ∷ ls) = Unit {0}

one_term : (m n : List ℕ) (x y : Frac) → term m x ≡ term n y → (m ≡ n) × (x ≡ y)
one_term m n x y e = (cc, cc)

one_right : (x y : Frac) → cut x ≡ cut y → x ≡ y
one_right x y e = cc

one_name : (m n : List ℕ) → free m ≡ free n → m ≡ n
one_name m n e = cc

-- a word for each cut, which its first line tells
abbrev kind : SafeCut → List ℕ
kind (Cut q) = codes "cut"
kind Integral = codes "integral"
kind OtherFraction = codes "other"
kind (Free j) = codes "free"
kind Wide = codes "wide"

abbrev line_kind : List SafeLine → List ℕ
line_kind (cut x ∷ ls) = codes "cut"
line_kind (integral ∷ ls) = codes "integral"
line_kind (other ∷ ls) = codes "other"
line_kind (free name ∷ ls) = codes "free"
line_kind (wide ∷ ls) = codes "wide"
line_kind (term name x ∷ ls) = codes "term"
line_kind [] = []

module _ (names : List (List ℕ)) (are : AreNames names) where
  no_term_first : (cs : List SafeCut) → NoTermFirst (flat_map (lines_of names) cs)
  no_term_first [] = tt
  no_term_first (Cut q ∷ cs) = tt
  no_term_first (Integral ∷ cs) = tt
  no_term_first (OtherFraction ∷ cs) = tt
  no_term_first (Free j ∷ cs) = tt
  no_term_first (Wide ∷ cs) = tt

  abbrev IsBelow : Entry → Type 0
  IsBelow e = e.column < length names

  same_terms : (es ds : List Entry) (xs ys : List SafeLine) → All IsBelow es → All IsBelow ds →
      NoTermFirst xs → NoTermFirst ys →
      map (term_at names) es ++ xs ≡ map (term_at names) ds ++ ys → (es ≡ ds) × (xs ≡ ys)
  same_terms [] [] xs ys g h start end e = (refl, e)
  same_terms [] (d ∷ ds) xs ys g h start end e = absurd (subst NoTermFirst e start)
  same_terms (d ∷ es) [] xs ys g h start end e = absurd (subst NoTermFirst (sym e) end)
  same_terms (a ∷ es) (b ∷ ds) xs ys g h start end e =
      let both = head_and_tail (term_at names a) (term_at names b) (map (term_at names) es ++ xs)
      (map (term_at names) ds ++ ys) e in
      let one = one_term (name_at names a.column) (name_at names b.column) a.value b.value both.0 in
      let column = are.different a.column b.column (All-head IsBelow a es g)
      (All-head IsBelow b ds h) one.0 in
      let rest = same_terms es ds xs ys (All-tail IsBelow a es g)
      (All-tail IsBelow b ds h) start end both.1 in (
        ap₂ (λ (f : Entry) fs. f ∷ fs) (ap₂ (λ j x. record { column = j; value = x }) column one.1)
            rest.0,
        rest.1,
      )

  abbrev IsKnownCut : SafeCut → Type 0
  IsKnownCut = HasColumnsBelow (length names)

  same_cuts : (cs ds : List SafeCut) → All IsKnownCut cs → All IsKnownCut ds →
      flat_map (lines_of names) cs ≡ flat_map (lines_of names) ds → cs ≡ ds
  same_cuts [] [] g h e = refl
  same_cuts [] (Cut q ∷ ds) g h e = absurd (apart [] (codes "cut") refl (ap line_kind e))
  same_cuts [] (Integral ∷ ds) g h e = absurd (apart [] (codes "integral") refl (ap line_kind e))
  same_cuts [] (OtherFraction ∷ ds) g h e = absurd (apart [] (codes "other") refl (ap line_kind e))
  same_cuts [] (Free j ∷ ds) g h e = absurd (apart [] (codes "free") refl (ap line_kind e))
  same_cuts [] (Wide ∷ ds) g h e = absurd (apart [] (codes "wide") refl (ap line_kind e))
  same_cuts (Cut q ∷ cs) [] g h e = absurd (apart (codes "cut") [] refl (ap line_kind e))
  same_cuts (Integral ∷ cs) [] g h e = absurd (apart (codes "integral") [] refl (ap line_kind e))
  same_cuts (OtherFraction ∷ cs) [] g h e = absurd (apart (codes "other") [] refl (ap line_kind e))
  same_cuts (Free j ∷ cs) [] g h e = absurd (apart (codes "free") [] refl (ap line_kind e))
  same_cuts (Wide ∷ cs) [] g h e = absurd (apart (codes "wide") [] refl (ap line_kind e))
  same_cuts (Cut q ∷ cs) (Cut r ∷ ds) g h e =
      let both = head_and_tail (cut q.right) (cut r.right)
      (map (term_at names) q.entries ++ flat_map (lines_of names) cs)
      (map (term_at names) r.entries ++ flat_map (lines_of names) ds) e in
      let terms = same_terms q.entries r.entries (flat_map (lines_of names) cs)
      (flat_map (lines_of names) ds)
      (All-head IsKnownCut (Cut q) cs g) (All-head IsKnownCut (Cut r) ds h) (no_term_first cs)
      (no_term_first ds) both.1 in
      ap₂ (λ (c : SafeCut) es. c ∷ es)
      (ap₂ (λ es x. Cut (record { entries = es; right = x })) terms.0
      (one_right q.right r.right both.0))
      (same_cuts cs ds (All-tail IsKnownCut (Cut q) cs g)
      (All-tail IsKnownCut (Cut r) ds h) terms.1)
  same_cuts (Integral ∷ cs) (Integral ∷ ds) g h e =
      ap (λ (es : List SafeCut). Integral ∷ es)
      (same_cuts cs ds (All-tail IsKnownCut Integral cs g) (All-tail IsKnownCut Integral ds h)
      (head_and_tail _ _ _ _ e).1)
  same_cuts (OtherFraction ∷ cs) (OtherFraction ∷ ds) g h e =
      ap (λ (es : List SafeCut). OtherFraction ∷ es)
      (same_cuts cs ds (All-tail IsKnownCut OtherFraction cs g)
      (All-tail IsKnownCut OtherFraction ds h) (head_and_tail _ _ _ _ e).1)
  same_cuts (Wide ∷ cs) (Wide ∷ ds) g h e =
      ap (λ (es : List SafeCut). Wide ∷ es)
      (same_cuts cs ds (All-tail IsKnownCut Wide cs g) (All-tail IsKnownCut Wide ds h)
      (head_and_tail _ _ _ _ e).1)
  same_cuts (Free j ∷ cs) (Free k ∷ ds) g h e =
      let both = head_and_tail (free (name_at names j)) (free (name_at names k))
      (flat_map (lines_of names) cs) (flat_map (lines_of names) ds) e in
      let column = are.different j k (All-head IsKnownCut (Free j) cs g)
      (All-head IsKnownCut (Free k) ds h)
      (one_name (name_at names j) (name_at names k) both.0) in
      ap₂ (λ (c : SafeCut) es. c ∷ es) (ap Free column)
      (same_cuts cs ds (All-tail IsKnownCut (Free j) cs g)
      (All-tail IsKnownCut (Free k) ds h) both.1)
  same_cuts (c ∷ cs) (d ∷ ds) g h e = absurd (apart (kind c) (kind d) refl (ap line_kind e))

  -- ---- all lines are good

  good_name : (j : ℕ) → j < length names → AreGood (word (name_at names j) ∷ [])
  good_name j below = name_is_plain (name_at names j) (are.are j [] below)

  good_terms : (es : List Entry) (ls : List SafeLine) → All IsBelow es → All IsGoodLine ls →
      All IsGoodLine (map (term_at names) es ++ ls)
  good_terms [] ls h good = good
  good_terms (e ∷ es) ls h good =
      All-cons IsGoodLine (term_at names e) (map (term_at names) es ++ ls)
      (known (codes "term") refl, (good_name e.column (All-head IsBelow e es h), tt))
      (good_terms es ls (All-tail IsBelow e es h) good)

  good_lines : (cs : List SafeCut) → All IsKnownCut cs →
      All IsGoodLine (flat_map (lines_of names) cs)
  good_lines [] h = All-nil IsGoodLine
  good_lines (Cut q ∷ cs) h =
      let later = flat_map (lines_of names) cs in
      All-cons IsGoodLine (cut q.right) (map (term_at names) q.entries ++ later)
      (known (codes "cut") refl, tt)
      (good_terms q.entries later (All-head IsKnownCut (Cut q) cs h)
      (good_lines cs (All-tail IsKnownCut (Cut q) cs h)))
  good_lines (Integral ∷ cs) h =
      All-cons IsGoodLine integral (flat_map (lines_of names) cs)
      (known (codes "skip") refl, known (codes "integral") refl)
      (good_lines cs (All-tail IsKnownCut Integral cs h))
  good_lines (OtherFraction ∷ cs) h =
      All-cons IsGoodLine other (flat_map (lines_of names) cs)
      (known (codes "skip") refl, known (codes "other") refl)
      (good_lines cs (All-tail IsKnownCut OtherFraction cs h))
  good_lines (Free j ∷ cs) h =
      All-cons IsGoodLine (free (name_at names j)) (flat_map (lines_of names) cs) (
        known (codes "skip") refl,
        (known (codes "free") refl, good_name j (All-head IsKnownCut (Free j) cs h)),
      )
      (good_lines cs (All-tail IsKnownCut (Free j) cs h))
  good_lines (Wide ∷ cs) h =
      All-cons IsGoodLine wide (flat_map (lines_of names) cs)
      (known (codes "skip") refl, known (codes "wide") refl)
      (good_lines cs (All-tail IsKnownCut Wide cs h))

  pub one_list : (cs ds : List SafeCut) → All IsKnownCut cs → All IsKnownCut ds →
      flat_map (cut_lines names) cs ≡ flat_map (cut_lines names) ds →
      cs ≡ ds
  one_list cs ds g h e =
      same_cuts cs ds g h
      (same_lines safe_form form_is_clear (flat_map (lines_of names) cs)
      (flat_map (lines_of names) ds)
      (good_lines cs g) (good_lines ds h) (sym (text_is names cs) ∙ e ∙ text_is names ds))
