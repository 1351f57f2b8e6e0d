-- A line that says why a step is left out is skipped.
use Rattle.std.proofs.Common.{true}
use Rattle.std.proofs.Common.{◌≡◌, ◌≢◌, inl, inr, ℕ, ◌+◌, Option, Some, None, All, List, [], ◌∷◌}
use Rattle.std.proofs.Common.{◌++◌, length, get_or, take, drop, codes, append_assoc, refl, sym, ap}
use Rattle.std.proofs.Common.{subst, ◌∙◌, arith}
use Rattle.std.specs.List.{join_with_byte, position, position_or_len}
use Rattle.std.proofs.lemmas.Bool.{cases_lt}
use Rattle.std.proofs.lemmas.List.{get_or_past}
use Rattle.std.proofs.lemmas.List.Elements.{All-append, All-cons, All-get_or, All-nil, All-weaker}
use Rattle.gj_lex.specs.Lines.{is_line_feed}
use Rattle.gj_lex.specs.Name.{IsName}
use Rattle.gj_lex.specs.NumberText.{IsWordByte}
use Rattle.gj_lex.specs.declared.spelling.Spelling.TheVariants.{Lenient}
use Rattle.gj_lex.proofs.SpelledWords.{fraction_is_plain}
use Rattle.gj_lex.proofs.WordBytes.{IsPlain}
use Rattle.gj_lex.proofs.WordRuns.{is_word_byte}
use Rattle.gj_forms.specs.LineForms.{Field, words_of}
use Rattle.gj_forms.specs.LineForms.Field.{word}
use Rattle.gj_forms.specs.TextLines.{HasFirstWords, HasLine, IsSkipped}
use Rattle.gj_forms.specs.TextLines.HasNextLine.{further}
use Rattle.gj_forms.proofs.CommentLines.{behind_comment}
use Rattle.gj_forms.proofs.FieldWords.{joined_words}
use Rattle.gj_forms.proofs.LenientLines.{one_cut, feed_within, cut_at_feed, uncut}
use Rattle.gj_forms.proofs.PlainWords.{is_plain, known, name_is_plain}
use Rattle.gj_derivation.specs.declared.step.Verdict.{Verdict}
use Rattle.gj_derivation.specs.declared.step.Verdict.TheVariants.{Accepted, Sign, Free, Integral}
use Rattle.gj_derivation.specs.declared.step.Verdict.TheVariants.{Other, Bound, Right, Wide}
use Rattle.gj_problem_text.specs.CutText.{name_at, AreNames}
use Rattle.gj_derivation_text.specs.OpenSteps.{StepsGoOn}
use Rattle.gj_derivation_text.specs.VerdictLines.{cause_fields, left_out_line}

-- ---- a line of words has no line feed in it

abbrev HasNoFeed : List ℕ → Type 0
HasNoFeed w = All (λ b. b ≢ 10) w

abbrev HaveNoFeed : List (List ℕ) → Type 0
HaveNoFeed [] = Unit {0}
HaveNoFeed (w ∷ ws) = HasNoFeed w × HaveNoFeed ws

joined_no_feed : (ws : List (List ℕ)) → HaveNoFeed ws → HasNoFeed (join_with_byte 32 ws)
joined_no_feed [] h = All-nil (λ b. b ≢ 10)
joined_no_feed (w ∷ []) h = h.0
joined_no_feed (w ∷ v ∷ ws) h =
    let space : 32 ≢ 10 = λ e. omega (arith, e) in
    All-append (λ b. b ≢ 10) w (32 ∷ join_with_byte 32 (v ∷ ws)) h.0
    (All-cons (λ b. b ≢ 10) 32 (join_with_byte 32 (v ∷ ws)) space (joined_no_feed (v ∷ ws) h.1))

plain_no_feed : (w : List ℕ) → IsPlain w → HasNoFeed w
plain_no_feed w h = All-weaker IsWordByte (λ b. b ≢ 10) (λ b k. k.no_line_feed) w h.1

known_no_feed : (w : List ℕ) → is_plain w ≡ true → HasNoFeed w
known_no_feed w h = plain_no_feed w (known w h)

-- nor has a name, or what stands for one that is not there
name_no_feed : (names : List (List ℕ)) (j : ℕ) → AreNames names → HasNoFeed (name_at names j)
name_no_feed names j are = elim (cases_lt j (length names)) [
  | inl below ↦
      plain_no_feed (name_at names j)
      (name_is_plain (name_at names j) (All-get_or IsName names j [] below are.are))
  | inr past ↦ subst HasNoFeed (sym (get_or_past names j [] past)) (All-nil (λ b. b ≢ 10))
]

cause_no_feed : (columns lines : List (List ℕ)) (v : Verdict) → AreNames columns → AreNames lines →
    HaveNoFeed (words_of (cause_fields columns lines v))
cause_no_feed columns lines Accepted h k = tt
cause_no_feed columns lines (Sign i) h k =
    (known_no_feed (codes "sign") refl, (name_no_feed lines i k, tt))
cause_no_feed columns lines (Free j) h k =
    (known_no_feed (codes "free") refl, (name_no_feed columns j h, tt))
cause_no_feed columns lines Integral h k = (known_no_feed (codes "integral") refl, tt)
cause_no_feed columns lines Other h k = (known_no_feed (codes "other") refl, tt)
cause_no_feed columns lines (Bound j) h k =
    (known_no_feed (codes "bound") refl, (name_no_feed columns j h, tt))
cause_no_feed columns lines (Right b) h k =
    (known_no_feed (codes "right") refl, (plain_no_feed _ (fraction_is_plain b), tt))
cause_no_feed columns lines Wide h k = (known_no_feed (codes "wide") refl, tt)

-- ---- a line that begins with `#`

comment_line : (text line rest : List ℕ) → text ≡ line ++ 10 ∷ rest →
    get_or text (position_or_len is_word_byte text) 0 ≡ 35 → HasNoFeed line →
    (words : List (List ℕ)) × HasFirstWords text words rest × IsSkipped words
comment_line text line rest whole comment free = by_place (position is_line_feed text) refl
  where
    by_place : (p : Option ℕ) → position is_line_feed text ≡ p →
        (words : List (List ℕ)) × HasFirstWords text words rest × IsSkipped words
    by_place None none = absurd (feed_within line rest (subst HasNoFeed whole (uncut text none)))
    by_place (Some end) is =
        let cut = cut_at_feed text end is in
        let both = one_cut line (take end text) rest (drop (end + 1) text) free cut.0
        (sym whole ∙ cut.1) in
        let (words, has, skipped) = behind_comment text end comment is in
        (words, subst (λ (r : List ℕ). HasFirstWords text words r) (sym both.1) has, skipped)

-- the next line of what follows is the next line of the text
abbrev pub IsAhead : List ℕ → List ℕ → Type 0
IsAhead text next =
    (start : List ℕ) (words : List (List ℕ)) (rest : List ℕ) →
    HasLine Lenient next start words rest → HasLine Lenient text start words rest

pub left_out_is_ahead : (columns lines : List (List ℕ)) (name : List ℕ) (v : Verdict)
    (text rest : List ℕ) → AreNames columns → AreNames lines →
    IsName name → text ≡ left_out_line columns lines name v ++ rest → IsAhead text rest
left_out_is_ahead columns lines name v text rest h k is_name is start words end line =
    further text found.0 rest found.1 found.2 line
  where
    fields : List Field
    fields = word (codes "#") ∷ word name ∷ cause_fields columns lines v

    bytes : List ℕ
    bytes = join_with_byte 32 (words_of fields)

    whole : text ≡ bytes ++ 10 ∷ rest
    whole =
        is ∙ ap (λ (t : List ℕ). t ++ rest) (joined_words fields)
        ∙ append_assoc bytes (10 ∷ []) rest

    comment : get_or text (position_or_len is_word_byte text) 0 ≡ 35
    comment =
        subst (λ (t : List ℕ). get_or t (position_or_len is_word_byte t) 0 ≡ 35) (sym whole) refl

    free : HasNoFeed bytes
    free = joined_no_feed (words_of fields) (
      known_no_feed (codes "#") refl,
      (plain_no_feed name (name_is_plain name is_name), cause_no_feed columns lines v h k),
    )

    found : (skipped : List (List ℕ)) × HasFirstWords text skipped rest × IsSkipped skipped
    found = comment_line text bytes rest whole comment free

pub steps_ahead : (text next : List ℕ) → IsAhead text next → StepsGoOn next → StepsGoOn text
steps_ahead text next ahead (inl (words, (start, rest, line))) =
    inl (words, (start, rest, ahead start (codes "step" ∷ words) rest line))
steps_ahead text next ahead (inr (words, (start, rest, line))) =
    inr (words, (start, rest, ahead start (codes "end" ∷ words) rest line))
