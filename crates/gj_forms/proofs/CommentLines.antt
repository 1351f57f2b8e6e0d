-- Lines whose first byte other than space and tab is `#`.
use Rattle.std.proofs.Common.{◌≡◌, ◌≢◌, true, false, suc, ℕ, ◌+◌, ◌<◌, None, Some, List, [], ◌∷◌, ◌++◌, length, get_or, take, drop, inl, inr, eqb, refl, sym, ◌∙◌, ap, subst, arith}
use Rattle.std.specs.List.{position, position_or_len}
use Rattle.std.proofs.lemmas.Bool.{cases_Bool, cases_lt, eq-eqb}
use Rattle.std.proofs.lemmas.List.{get_or_past, same_from_push}
use Rattle.std.proofs.lemmas.Bool.Decides.{nat_tests}
use Rattle.gj_lex.specs.Words.{word_texts}
use Rattle.gj_lex.specs.Lines.{is_line_feed}
use Rattle.gj_forms.specs.TextLines.{AreBytesOf, HasFirstWords, IsSkipped}
use Rattle.gj_forms.specs.TextLines.AreBytesOf.{kept}
use Rattle.gj_forms.proofs.LenientLines.{return_dropped, words_before_feed, words_without_feed, cut_at_feed}
use Rattle.gj_lex.proofs.FirstPlaces.{position_is}
use Rattle.gj_lex.proofs.WordRuns.{is_word_byte}
use Rattle.gj_forms.proofs.LineWords.{skipped_by_first}

-- the first byte that is no blank is `#`
abbrev pub IsComment : List ℕ → Type 0
IsComment text = get_or text (position_or_len is_word_byte text) 0 ≡ 35

-- the place where it stands
comment_place : (text : List ℕ) → IsComment text →
    position is_word_byte text ≡ Some (position_or_len is_word_byte text)
comment_place text is = position_is is_word_byte text (position_or_len is_word_byte text) refl
    (elim (cases_lt (position_or_len is_word_byte text) (length text)) [
      | inl low ↦ low
      | inr high ↦ absurd (omega
          (arith, is, get_or_past text (position_or_len is_word_byte text) 0 high))
    ])

-- such a line is skipped
comment_skipped : (bytes : List ℕ) → IsComment bytes → IsSkipped (word_texts bytes)
comment_skipped bytes is =
    let k = position_or_len is_word_byte bytes in
    (skipped_by_first bytes k (comment_place bytes is)).0 (eq-eqb (get_or bytes k 0) 35 is)

-- the first byte that is no blank, by the first byte of all
first_here : (b : ℕ) (bs : List ℕ) → is_word_byte b ≡ true →
    get_or (b ∷ bs) (position_or_len is_word_byte (b ∷ bs)) 0 ≡ b
first_here b bs h = ap (λ k. get_or (b ∷ bs) k 0) at
  where
    at : position_or_len is_word_byte (b ∷ bs) ≡ 0
    at = rw h refl

first_behind : (b : ℕ) (bs : List ℕ) → is_word_byte b ≡ false →
    get_or (b ∷ bs) (position_or_len is_word_byte (b ∷ bs)) 0
    ≡ get_or bs (position_or_len is_word_byte bs) 0
first_behind b bs h = ap (λ k. get_or (b ∷ bs) k 0) at
  where
    at : position_or_len is_word_byte (b ∷ bs) ≡ suc (position_or_len is_word_byte bs)
    at = rw h (omega arith)

-- what stands before another byte that is no blank begins so too
comment_before : (c : ℕ) → is_word_byte c ≡ true → c ≢ 35 → (front rest : List ℕ) →
    IsComment (front ++ c ∷ rest) → IsComment front
comment_before c word other [] rest is = absurd (other (sym (first_here c rest word) ∙ is))
comment_before c word other (b ∷ front) rest is = elim (cases_Bool (is_word_byte b)) [
  | inl here ↦ first_here b front here ∙ sym (first_here b (front ++ c ∷ rest) here) ∙ is
  | inr behind ↦
      first_behind b front behind
      ∙ comment_before c word other front rest (sym (first_behind b (front ++ c ∷ rest) behind)
      ∙ is)
]

-- a line with a byte is what stands before its last one, and that
last_of : (b : ℕ) (bs : List ℕ) → (front : List ℕ) × (last : ℕ) × (b ∷ bs ≡ front ++ last ∷ [])
last_of b [] = ([], b, refl)
last_of b (c ∷ bs) = let rest = last_of c bs in (b ∷ rest.0, rest.1, ap (λ t. b ∷ t) rest.2)

-- the bytes of such a line begin so too
comment_bytes : (line : List ℕ) → IsComment line → (bytes : List ℕ) × IsComment bytes ×
    ((rest : List ℕ) → AreBytesOf (line ++ 10 ∷ rest) line bytes)
comment_bytes [] is = absurd (omega (arith, is))
comment_bytes (b ∷ bs) is =
    let (front, last, whole) = last_of b bs in
    elim (cases_Bool (eqb last 13)) [
      | inl return ↦
          let same : last ≡ 13 = grind (arith, nat_tests) in
          let before = comment_before 13 refl (omega arith) front []
          (subst IsComment (whole ∙ ap (λ c. front ++ c ∷ []) same) is) in
          (front, before, return_dropped (b ∷ bs) front last whole same)
      | inr none ↦
          let other : last ≢ 13 = λ same. grind (arith, nat_tests) in (
            b ∷ bs,
            is,
            λ rest. kept
                (λ before behind e f. other (same_from_push front before last 13 (sym whole ∙ e)).1)
                refl,
          )
    ]

-- what follows the first LF follows a line that is skipped, if the text begins so
pub behind_comment : (text : List ℕ) (end : ℕ) → IsComment text →
    position is_line_feed text ≡ Some end →
    (words : List (List ℕ)) × HasFirstWords text words (drop (end + 1) text) × IsSkipped words
behind_comment text end is h =
    let cut = cut_at_feed text end h in
    let line = take end text in
    let bytes = comment_bytes line
    (comment_before 10 refl (omega arith) line (drop (end + 1) text)
    (subst IsComment cut.1 is)) in (
      word_texts bytes.0,
      words_before_feed text bytes.0 end h bytes.2,
      comment_skipped bytes.0
          bytes.1,
    )

-- and so does what follows a text without LF
pub comment_to_end : (text rest : List ℕ) → IsComment text → position is_line_feed text ≡ None →
    rest ≡ [] →
    (words : List (List ℕ)) × HasFirstWords text words rest × IsSkipped words
comment_to_end text rest is h none =
    (word_texts text, words_without_feed text rest h (some text is) none, comment_skipped text is)
  where
    some : (text : List ℕ) → IsComment text → 0 < length text
    some [] is = absurd (omega (arith, is))
    some (b ∷ text) is = omega arith
