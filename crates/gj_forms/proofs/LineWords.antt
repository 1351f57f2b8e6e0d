-- The first word of a line, and the words behind it.
use Rattle.std.proofs.Common.{◌≡◌, ◌↔◌, ℕ, suc, ◌+◌, ◌<◌, ◌==◌, IsTrue, false, true, List, [], ◌∷◌, ◌++◌, length, get_or, take, drop, None, Some, sym, ◌∙◌, ap, refl, subst, arith, append-nil, take-append-drop, length-take, length-drop, get_or-take, get_or-drop}
use Rattle.std.specs.List.{All, position, position_or_len}
use Rattle.std.proofs.lemmas.Bool.{eqb-true, eq-eqb}
use Rattle.std.proofs.lemmas.List.{drop_more}
use Rattle.std.proofs.lemmas.List.Elements.{All-weaker, All-from_get_or}
use Rattle.std.proofs.lemmas.List.Sums.{fails_before_first, passes_at_first}
use Rattle.gj_lemmas.proofs.Choices.{not_true, not_false}
use Rattle.gj_lex.specs.Words.{HasAtFront, is_blank, word_texts}
use Rattle.gj_forms.specs.TextLines.{IsSkipped}
use Rattle.gj_lex.proofs.FirstPlaces.{first_place, no_place}
use Rattle.gj_lex.proofs.WordRuns.{is_word_byte}
use Rattle.gj_lex.proofs.WordTexts.{skip_blanks, take_word}

-- a line that has only blanks has no word
pub no_words : (line : List ℕ) → position is_word_byte line ≡ None → word_texts line ≡ []
no_words line h =
    ap word_texts (sym (append-nil line))
    ∙ skip_blanks line [] (All-weaker (λ b. is_word_byte b ≡ false) (λ b. is_blank b ≡ true)
    (λ b. not_false (is_blank b)) line (no_place is_word_byte line h))

-- the bytes up to the first blank
whole_word : (rest : List ℕ) →
    All (λ b. is_blank b ≡ false) (take (position_or_len is_blank rest) rest)
whole_word rest =
    let end = position_or_len is_blank rest in
    All-from_get_or (λ b. is_blank b ≡ false) (take end rest) 0
    (λ i l.
    let short : i < end = omega (arith, length-take end rest) in
    ap is_blank (get_or-take end rest i 0 short) ∙ fails_before_first is_blank rest i 0 short)

-- behind it stands a blank
word_ended : (rest : List ℕ) → 0 < length (drop (position_or_len is_blank rest) rest) →
    is_blank (get_or (drop (position_or_len is_blank rest) rest) 0 0) ≡ true
word_ended rest h =
    let end = position_or_len is_blank rest in
    ap is_blank (get_or-drop end rest 0 0 ∙ ap (λ k. get_or rest k 0) (omega arith))
    ∙ passes_at_first is_blank rest 0 (omega (arith, length-drop end rest))

-- it is not empty if it begins with no blank
word_some : (b : ℕ) (bs : List ℕ) → is_blank b ≡ false →
    0 < length (take (position_or_len is_blank (b ∷ bs)) (b ∷ bs))
word_some b bs h =
    let at : position_or_len is_blank (b ∷ bs) ≡ 1 + position_or_len is_blank bs = rw h refl in
    omega (arith, length-take (position_or_len is_blank (b ∷ bs)) (b ∷ bs))

-- the first word of a line that begins with no blank
word_at_front : (b : ℕ) (bs rest : List ℕ) (end : ℕ) → is_blank b ≡ false → rest ≡ b ∷ bs →
    end ≡ position_or_len is_blank rest →
    word_texts rest ≡ take end rest ∷ word_texts (drop end rest)
word_at_front b bs rest end h is at =
    rw (at, is)
    (ap word_texts (sym (take-append-drop (position_or_len is_blank (b ∷ bs)) (b ∷ bs)))
    ∙ take_word (take (position_or_len is_blank (b ∷ bs)) (b ∷ bs))
    (drop (position_or_len is_blank (b ∷ bs)) (b ∷ bs)) (word_some b bs h)
    (whole_word (b ∷ bs)) (word_ended (b ∷ bs)))

-- the first word of a line, and the words behind it
pub first_word : (line rest : List ℕ) (k end : ℕ) → position is_word_byte line ≡ Some k →
    rest ≡ drop k line →
    end ≡ position_or_len is_blank rest →
    word_texts line ≡ take end rest ∷ word_texts (drop end rest)
first_word line rest k end h is at =
    let place = first_place is_word_byte line k h in
    let same : rest ≡ get_or line k 0 ∷ drop (k + 1) line = is ∙ drop_more line k 0 place.0 in
    ap word_texts (sym (take-append-drop k line) ∙ ap (λ t. take k line ++ t) (sym is))
    ∙ skip_blanks (take k line) rest
    (All-weaker (λ b. is_word_byte b ≡ false) (λ b. is_blank b ≡ true) (λ b. not_false (is_blank b))
    (take k line) place.3)
    ∙ word_at_front (get_or line k 0) (drop (k + 1) line) rest end
    (not_true (is_blank (get_or line k 0)) place.2)
    same at

-- and the line is the blanks before it, the word, and what stands behind it
pub word_parts : (line rest : List ℕ) (k end : ℕ) → position is_word_byte line ≡ Some k →
    rest ≡ drop k line →
    HasAtFront line (take end rest) (drop end rest)
word_parts line rest k end h is =
    let place = first_place is_word_byte line k h in (
      take k line,
      All-weaker (λ b. is_word_byte b ≡ false) (λ b. is_blank b ≡ true)
          (λ b. not_false (is_blank b)) (take k line) place.3,
      sym (take-append-drop k line)
          ∙ ap (λ t. take k line ++ t) (sym is ∙ sym (take-append-drop end rest)),
    )

-- the first byte that is no blank is the first of the first word
first_word_begins : (line : List ℕ) (k : ℕ) → position is_word_byte line ≡ Some k →
    (more : List ℕ) × (words : List (List ℕ)) × (word_texts line ≡ (get_or line k 0 ∷ more) ∷ words)
first_word_begins line k h =
    let place = first_place is_word_byte line k h in
    let b = get_or line k 0 in
    let bs = drop (k + 1) line in
    let rest : drop k line ≡ b ∷ bs = drop_more line k 0 place.0 in
    let blank = not_true (is_blank b) place.2 in
    let end : position_or_len is_blank (b ∷ bs) ≡ suc (position_or_len is_blank bs) =
    rw blank (omega arith) in
    let at = ap (position_or_len is_blank) rest ∙ end in (
      take (position_or_len is_blank bs) bs,
      word_texts (drop (suc (position_or_len is_blank bs)) (drop k line)),
      first_word line (drop k line) k (suc (position_or_len is_blank bs)) h refl (sym at)
          ∙ ap (λ t. take (suc (position_or_len is_blank bs)) t ∷ word_texts
          (drop (suc (position_or_len is_blank bs)) (drop k line))) rest,
    )

-- it tells whether the line is skipped
pub skipped_by_first : (line : List ℕ) (k : ℕ) → position is_word_byte line ≡ Some k →
    IsTrue (get_or line k 0 == 35) ↔ IsSkipped (word_texts line)
skipped_by_first line k h =
    let (more, words, is) = first_word_begins line k h in (
      λ e. subst IsSkipped (sym is) (more, ap (λ b. b ∷ more) (eqb-true (get_or line k 0) 35 e)),
      λ s. eq-eqb (get_or line k 0) 35 (let r = (subst IsSkipped is s).1 in cc),
    )
