-- The words of a line, one after another.
use Rattle.std.proofs.Common.{◌≡◌, ℕ, zero, suc, ◌+◌, ◌<◌, Bool, true, false, not, List, [], ◌++◌, length, get_or, drop, refl, sym, ◌∙◌, ap, subst, arith, append-nil, true≢false}
use Rattle.std.specs.List.{position_or_len}
use Rattle.gj_lemmas.proofs.Choices.{not_true, not_false}
use Rattle.gj_lex.specs.Words.{is_blank, AllBlank, IsNextWord, AreWords}
use Rattle.gj_lex.proofs.Places.{fails_until, passes_there, place_within}

-- whether a byte is no blank
abbrev pub is_word_byte : ℕ → Bool
is_word_byte b = not (is_blank b)

-- blanks up to the first byte that is none
pub blank_until : (line : List ℕ) (from : ℕ) →
    AllBlank line from (from + position_or_len is_word_byte (drop from line))
blank_until line from = λ k low high. not_false (is_blank (get_or line k 0))
    (fails_until is_word_byte line from k low high)

-- only blanks, if no byte is none
pub blank_to_end : (line : List ℕ) (from : ℕ) →
    length line ≡ from + position_or_len is_word_byte (drop from line) →
    AllBlank line from (length line)
blank_to_end line from e = subst (AllBlank line from) (sym e) (blank_until line from)

-- a word that begins with no blank ends later
word_is_longer : (line : List ℕ) (start end : ℕ) → start < length line →
    is_blank (get_or line start 0) ≡ false →
    end ≡ start + position_or_len is_blank (drop start line) → start < end
word_is_longer line start end high first e =
    longer (position_or_len is_blank (drop start line)) refl
  where
    longer : (k : ℕ) → k ≡ position_or_len is_blank (drop start line) → start < end
    longer zero is =
        let here : start + position_or_len is_blank (drop start line) ≡ start = omega arith in
        let passes : is_blank (get_or line start 0) ≡ true =
        ap (λ i. is_blank (get_or line i 0)) (sym here)
        ∙ passes_there is_blank line start (omega arith) in
        absurd (true≢false (sym passes ∙ first))
    longer (suc k) is = omega arith

-- the first byte that is no blank begins a word, and the next blank ends it
pub word_at : (line : List ℕ) (from start end : ℕ) →
    start ≡ from + position_or_len is_word_byte (drop from line) → start < length line →
    end ≡ start + position_or_len is_blank (drop start line) → IsNextWord line from start end
word_at line from start end start_is high end_is =
    let first : is_blank (get_or line start 0) ≡ false =
    not_true (is_blank (get_or line start 0))
    (ap (λ i. is_word_byte (get_or line i 0)) start_is
    ∙ passes_there is_word_byte line from (omega arith)) in
    let longer : start < end = word_is_longer line start end high first end_is in
    record {
      behind = omega arith;
      blank_before = subst (AllBlank line from) (sym start_is) (blank_until line from);
      some = longer;
      within = omega (arith, place_within is_blank line start (omega arith));
      no_blank = λ k low high'. fails_until is_blank line start k low (omega arith);
      ended = λ high'. ap (λ i. is_blank (get_or line i 0)) end_is
          ∙ passes_there is_blank line start (omega arith);
    }

-- no word is left
pub no_more_words : (line : List ℕ) (place : ℕ) (words : List (ℕ × ℕ)) →
    AllBlank line place (length line) →
    ((rest : List (ℕ × ℕ)) → AreWords line place rest → AreWords line 0 (words ++ rest)) →
    AreWords line 0 words
no_more_words line place words blank so_far =
    subst (AreWords line 0) (append-nil words) (so_far [] blank)
