-- The words of a line (own).
use Rattle.std.specs.Prelude.{ℕ, ◌≡◌, ◌<◌, ◌≤◌, Bool, true, false, nat_lt, ◌==◌, ◌||◌, List, [], ◌∷◌, ◌++◌, All, length, slice_index}
use Rattle.std.specs.List.{filter, slice_range, slice_split}

-- a byte that parts words: a space or a tab
abbrev pub is_blank : ℕ → Bool
is_blank b = (b == 32) || (b == 9)

-- all bytes of the line from one place up to another are blanks
abbrev pub AllBlank : List ℕ → ℕ → ℕ → Type 0
AllBlank line from to = (k : ℕ) → from ≤ k → k < to → is_blank (slice_index line k) ≡ true

-- a run of bytes that are no blanks, and the first one from a place on: nothing but blanks stands
-- before it, and it ends at a blank or at the end of the line
pub record IsNextWord (line : List ℕ) (from start end : ℕ) : Type 0 where
  pub behind : from ≤ start
  pub blank_before : AllBlank line from start
  pub some : start < end
  pub within : end ≤ length line
  pub no_blank : (k : ℕ) → start ≤ k → k < end → is_blank (slice_index line k) ≡ false
  pub ended : end < length line → is_blank (slice_index line end) ≡ true

-- the words of the line from a place on, each by its start and its end: a next word, and then the
-- words from its end on; or no word, if only blanks are left
abbrev pub AreWords : List ℕ → ℕ → List (ℕ × ℕ) → Type 0
AreWords line from [] = AllBlank line from (length line)
AreWords line from (word ∷ words) = IsNextWord line from word.0 word.1 × AreWords line word.1 words

-- the bytes of a word
abbrev pub word_text : List ℕ → ℕ × ℕ → List ℕ
word_text line word = slice_range line word.0 word.1

-- the bytes of all words, in order: of the parts of the line between its blanks, those with a byte
abbrev pub word_texts : List ℕ → List (List ℕ)
word_texts line = filter (λ part. nat_lt 0 (length part)) (slice_split is_blank line)

-- the line is blanks, or none, then the word, and then the rest
abbrev pub HasAtFront : List ℕ → List ℕ → List ℕ → Type 0
HasAtFront line word rest =
    (blanks : List ℕ) × All (λ b. is_blank b ≡ true) blanks × (line ≡ blanks ++ (word ++ rest))
