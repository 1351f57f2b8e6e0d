-- The lines of a text by their words, in either spelling (own).
use Rattle.std.specs.Prelude.{ℕ, ◌≡◌, ◌≢◌, ◌-◌, ◌+◌, ◌<◌, ◌==◌, List, [], ◌∷◌, ◌++◌, All, length, count_by, slice_index}
use Rattle.std.specs.List.{join_with_byte}
use Rattle.gj_lex.specs.Words.{word_texts}
use Rattle.gj_lex.specs.declared.spelling.Spelling.{Spelling}
use Rattle.gj_lex.specs.declared.spelling.Spelling.TheVariants.{Lenient, Strict}

-- ---- lenient lines

-- the text is one line with its LF, and the rest follows; or the text is not empty and has no LF:
-- then all of it is the line
pub data IsFirstLine (text line rest : List ℕ) : Type 0 where
  ended : All (λ b. b ≢ 10) line → text ≡ line ++ 10 ∷ rest → IsFirstLine text line rest
  unended : All (λ b. b ≢ 10) line → text ≡ line → line ≢ [] → rest ≡ [] →
      IsFirstLine text line rest

-- the bytes that count: without the CR that stands before the LF, if one does
pub data AreBytesOf (text line bytes : List ℕ) : Type 0 where
  dropped : (rest : List ℕ) → text ≡ bytes ++ 13 ∷ 10 ∷ rest → line ≡ bytes ++ 13 ∷ [] →
      AreBytesOf text line bytes
  kept : ((front rest : List ℕ) → line ≡ front ++ 13 ∷ [] → text ≡ line ++ 10 ∷ rest → ⊥) →
      bytes ≡ line → AreBytesOf text line bytes

-- the first line of the text has these words, and the rest follows it
pub record HasFirstWords (text : List ℕ) (words : List (List ℕ)) (rest : List ℕ) : Type 0 where
  pub line : List ℕ
  pub bytes : List ℕ
  pub is_first : IsFirstLine text line rest
  pub bytes_of : AreBytesOf text line bytes
  pub words_are : words ≡ word_texts bytes

-- a line is skipped that has no word, or whose first word begins with `#`
abbrev pub IsSkipped : List (List ℕ) → Type 0
IsSkipped [] = Unit {0}
IsSkipped (word ∷ words) = (more : List ℕ) × (word ≡ 35 ∷ more)

-- behind lines that are skipped, the text goes on from `start` with a line of these words that is
-- not, and the rest follows it
pub data HasNextLine (start : List ℕ) (words : List (List ℕ)) (rest : List ℕ) : List ℕ →
    Type 0 where
  here : (text : List ℕ) → start ≡ text → HasFirstWords text words rest → (IsSkipped words → ⊥) →
      HasNextLine start words rest text
  further : (text : List ℕ) (skipped : List (List ℕ)) (next : List ℕ) →
      HasFirstWords text skipped next → IsSkipped skipped →
      HasNextLine start words rest next → HasNextLine start words rest text

-- all lines of the text are skipped
pub data IsSkippedText : List ℕ → Type 0 where
  nothing : (text : List ℕ) → text ≡ [] → IsSkippedText text
  more : (text : List ℕ) (skipped : List (List ℕ)) (next : List ℕ) →
      HasFirstWords text skipped next → IsSkipped skipped →
      IsSkippedText next → IsSkippedText text

-- ---- strict lines

-- a byte that neither parts words nor ends a line: no tab, no LF and no space
pub record IsInWord (b : ℕ) : Type 0 where
  pub no_tab : b ≢ 9
  pub no_line_feed : b ≢ 10
  pub no_space : b ≢ 32

-- a word is not empty, and has no tab, LF or space
pub record IsWord (word : List ℕ) : Type 0 where
  pub some : 0 < length word
  pub bytes : All IsInWord word

-- the text begins with these words, one space between them and an LF behind them, and the rest
-- follows; no CR stands right before that LF
pub record HasStrictLine (text : List ℕ) (words : List (List ℕ)) (rest : List ℕ) : Type 0 where
  pub some : words ≢ []
  pub are_words : All IsWord words
  pub no_return : slice_index (join_with_byte 32 words) (length (join_with_byte 32 words) - 1) ≢ 13
  pub spelled : text ≡ join_with_byte 32 words ++ 10 ∷ rest

-- ---- lines in either spelling

-- the next line of the text begins at `start` and has these words, and the rest follows it
abbrev pub HasLine : Spelling → List ℕ → List ℕ → List (List ℕ) → List ℕ → Type 0
HasLine Lenient text start words rest = HasNextLine start words rest text
HasLine Strict text start words rest = (start ≡ text) × HasStrictLine text words rest

-- the text has no next line, which shows at `start`: at its end, or in strict spelling if its first
-- line is none
abbrev pub HasNoLine : Spelling → List ℕ → List ℕ → Type 0
HasNoLine Lenient text start = (start ≡ []) × IsSkippedText text
HasNoLine Strict text start = (start ≡ text)
    × ((words : List (List ℕ)) (rest : List ℕ) → HasStrictLine text words rest → ⊥)

-- nothing follows, but lines that are skipped
abbrev pub HasNothing : Spelling → List ℕ → Type 0
HasNothing Lenient text = IsSkippedText text
HasNothing Strict text = text ≡ []

-- something follows, which shows at `start`
abbrev pub HasSomething : Spelling → List ℕ → List ℕ → Type 0
HasSomething Lenient text start = (words : List (List ℕ)) × (rest : List ℕ)
    × HasNextLine start words rest text
HasSomething Strict text start = (start ≡ text) × (text ≢ [])

-- the text has lines with these words, one after the other; the rest follows
abbrev pub HasLines : Spelling → List ℕ → List (List (List ℕ)) → List ℕ → Type 0
HasLines s text [] rest = text ≡ rest
HasLines s text (words ∷ lines) rest =
    (start : List ℕ) × (next : List ℕ) × HasLine s text start words next
    × HasLines s next lines rest

-- ---- the number of a line

abbrev pub line_feeds : List ℕ → ℕ
line_feeds text = count_by (λ b. b == 10) text

-- the line that begins at `start`, a part of the text to its end, is the n-th; if that part is
-- empty, n is the number of LF and one
abbrev pub IsLineNumber : List ℕ → List ℕ → ℕ → Type 0
IsLineNumber text start n = n + line_feeds start ≡ line_feeds text + 1
