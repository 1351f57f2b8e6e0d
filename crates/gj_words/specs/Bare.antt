-- What the words are without the flags.
use Rattle.std.specs.Prelude.{nat_eq, ℕ, Bool, false, not, List, [], ◌∷◌, count_by, filter}
use Rattle.std.specs.List.{list_all, list_any}
use Rattle.std.specs.Str.{bytes_eq}
use Rattle.gj_words.specs.Grammar.{json_word, jumps_word}

-- the word is this flag
abbrev pub is_flag : List ℕ → List ℕ → Bool
is_flag flag word = bytes_eq word flag

-- how often the flag stands among the words, and whether it does
abbrev pub flag_count : List ℕ → List (List ℕ) → ℕ
flag_count flag = count_by (is_flag flag)

abbrev pub has_flag : List ℕ → List (List ℕ) → Bool
has_flag flag = list_any (is_flag flag)

-- the words but for the flag, and but for both
abbrev pub without_flag : List ℕ → List (List ℕ) → List (List ℕ)
without_flag flag = filter (λ word. not (is_flag flag word))

abbrev pub bare_words : List (List ℕ) → List (List ℕ)
bare_words words = without_flag json_word (without_flag jumps_word words)

-- the word begins with `-` (45)
abbrev pub begins_with_hyphen : List ℕ → Bool
begins_with_hyphen [] = false
begins_with_hyphen (byte ∷ rest) = nat_eq byte 45

-- no word does
abbrev pub are_hyphenless : List (List ℕ) → Bool
are_hyphenless = list_all (λ word. not (begins_with_hyphen word))
