-- Which text of comma-separated values spells which tableau (own).
use Rattle.std.specs.Prelude.{ℕ, pos, ◌≡◌, ◌⊎◌, ◌+◌, ◌==◌, Bool, not, List, [], ◌∷◌, ◌++◌, drop, length, map, reverse, codes, if◌then◌else◌, unsigned_abs}
use Rattle.std.specs.List.{AllZip, position_or_len}
use Rattle.csv.specs.Reading.{default_config, records, strip_bom}
use Rattle.gj_frac.specs.declared.Frac.{Frac}
use Rattle.gj_frac.specs.Fraction.{IsRatio, numerator}
use Rattle.gj_lex.specs.SpelledNumbers.{IsFractionWord}
use Rattle.gj_lex.specs.Words.{is_blank}
use Rattle.gj_lex.specs.declared.spelling.Spelling.TheVariants.{Lenient}
use Rattle.gj_row.specs.TableauLimits.{IsTableau}
use Rattle.gj_row.specs.declared.tableau.Entry.{Entry}
use Rattle.gj_row.specs.declared.tableau.Row.{Row}
use Rattle.gj_row.specs.declared.tableau.Tableau.{Tableau}

-- ---- the records of a text

-- from the first byte on that is no space or tab
abbrev pub without_blanks_before : List ℕ → List ℕ
without_blanks_before field = drop (position_or_len (λ b. not (is_blank b)) field) field

-- the word in a field: what is left without the spaces and tabs at both its ends
abbrev pub word_of : List ℕ → List ℕ
word_of field = reverse (without_blanks_before (reverse (without_blanks_before field)))

-- the words in the fields of each record, as `csv` reads it with its defaults: fields end at a
-- comma, and may stand in double quotes. It takes a byte order mark off the text, and blank lines
-- are no records.
abbrev pub records_of : List ℕ → List (List (List ℕ))
records_of text = map (map word_of) (records default_config (strip_bom text))

-- ---- the numbers of a row

-- the word spells the entry: nothing is 0
abbrev pub SpellsEntry : List ℕ → Frac → Type 0
SpellsEntry word x = ((word ≡ []) × IsRatio x (pos 0) (pos 1)) ⊎ IsFractionWord Lenient word x

-- the word spells the number that stands behind these numbers of the row: the right side if there
-- are none, and else an entry
abbrev pub SpellsNext : List Frac → List ℕ → Frac → Type 0
SpellsNext [] word x = IsFractionWord Lenient word x
SpellsNext (right ∷ values) word x = SpellsEntry word x

-- the words spell the numbers: the right side, and an entry each
abbrev pub SpellNumbers : List (List ℕ) → List Frac → Type 0
SpellNumbers [] [] = Unit {0}
SpellNumbers [] (right ∷ values) = ⊥
SpellNumbers (word ∷ words) [] = ⊥
SpellNumbers (word ∷ words) (right ∷ values) = IsFractionWord Lenient word right
    × AllZip SpellsEntry words values

abbrev pub is_zero : Frac → Bool
is_zero x = unsigned_abs (numerator x) == 0

-- the value in the column as an entry, if it is not 0
abbrev pub entry_at : ℕ → Frac → List Entry
entry_at column x = if is_zero x then [] else record { column = column; value = x } ∷ []

-- the entries that are not 0 of values in columns from this one on
abbrev pub entries_from : ℕ → List Frac → List Entry
entries_from column [] = []
entries_from column (x ∷ values) = entry_at column x ++ entries_from (column + 1) values

-- ---- the tableau

-- the words of a record spell a row of so many columns: the basic variable's name, the right side,
-- an entry for each column
pub record SpellsRow (columns : ℕ) (words : List (List ℕ)) (row : Row) : Type 0 where
  pub number_words : List (List ℕ)
  pub values : List Frac
  pub words_are : words ≡ row.basic ∷ number_words
  pub count : length values ≡ columns
  pub spelled : SpellNumbers number_words (row.rhs ∷ values)
  pub entries_are : row.entries ≡ entries_from 0 values

-- record 1 of a tableau with these columns
abbrev pub header_of : List (List ℕ) → List (List ℕ)
header_of columns = codes "basic" ∷ codes "rhs" ∷ columns

-- the records spell the tableau: `basic`, `rhs` and the names of the columns, and then a row each
pub record SpellsTableau (words : List (List (List ℕ))) (t : Tableau) : Type 0 where
  pub row_words : List (List (List ℕ))
  pub words_are : words ≡ header_of t.columns ∷ row_words
  pub rows_are : AllZip (SpellsRow (length t.columns)) row_words t.rows
  pub is_tableau : IsTableau t

-- the text spells the tableau
abbrev pub IsTableauText : List ℕ → Tableau → Type 0
IsTableauText text t = SpellsTableau (records_of text) t
