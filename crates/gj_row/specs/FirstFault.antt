-- Why a text spells no tableau: the first fault, with the number of its record (own).
use Rattle.std.specs.Prelude.{ℕ, ◌≡◌, ◌≢◌, ◌+◌, ◌<◌, ◌≤◌, List, [], ◌∷◌, ◌++◌, Contains, length, codes}
use Rattle.gj_frac.specs.declared.Frac.{Frac}
use Rattle.gj_lex.specs.Name.{IsName}
use Rattle.gj_shape.specs.Limits.{IsSmallNumber}
use Rattle.gj_shape.specs.Given.{HasCommonDenominator}
use Rattle.gj_row.specs.TableauLimits.{most_columns, most_rows, most_entries, AreWithinLimits, AreNames, names_of, entry_count}
use Rattle.gj_row.specs.TableauText.{records_of, SpellsNext, SpellNumbers, entries_from, header_of, SpellsTableau}
use Rattle.gj_row.specs.declared.tableau.Entry.{Entry}
use Rattle.gj_row.specs.declared.tableau.Tableau.{Tableau}
use Rattle.gj_row.specs.declared.faults.RowReason.{RowReason}
use Rattle.gj_row.specs.declared.faults.RowReason.TheVariants.{Header, Fields, Columns, Rows, Name, Twice, Number, Large, Fine, Entries}

abbrev pub reason_word : RowReason → List ℕ
reason_word Header = codes "header"
reason_word Fields = codes "fields"
reason_word Columns = codes "columns"
reason_word Rows = codes "rows"
reason_word Name = codes "name"
reason_word Twice = codes "twice"
reason_word Number = codes "number"
reason_word Large = codes "large"
reason_word Fine = codes "fine"
reason_word Entries = codes "entries"

-- ---- names

-- why the word is no new name behind these names: it is no name, or it is one of them
abbrev pub BreaksName : List (List ℕ) → List ℕ → RowReason → Type 0
BreaksName names word Name = IsName word → ⊥
BreaksName names word Twice = IsName word × Contains names word
BreaksName names word Header = ⊥
BreaksName names word Fields = ⊥
BreaksName names word Columns = ⊥
BreaksName names word Rows = ⊥
BreaksName names word Number = ⊥
BreaksName names word Large = ⊥
BreaksName names word Fine = ⊥
BreaksName names word Entries = ⊥

-- a new name behind these names
pub record IsNewName (names : List (List ℕ)) (word : List ℕ) : Type 0 where
  pub valid : IsName word
  pub differs : Contains names word → ⊥

-- ---- numbers

-- the entries that are not 0 of numbers that begin with a right side
abbrev pub row_entries : List Frac → List Entry
row_entries [] = []
row_entries (right ∷ values) = entries_from 0 values

-- why the word cannot follow these numbers of a row, which follows rows with `used` entries that
-- are not 0: it spells no number, or else one above 2^31 in absolute value, or else one that leaves
-- no common denominator up to 2^31 - 1, or else one entry too many
abbrev pub BreaksNumber : ℕ → List Frac → List ℕ → RowReason → Type 0
BreaksNumber used xs word Number = (x : Frac) → SpellsNext xs word x → ⊥
BreaksNumber used xs word Large = (x : Frac) × SpellsNext xs word x × (IsSmallNumber x → ⊥)
BreaksNumber used xs word Fine = (x : Frac) × SpellsNext xs word x × IsSmallNumber x
    × (HasCommonDenominator (xs ++ x ∷ []) → ⊥)
BreaksNumber used xs word Entries = (x : Frac) × SpellsNext xs word x
    × AreWithinLimits (xs ++ x ∷ [])
    × (most_entries < used + length (row_entries (xs ++ x ∷ [])))
BreaksNumber used xs word Header = ⊥
BreaksNumber used xs word Fields = ⊥
BreaksNumber used xs word Columns = ⊥
BreaksNumber used xs word Rows = ⊥
BreaksNumber used xs word Name = ⊥
BreaksNumber used xs word Twice = ⊥

-- the words spell numbers that may begin a row which follows rows with `used` entries
pub record BeginRow (used : ℕ) (words : List (List ℕ)) (xs : List Frac) : Type 0 where
  pub spelled : SpellNumbers words xs
  pub within : AreWithinLimits xs
  pub few : used + length (row_entries xs) ≤ most_entries

-- ---- the first word of a record that breaks a rule

-- the first of the words that is no new name
pub record HasNameFault (words : List (List ℕ)) (reason : RowReason) : Type 0 where
  pub front : List (List ℕ)
  pub word : List ℕ
  pub back : List (List ℕ)
  pub place : words ≡ front ++ word ∷ back
  pub good : AreNames front
  pub breaks : BreaksName front word reason

-- the first of the words that cannot follow the numbers before it
pub record HasNumberFault (used : ℕ) (words : List (List ℕ)) (reason : RowReason) : Type 0 where
  pub front : List (List ℕ)
  pub word : List ℕ
  pub back : List (List ℕ)
  pub place : words ≡ front ++ word ∷ back
  pub xs : List Frac
  pub good : BeginRow used front xs
  pub breaks : BreaksNumber used xs word reason

-- ---- the first record that breaks a rule

-- why record 1 is none of a tableau
pub data HasHeaderFault (words : List (List (List ℕ))) (reason : RowReason) : Type 0 where
  header : ((columns : List (List ℕ)) (rows : List (List (List ℕ))) →
      words ≡ header_of columns ∷ rows → ⊥) → reason ≡ Header →
      HasHeaderFault words reason
  columns : (columns : List (List ℕ)) (rows : List (List (List ℕ))) →
      words ≡ header_of columns ∷ rows → most_columns < length columns →
      reason ≡ Columns → HasHeaderFault words reason
  name : (columns : List (List ℕ)) (rows : List (List (List ℕ))) →
      words ≡ header_of columns ∷ rows → length columns ≤ most_columns →
      HasNameFault columns reason → HasHeaderFault words reason

-- the words of a record may be a row behind this tableau: as many as in record 1, and there are
-- fewer than 10,000 rows
pub record MayFollow (t : Tableau) (words : List (List ℕ)) : Type 0 where
  pub count : length words ≡ length t.columns + 2
  pub room : length t.rows < most_rows

-- why a record cannot follow this tableau as a row
pub data HasRowFault (t : Tableau) (words : List (List ℕ)) (reason : RowReason) : Type 0 where
  fields : length words ≢ length t.columns + 2 → reason ≡ Fields → HasRowFault t words reason
  rows : length words ≡ length t.columns + 2 → most_rows ≤ length t.rows → reason ≡ Rows →
      HasRowFault t words reason
  name : MayFollow t words → (word : List ℕ) (more : List (List ℕ)) → words ≡ word ∷ more →
      BreaksName (names_of t) word reason → HasRowFault t words reason
  number : MayFollow t words → (word : List ℕ) (more : List (List ℕ)) → words ≡ word ∷ more →
      IsNewName (names_of t) word → HasNumberFault (entry_count t) more reason →
      HasRowFault t words reason

-- the first fault, in this record: in record 1, or in one behind records that spell a tableau
pub data HasFirstFault (words : List (List (List ℕ))) (number : ℕ) (reason : RowReason) :
    Type 0 where
  in_header : number ≡ 1 → HasHeaderFault words reason → HasFirstFault words number reason
  in_row : (before : List (List (List ℕ))) (record_words : List (List ℕ))
      (after : List (List (List ℕ))) (t : Tableau) →
      words ≡ before ++ record_words ∷ after → SpellsTableau before t → number ≡ length before + 1 →
      HasRowFault t record_words reason → HasFirstFault words number reason

-- the text has its first fault in this record, for this reason
abbrev pub IsFirstFaultOfTableau : List ℕ → ℕ → RowReason → Type 0
IsFirstFaultOfTableau text n reason = HasFirstFault (records_of text) n reason
