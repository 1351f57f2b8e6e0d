-- What the steps of the reader answer (own).
use Rattle.std.specs.Prelude.{ℕ, ◌≡◌, ◌≢◌, ◌+◌, ◌<◌, ◌≤◌, ◌==◌, ◌||◌, Bool, true, false, List, [], ◌∷◌, ◌++◌, Option, Some, None, All, length, map}
use Rattle.std.specs.List.{slice_split}
use Rattle.std.specs.Borrow.{Bor}
use Rattle.csv.specs.Machine.{next_record}
use Rattle.csv.specs.Reading.{records, Reached, Ready, default_config, source_of, strip_bom, reader_trim, reader_config, reader_state}
use Rattle.csv.specs.Records.{Row as FieldRow, fields_of}
use Rattle.csv.specs.declared.parser.State.{State}
use Rattle.csv.specs.declared.parser.State.TheVariants as state
use Rattle.csv.specs.declared.reader.Reader.{Reader}
use Rattle.csv.specs.declared.reader.Trim.TheVariants as trim
use Rattle.smallvec.specs.SmallVec.{SmallVec}
use Rattle.gj_frac.specs.declared.Frac.{Frac}
use Rattle.gj_shape.specs.Limits.{greatest_number, denominator_bound, IsSmallNumber}
use Rattle.gj_shape.specs.Given.{IsLeastCommonDenominator}
use Rattle.gj_shape.specs.Denominators.{Extends, HasNoCommonWith}
use Rattle.gj_row.specs.TableauLimits.{most_columns, most_entries, AreNames, IsRowWithinLimits}
use Rattle.gj_row.specs.TableauText.{word_of, is_zero, header_of, SpellsEntry, SpellsRow, entries_from}
use Rattle.gj_row.specs.FirstFault.{BeginRow}
use Rattle.gj_row.specs.declared.fields.Fields.{Fields as RecordFields}
use Rattle.gj_row.specs.declared.records.Records.{Records}
use Rattle.gj_row.specs.declared.records.Records.TheVariants as text_records
use Rattle.gj_row.specs.declared.tableau.Entry.{Entry}
use Rattle.gj_row.specs.declared.tableau.Row.{Row}
use Rattle.gj_row.specs.declared.tableau.Tableau.{Tableau}
use Rattle.gj_row.specs.declared.faults.RowReason.{RowReason}
use Rattle.gj_row.specs.declared.faults.RowReason.TheVariants.{Header, Fields, Columns, Rows, Name, Twice, Number, Large, Fine, Entries}
use Rattle.gj_row.specs.declared.faults.RowFault.{RowFault}
use Rattle.gj_row.specs.declared.faults.RowFault.TheVariants as row_fault
use Rattle.gj_row.specs.declared.faults.RecordFault.{RecordFault}
use Rattle.gj_row.specs.declared.faults.RecordFault.TheVariants as record_fault

-- ---- faults

-- the fault is want of memory
abbrev pub IsMemoryFault : RowFault → Type 0
IsMemoryFault (row_fault.Refused n e) = ⊥
IsMemoryFault (row_fault.Memory a) = Unit {0}

-- a refusal names a record and a reason of which this holds
abbrev pub NamesRecord : (ℕ → RowReason → Type 0) → RowFault → Type 0
NamesRecord P (row_fault.Refused n e) = P n e
NamesRecord P (row_fault.Memory a) = Unit {0}

-- a refusal names a reason of which this holds
abbrev pub NamesReason : (RowReason → Type 0) → RecordFault → Type 0
NamesReason P (record_fault.Refused e) = P e
NamesReason P (record_fault.Memory a) = Unit {0}

-- the fault of a text whose record with this number has it
abbrev pub fault_in_record : RecordFault → ℕ → RowFault
fault_in_record (record_fault.Refused e) n = row_fault.Refused n e
fault_in_record (record_fault.Memory a) n = row_fault.Memory a

-- ---- records

-- the words in the fields of a record
abbrev pub words_in : FieldRow → List (List ℕ)
words_in fields = map word_of (fields_of fields)

abbrev pub is_comma : ℕ → Bool
is_comma b = b == 44

-- the fields of a line that has no quote stand between commas
abbrev pub fields_of_line : List ℕ → List (List ℕ)
fields_of_line line = slice_split is_comma line

-- the fields that follow a field: none at the end of the line
abbrev pub fields_behind : Option (Bor (List ℕ)) → List (List ℕ)
fields_behind None = []
fields_behind (Some line) = fields_of_line line.now

-- the fields of the line, if there is one, and else those of the row
abbrev pub fields_of_either : FieldRow → Option (Bor (List ℕ)) → List (List ℕ)
fields_of_either row None = fields_of row
fields_of_either row (Some line) = fields_of_line line.now

abbrev pub fields_in : RecordFields → List (List ℕ)
fields_in fields = fields_of_either fields.read fields.line

-- the words in them
abbrev pub words_of_fields : RecordFields → List (List ℕ)
words_of_fields fields = map word_of (fields_in fields)

-- ---- numbers

-- the first field of the line spells the entry, and these fields follow it
pub record BeginsWithEntry (line : List ℕ) (x : Frac) (behind : List (List ℕ)) : Type 0 where
  pub field : List ℕ
  pub fields_are : fields_of_line line ≡ field ∷ behind
  pub spelled : SpellsEntry (word_of field) x

-- why what was read cannot follow numbers with the least common denominator `scale`
abbrev pub StopsAt : ℕ → Option Frac → RowReason → Type 0
StopsAt scale number Number = number ≡ None
StopsAt scale number Large = (x : Frac) × (number ≡ Some x) × (IsSmallNumber x → ⊥)
StopsAt scale number Fine = (x : Frac) × (number ≡ Some x) × IsSmallNumber x
    × HasNoCommonWith scale x
StopsAt scale number Header = ⊥
StopsAt scale number Fields = ⊥
StopsAt scale number Columns = ⊥
StopsAt scale number Rows = ⊥
StopsAt scale number Name = ⊥
StopsAt scale number Twice = ⊥
StopsAt scale number Entries = ⊥

-- the same of a word that spells the numbers of which P holds
abbrev pub StopsNumber : (Frac → Type 0) → ℕ → RowReason → Type 0
StopsNumber P scale Number = (x : Frac) → P x → ⊥
StopsNumber P scale Large = (x : Frac) × P x × (IsSmallNumber x → ⊥)
StopsNumber P scale Fine = (x : Frac) × P x × IsSmallNumber x × HasNoCommonWith scale x
StopsNumber P scale Header = ⊥
StopsNumber P scale Fields = ⊥
StopsNumber P scale Columns = ⊥
StopsNumber P scale Rows = ⊥
StopsNumber P scale Name = ⊥
StopsNumber P scale Twice = ⊥
StopsNumber P scale Entries = ⊥

-- x is the first entry too many
abbrev pub IsOneTooMany : (Frac → Type 0) → ℕ → ℕ → Type 0
IsOneTooMany P scale count = (x : Frac) × (m : ℕ) × P x × Extends greatest_number scale x m
    × (is_zero x ≡ false) × (most_entries ≤ count)

-- why a word cannot follow as an entry, behind so many entries that are not 0
abbrev pub StopsEntry : (Frac → Type 0) → ℕ → ℕ → RowReason → Type 0
StopsEntry P scale count Entries = IsOneTooMany P scale count
StopsEntry P scale count Number = StopsNumber P scale Number
StopsEntry P scale count Large = StopsNumber P scale Large
StopsEntry P scale count Fine = StopsNumber P scale Fine
StopsEntry P scale count Header = ⊥
StopsEntry P scale count Fields = ⊥
StopsEntry P scale count Columns = ⊥
StopsEntry P scale count Rows = ⊥
StopsEntry P scale count Name = ⊥
StopsEntry P scale count Twice = ⊥

-- why the first field of the line cannot follow as an entry, behind so many entries that are not 0
pub record StopsAtFirst (line : List ℕ) (scale count : ℕ) (e : RowReason) : Type 0 where
  pub field : List ℕ
  pub behind : List (List ℕ)
  pub fields_are : fields_of_line line ≡ field ∷ behind
  pub stops : StopsEntry (SpellsEntry (word_of field)) scale count e

-- numbers within the limits, whose least common denominator is `scale`, have been read from the
-- words, with these entries that are not 0
pub record HasRead (used : ℕ) (words : List (List ℕ)) (right : Frac) (scale : ℕ)
    (entries : List Entry) : Type 0 where
  pub values : List Frac
  pub begins : BeginRow used words (right ∷ values)
  pub low : 1 ≤ scale
  pub high : scale < denominator_bound
  pub least : IsLeastCommonDenominator (right ∷ values) scale
  pub entries_are : entries ≡ entries_from 0 values

-- ---- names

-- the bytes of each name
abbrev pub bytes_of : List (SmallVec ℕ) → List (List ℕ)
bytes_of names = map (λ name. name.items) names

-- ---- rows

-- the words spell a row within its limits, behind rows with `used` entries and so many columns
pub record ReadsRow (columns used : ℕ) (words : List (List ℕ)) (row : Row) : Type 0 where
  pub spelled : SpellsRow columns words row
  pub within : IsRowWithinLimits columns row
  pub few : used + length row.entries ≤ most_entries

abbrev pub tableau_of : List (List ℕ) → List Row → Tableau
tableau_of columns rows = record { columns = columns; rows = rows }

-- ---- the records of a text

-- the bytes that are left of a text in memory
abbrev pub bytes_left : Bor (List ℕ) → Option (List ℕ)
bytes_left s = Some s.now

abbrev pub is_quote : ℕ → Bool
is_quote b = b == 34

-- the byte ends a line
abbrev pub is_line_end : ℕ → Bool
is_line_end b = (b == 13) || (b == 10)

-- nothing follows a line, or a byte that ends it
abbrev pub EndsLine : List ℕ → Type 0
EndsLine [] = Unit {0}
EndsLine (b ∷ after) = is_line_end b ≡ true

-- the first line of the text that is not blank, and what follows it
pub record IsFirstLine (text line after : List ℕ) : Type 0 where
  pub blank : List ℕ
  pub text_is : text ≡ blank ++ (line ++ after)
  pub blanks : All (λ b. is_line_end b ≡ true) blank
  pub full : line ≢ []
  pub inside : All (λ b. is_line_end b ≡ false) line
  pub ends : EndsLine after

-- the next record that the reader gives is the one behind these records of the text
pub record ReaderStandsBehind (text : List ℕ) (before : List (List (List ℕ)))
    (reader : Reader (Bor (List ℕ))) : Type 0 where
  pub no_trim : reader_trim reader ≡ trim.None
  pub ready : Ready reader
  pub config : reader_config reader ≡ default_config
  pub rest : List ℕ
  pub source : source_of bytes_left reader ≡ Some rest
  pub reached : Reached default_config state.StartRecord (strip_bom text) before
      (reader_state reader) rest

-- the first record of what is left, which has no quote, is the one behind these records of the text
pub record LinesStandBehind (text : List ℕ) (before : List (List (List ℕ))) (left : List ℕ) :
    Type 0 where
  pub from : State
  pub rest : List ℕ
  pub reached : Reached default_config state.StartRecord (strip_bom text) before from rest
  pub same : next_record default_config from [] [] rest
      ≡ next_record default_config state.StartRecord [] [] left
  pub no_quote : All (λ b. is_quote b ≡ false) left

-- the next record is the one behind these records of the text
abbrev pub StandsBehind : List ℕ → List (List (List ℕ)) → Records → Type 0
StandsBehind text before (text_records.Quoted reader) = ReaderStandsBehind text before reader.value
StandsBehind text before (text_records.Plain left) = LinesStandBehind text before left.now

-- the next record is the one behind record 1 of the text, which names these columns; the names so
-- far are theirs
pub record StandsBehindHeader (text : List ℕ) (columns names : List (List ℕ)) (left : Records) :
    Type 0 where
  pub header : List (List ℕ)
  pub stands : StandsBehind text (header ∷ []) left
  pub begins : map word_of header ≡ header_of columns
  pub few : length columns ≤ most_columns
  pub valid : AreNames columns
  pub named : names ≡ columns

-- this holds of each text of which nothing has been read
abbrev pub HoldsOfText : Records → (List ℕ → Type 0) → Type 0
HoldsOfText left P = (text : List ℕ) → StandsBehind text [] left → P text

-- this holds of each text of which only a first record has been read, with these fields
abbrev pub HoldsBehindFirst : List (List ℕ) → Records → (List ℕ → Type 0) → Type 0
HoldsBehindFirst fields left P = (text : List ℕ) → StandsBehind text (fields ∷ []) left → P text

-- this holds of each text of which record 1 has been read
abbrev pub HoldsBehindHeader : List (List ℕ) → List (List ℕ) → Records → (List ℕ → Type 0) → Type 0
HoldsBehindHeader columns names left P = (text : List ℕ) →
    StandsBehindHeader text columns names left → P text

-- the step gave the record that is the next one
abbrev pub StepsOver : Records → List (List ℕ) → Records → Type 0
StepsOver old fields new =
    (text : List ℕ) (before : List (List (List ℕ))) → StandsBehind text before old →
    StandsBehind text (before ++ fields ∷ []) new

-- there is no next record
abbrev pub IsAtEnd : Records → Type 0
IsAtEnd left = (text : List ℕ) (before : List (List (List ℕ))) → StandsBehind text before left →
    records default_config (strip_bom text) ≡ before
