-- The rows that have been read of a text.
use Rattle.std.proofs.Common.{◌≡◌, ℕ, ◌+◌, ◌<◌, ◌≤◌, List, [], ◌∷◌, ◌++◌, length, map, sum_by, refl, sym, ap, subst, ◌∙◌, append_assoc, arith}
use Rattle.std.proofs.lemmas.List.{append-nil, length_push, map-append}
use Rattle.std.proofs.lemmas.List.Sums.{sum_by-append}
use Rattle.std.proofs.lemmas.List.Elements.{All-nil, All-push}
use Rattle.std.proofs.lemmas.Slice.Zip.{AllZip-long}
use Rattle.indexmap.proofs.SetLemmas.{AllZip-push}
use Rattle.csv.specs.Reading.{default_config, Reached, strip_bom}
use Rattle.csv.specs.declared.parser.State.{State}
use Rattle.csv.specs.declared.parser.State.TheVariants.{StartRecord}
use Rattle.gj_row.specs.TableauLimits.{IsRowWithinLimits, AreNames, names_of, entry_count}
use Rattle.gj_row.specs.TableauText.{word_of, records_of, header_of, SpellsRow, SpellsTableau, IsTableauText}
use Rattle.gj_row.specs.FirstFault.{IsNewName, HasHeaderFault, HasRowFault, IsFirstFaultOfTableau, header, in_header, in_row}
use Rattle.gj_row.specs.Reading.{ReadsRow, StandsBehind, StandsBehindHeader, IsAtEnd, tableau_of}
use Rattle.gj_row.specs.declared.records.Records.{Records}
use Rattle.gj_row.specs.declared.records.Records.TheVariants as text_records
use Rattle.gj_row.specs.declared.tableau.Row.{Row}
use Rattle.gj_row.specs.declared.faults.RowReason.{RowReason}
use Rattle.gj_row.specs.declared.faults.RowReason.TheVariants.{Header}
use Rattle.gj_row.proofs.CsvRecords.{records_begin}
use Rattle.gj_row.proofs.HeaderWords.{names_with}

abbrev pub Words : Type 0
Words = List (List (List ℕ))

-- the words of records
abbrev pub words_of : Words → Words
words_of fields = map (map word_of) fields

-- records that spell the tableau of these columns and rows have been read, with these names and so
-- many entries that are not 0
pub record RowsRead (text : List ℕ) (it : Records) (names columns : List (List ℕ)) (rows : List Row)
    (used : ℕ) : Type 0 where
  pub before : Words
  pub stands : StandsBehind text before it
  pub spelled : SpellsTableau (words_of before) (tableau_of columns rows)
  pub named : names ≡ names_of (tableau_of columns rows)
  pub counted : used ≡ entry_count (tableau_of columns rows)

-- record 1
header_spells : (words columns : List (List ℕ)) → words ≡ header_of columns →
    length columns ≤ 10000 → AreNames columns →
    SpellsTableau (words ∷ []) (tableau_of columns [])
header_spells words columns begins few names = record {
  row_words = [];
  words_are = ap (λ w. w ∷ []) begins;
  rows_are = tt;
  is_tableau = record {
    few_columns = few;
    few_rows = omega arith;
    few_entries = omega arith;
    names = subst AreNames (sym (append-nil columns)) names;
    each_row = All-nil (IsRowWithinLimits (length columns));
  };
}

pub behind_header : (text : List ℕ) (it : Records) (fields columns names same : List (List ℕ)) →
    same ≡ columns →
    StandsBehind text (fields ∷ []) it → map word_of fields ≡ header_of columns →
    length columns ≤ 10000 → AreNames columns →
    names ≡ columns → StandsBehindHeader text same names it
behind_header text it fields columns names same e stands begins few valid named =
    subst (λ cs. StandsBehindHeader text cs names it) (sym e)
    (record {
      header = fields;
      stands = stands;
      begins = begins;
      few = few;
      valid = valid;
      named =
          named;
    })

pub header_read : (text : List ℕ) (it : Records) (columns names : List (List ℕ)) →
    StandsBehindHeader text columns names it → RowsRead text it names columns [] 0
header_read text it columns names h = record {
  before = h.header ∷ [];
  stands = h.stands;
  spelled = header_spells (map word_of h.header) columns h.begins h.few h.valid;
  named = h.named ∙ sym (append-nil columns);
  counted = refl;
}

-- one more row
names_next : (columns : List (List ℕ)) (rows : List Row) (row : Row) →
    names_of (tableau_of columns (rows ++ row ∷ [])) ≡ names_of (tableau_of columns rows)
    ++ row.basic ∷ []
names_next columns rows row =
    ap (λ l. columns ++ l) (map-append (λ r. r.basic) rows (row ∷ []))
    ∙ sym (append_assoc columns (map (λ r. r.basic) rows) (row.basic ∷ []))

count_next : (rows : List Row) (row : Row) → sum_by (λ r. length r.entries) (rows ++ row ∷ [])
    ≡ sum_by (λ r. length r.entries) rows + length row.entries
count_next rows row = sum_by-append (λ r. length r.entries) rows (row ∷ [])
    ∙ ap (λ n. sum_by (λ r. length r.entries) rows + n) (omega arith)

row_spells : (before : Words) (words columns : List (List ℕ)) (rows : List Row) (used : ℕ)
    (row : Row) →
    SpellsTableau before (tableau_of columns rows) → used ≡ entry_count (tableau_of columns rows) →
    length rows < 10000 →
    ReadsRow (length columns) used words row →
    IsNewName (names_of (tableau_of columns rows)) row.basic →
    SpellsTableau (before ++ words ∷ []) (tableau_of columns (rows ++ row ∷ []))
row_spells before words columns rows used row h counted room read new = record {
  row_words = h.row_words ++ words ∷ [];
  words_are = ap (λ l. l ++ words ∷ []) h.words_are;
  rows_are = AllZip-push (SpellsRow (length columns)) h.row_words rows words row h.rows_are
      read.spelled;
  is_tableau = record {
    few_columns = h.is_tableau.few_columns;
    few_rows = let n = length_push rows row in omega arith;
    few_entries = let n = count_next rows row in omega (arith, read.few);
    names = subst AreNames (sym (names_next columns rows row))
        (names_with (names_of (tableau_of columns rows)) row.basic h.is_tableau.names new);
    each_row = All-push (IsRowWithinLimits (length columns)) rows row h.is_tableau.each_row
        read.within;
  };
}

pub row_added : (text : List ℕ) (old new : Records) (fields names columns names' : List (List ℕ))
    (rows rows' : List Row)
    (used used' : ℕ) (row : Row) → (h : RowsRead text old names columns rows used) →
    StandsBehind text (h.before ++ fields ∷ []) new →
    length rows < 10000 → ReadsRow (length columns) used (map word_of fields) row →
    IsNewName names row.basic →
    names' ≡ names ++ row.basic ∷ [] → rows' ≡ rows ++ row ∷ [] →
    used' ≡ used + length row.entries →
    RowsRead text new names' columns rows' used'
row_added text old new fields names columns names' rows rows' used used' row h stands room read
    fresh named many counted =
    rw many record {
      before = h.before ++ fields ∷ [];
      stands = stands;
      spelled = subst (λ ws. SpellsTableau ws (tableau_of columns (rows ++ row ∷ [])))
          (sym (map-append (map word_of) h.before (fields ∷ [])))
          (row_spells (words_of h.before) (map word_of fields) columns rows used row h.spelled
          h.counted room read
          (subst (λ ns. IsNewName ns row.basic) h.named fresh));
      named = named ∙ ap (λ ns. ns ++ row.basic ∷ []) h.named ∙ sym (names_next columns rows row);
      counted = counted ∙ ap (λ n. n + length row.entries) h.counted ∙ sym (count_next rows row);
    }

-- all rows
pub rows_end : (text : List ℕ) (it : Records) (names columns : List (List ℕ)) (rows : List Row)
    (used : ℕ) →
    RowsRead text it names columns rows used → IsAtEnd it →
    IsTableauText text (tableau_of columns rows)
rows_end text it names columns rows used h end =
    subst (λ ws. SpellsTableau ws (tableau_of columns rows))
    (sym (ap words_of (end text h.before h.stands))) h.spelled

-- ---- faults

-- the records of the text, behind those that were read
reached_by : (text : List ℕ) (before : Words) (it : Records) → StandsBehind text before it →
    (s : State) × (rest : List ℕ)
    × Reached default_config StartRecord (strip_bom text) before s rest
reached_by text before (text_records.Quoted reader) stands = (_, stands.rest, stands.reached)
reached_by text before (text_records.Plain left) stands = (stands.from, stands.rest, stands.reached)

begin : (text : List ℕ) (before : Words) (it : Records) → StandsBehind text before it →
    (more : Words) × (records_of text ≡ words_of before ++ words_of more)
begin text before it stands =
    let at = reached_by text before it stands in
    let more = records_begin (strip_bom text) before at.0 at.1 at.2 in
    (more.0, ap words_of more.1 ∙ map-append (map word_of) before more.0)

pub no_record : (text : List ℕ) (it : Records) → StandsBehind text [] it → IsAtEnd it →
    IsFirstFaultOfTableau text 1 Header
no_record text it stands end =
    in_header refl (header (λ columns rows e. let none = ap words_of (end text [] stands) in
    cc (none, e)) refl)

pub header_fault : (text : List ℕ) (it : Records) (fields : List (List ℕ)) (e : RowReason) →
    StandsBehind text (fields ∷ []) it →
    ((rows : Words) → HasHeaderFault (map word_of fields ∷ rows) e) →
    IsFirstFaultOfTableau text 1 e
header_fault text it fields e stands fault =
    let more = begin text (fields ∷ []) it stands in
    in_header refl (subst (λ ws. HasHeaderFault ws e) (sym more.1) (fault (words_of more.0)))

pub row_fault : (text : List ℕ) (old new : Records) (fields names columns : List (List ℕ))
    (rows : List Row)
    (used n : ℕ) (e : RowReason) → (h : RowsRead text old names columns rows used) →
    StandsBehind text (h.before ++ fields ∷ []) new →
    n ≡ length rows + 2 → HasRowFault (tableau_of columns rows) (map word_of fields) e →
    IsFirstFaultOfTableau text n e
row_fault text old new fields names columns rows used n e h stands number fault =
    let more = begin text (h.before ++ fields ∷ []) new stands in
    let long = AllZip-long (SpellsRow (length columns)) h.spelled.row_words rows
    h.spelled.rows_are in
    let all = ap length h.spelled.words_are in
    in_row (words_of h.before) (map word_of fields) (words_of more.0) (tableau_of columns rows)
    (more.1 ∙ ap (λ l. l ++ words_of more.0) (map-append (map word_of) h.before (fields ∷ []))
    ∙ append_assoc (words_of h.before) (map word_of fields ∷ []) (words_of more.0))
    h.spelled (omega arith) fault
