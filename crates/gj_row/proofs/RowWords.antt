-- The words of a record that is a row.
use Rattle.std.proofs.Common.{◌≡◌, ℕ, ◌+◌, ◌-◌, ◌<◌, List, ◌∷◌, Some, slice_get, length, drop, sym, ap, subst, ◌∙◌, arith}
use Rattle.std.proofs.lemmas.List.{length-drop}
use Rattle.gj_row.specs.TableauLimits.{IsRowWithinLimits, names_of, entry_count}
use Rattle.gj_row.specs.FirstFault.{BreaksName, IsNewName, HasNumberFault, MayFollow, HasRowFault, name, number}
use Rattle.gj_row.specs.Reading.{HasRead, ReadsRow}
use Rattle.gj_row.specs.declared.tableau.Entry.{Entry}
use Rattle.gj_row.specs.declared.tableau.Row.{Row}
use Rattle.gj_row.specs.declared.tableau.Tableau.{Tableau}
use Rattle.gj_row.specs.declared.faults.RowReason.{RowReason}
use Rattle.gj_row.proofs.Lists.{parted_at}
use Rattle.gj_row.proofs.Entries.{row_within}
use Rattle.gj_row.proofs.RowNumbers.{numbers_long}

-- a row has been read
pub row_read : (columns used : ℕ) (words : List (List ℕ)) (w : List ℕ) (row : Row) (scale : ℕ)
    (items : List Entry) →
    length words ≡ columns + 2 → slice_get words 0 ≡ Some w → row.basic ≡ w →
    HasRead used (drop 1 words) row.rhs scale items →
    row.entries ≡ items → ReadsRow columns used words row
row_read columns used words w row scale items wide first is read entries =
    let long = numbers_long (drop 1 words) row.rhs read.values read.begins.spelled in
    let all : length (drop 1 words) ≡ length words - 1 = length-drop 1 words in
    let count : length read.values ≡ columns = omega arith in
    let entries_are = entries ∙ read.entries_are in
    record {
      spelled = record {
        number_words = drop 1 words;
        values = read.values;
        words_are = parted_at words 0 w first ∙ ap (λ v. v ∷ drop 1 words) (sym is);
        count = count;
        spelled = read.begins.spelled;
        entries_are = entries_are;
      };
      within = subst (λ n. IsRowWithinLimits n row) count
          (row_within row read.values entries_are read.begins.within);
      few = let e = ap length entries_are in omega (arith, read.begins.few);
    }

-- a record of a row's length, if there is room, follows a tableau of so many columns and rows
follows : (columns rows : ℕ) (words : List (List ℕ)) (t : Tableau) → length words ≡ columns + 2 →
    rows < 10000 →
    length t.columns ≡ columns → length t.rows ≡ rows → MayFollow t words
follows columns rows words t wide room cols many =
    record { count = omega arith; room = omega arith }

pub name_refused : (columns rows used : ℕ) (names words : List (List ℕ)) (w : List ℕ)
    (e : RowReason) → length words ≡ columns + 2 →
    rows < 10000 → slice_get words 0 ≡ Some w → BreaksName names w e → (t : Tableau) →
    length t.columns ≡ columns →
    length t.rows ≡ rows → names_of t ≡ names → entry_count t ≡ used → HasRowFault t words e
name_refused columns rows used names words w e wide room first breaks t cols many named counted =
    name (follows columns rows words t wide room cols many) w (drop 1 words)
    (parted_at words 0 w first)
    (subst (λ ns. BreaksName ns w e) (sym named) breaks)

pub number_refused : (columns rows used : ℕ) (names words : List (List ℕ)) (w : List ℕ)
    (e : RowReason) → length words ≡ columns + 2 →
    rows < 10000 → slice_get words 0 ≡ Some w → IsNewName names w →
    HasNumberFault used (drop 1 words) e → (t : Tableau) →
    length t.columns ≡ columns → length t.rows ≡ rows → names_of t ≡ names → entry_count t ≡ used →
    HasRowFault t words e
number_refused columns rows used names words w e wide room first new fault t cols many named
    counted =
    number (follows columns rows words t wide room cols many) w (drop 1 words)
    (parted_at words 0 w first)
    (subst (λ ns. IsNewName ns w) (sym named) new)
    (subst (λ n. HasNumberFault n (drop 1 words) e) (sym counted) fault)
