-- Groups, one after another, and the rows that they keep.
use Rattle.std.proofs.Common.{◌≡◌, ◌≢◌, ℕ, zero, suc, ◌+◌, ◌<◌, ◌≤◌, ◌⊎◌, inl, inr, ℤ, List, [], ◌∷◌, ◌++◌, length, map, take, get_or, set, below_more, refl, sym, ap, subst, subst₂, ◌∙◌, arith}
use Rattle.std.specs.Prelude.{Option, None, Some, All, IfSome}
use Rattle.std.specs.List.{range_with_len}
use Rattle.std.proofs.lemmas.Bool.{cases_eq}
use Rattle.std.proofs.lemmas.List.{get_or-set_same, get_or-set_other, length-set}
use Rattle.std.proofs.lemmas.List.FromFn.{length-map-range_with_len}
use Rattle.gj_shape.specs.Elimination.{KeptRow, Arithmetic, row_with_pivot}
use Rattle.gj_shape.specs.FunctionData.{FunctionData}
use Rattle.gj_proof.specs.declared.numbers.Numbers.{Numbers}
use Rattle.gj_proof.specs.declared.numbers.Numbers.TheVariants.{Whole, Residues}
use Rattle.gj_proof.specs.declared.pivot.PivotRow.{PivotRow}
use Rattle.gj_proof.specs.PresentRows.{arithmetic_of, begun_row, entries_or_none, row_kept_by, rows_behind_by, rows_before_by}
use Rattle.gj_proof.specs.Rules.{AtIndex, MeetsPivot, MeetsPivotBy}
use Rattle.gj_check_groups.specs.KeptTable.{entries_kept, AreRowsAt, IsKeptAt, IsTable}
use Rattle.gj_check_groups.specs.GroupOutcomes.{stepped, MeetsGroup, IsGroupOutcome}
use Rattle.gj_proof.proofs.AtPlaces.{at_place, with_place, each_item}
use Rattle.gj_check_groups.proofs.Tables.{row_with_pivot_push, row_with_new_pivot}

-- ---- the kept rows

-- behind one more group
pub rows_behind_push : (by : Arithmetic) (f : FunctionData) (component : ℕ → ℕ) (n : ℕ)
    (kept : List KeptRow) (groups : List PivotRow)
    (one : PivotRow) → rows_behind_by by f component n kept (groups ++ one ∷ [])
    ≡ rows_behind_by by f component n kept groups ++ row_kept_by by f component n
    (rows_behind_by by f component n kept groups) one ∷ []
rows_behind_push by f component n kept [] one = refl
rows_behind_push by f component n kept (g ∷ groups) one =
    rows_behind_push by f component n (kept ++ row_kept_by by f component n kept g ∷ []) groups one

-- a row can be kept at a column
pub column_of_pivot : (numbers : Numbers) (n : ℕ) (kept : List KeptRow) (row : List ℤ) (c : ℕ) →
    MeetsPivotBy numbers n kept row c →
    MeetsPivot n kept row c
column_of_pivot Whole n kept row c h = h
column_of_pivot Residues n kept row c h = h.0

-- the rules of a group hold behind others
abbrev pub MeetsBehind : Numbers → FunctionData → (ℕ → ℕ) → ℕ → List PivotRow → PivotRow → Type 0
MeetsBehind numbers f component n before one =
    MeetsGroup numbers f n (rows_before_by (arithmetic_of numbers) f component n before)
    (begun_row (arithmetic_of numbers) f component n one.name) one

-- the number of the lines of groups with these steps
abbrev pub count_by : {R : Type 0} → (R → List ℕ) → List R → ℕ
count_by steps_of [] = 0
count_by steps_of (one ∷ rows) = length (steps_of one) + 2 + count_by steps_of rows

pub count_by_push : {R : Type 0} (steps_of : R → List ℕ) (rows : List R) (one : R) →
    count_by steps_of (rows ++ one ∷ []) ≡ count_by steps_of rows + (length (steps_of one) + 2)
count_by_push steps_of [] one = omega arith
count_by_push steps_of (first ∷ rows) one =
    let rest = count_by_push steps_of rows one in omega arith

abbrev pub count_of : List PivotRow → ℕ
count_of rows = count_by (λ (one : PivotRow). one.reduce) rows

-- the entries with which a row is kept
abbrev pub kept_of : Numbers → List ℤ → ℕ → List ℤ
kept_of numbers row c = entries_or_none ((arithmetic_of numbers).keep row c)

-- ---- how far the groups are checked

pub record AreChecked (numbers : Numbers) (f : FunctionData) (component : ℕ → ℕ) (n : ℕ)
    (rows : List PivotRow) (g : ℕ) (table : List (Option (List ℤ)))
    (above : ℕ) : Type 0 where
  pub table_is : IsTable numbers n table
  pub rows_are : AreRowsAt (rows_before_by (arithmetic_of numbers) f component n (take g rows))
      table
  pub meet : (i : ℕ) → i < g → AtIndex rows i (MeetsBehind numbers f component n)
  pub above_is : above ≡ count_of (take g rows)

-- ---- a table without rows

no_entries_at : (xs : List ℕ) (c : ℕ) → get_or (map {B = Option (List ℤ)} (λ i. None) xs) c None
    ≡ None
no_entries_at [] c = refl
no_entries_at (x ∷ xs) zero = refl
no_entries_at (x ∷ xs) (suc c) = no_entries_at xs c

pub checked_start : (numbers : Numbers) (f : FunctionData) (component : ℕ → ℕ) (n : ℕ)
    (rows : List PivotRow) (table : List (Option (List ℤ))) →
    table ≡ map (λ i. None) (range_with_len 0 n) → AreChecked numbers f component n rows 0 table 0
checked_start numbers f component n rows table is =
    let none = λ (c : ℕ). ap (λ t. get_or t c None) is ∙ no_entries_at (range_with_len 0 n) c in
    record {
      table_is = record {
        columns = ap length is ∙ length-map-range_with_len (λ i. None) 0 n;
        rows = λ c. subst (λ o. IfSome o (IsKeptAt numbers n c)) (sym (none c)) tt;
      };
      rows_are = none;
      meet = λ i below. absurd (omega arith);
      above_is = refl;
    }

-- ---- one more row

-- the table with a row at a column
pub table_with : (numbers : Numbers) (n c : ℕ) (table : List (Option (List ℤ))) (e : List ℤ) →
    IsTable numbers n table → c < n → IsKeptAt numbers n c e →
    IsTable numbers n (set table c (Some e))
table_with numbers n c table e h within is = record {
  columns = length-set table c (Some e) ∙ h.columns;
  rows = λ d. by_column d (cases_eq d c);
}
  where
    by_column : (d : ℕ) → (d ≡ c) ⊎ (d ≡ c → ⊥) →
        IfSome (get_or (set table c (Some e)) d None) (IsKeptAt numbers n d)
    by_column d (inl same) =
        subst (λ (k : ℕ). IfSome (get_or (set table c (Some e)) k None) (IsKeptAt numbers n k))
        (sym same)
        (subst (λ o. IfSome o (IsKeptAt numbers n c))
        (sym (get_or-set_same table c (Some e) None (omega (arith, h.columns)))) is)
    by_column d (inr other) =
        subst (λ o. IfSome o (IsKeptAt numbers n d))
        (sym (get_or-set_other table c d (Some e) None other)) (h.rows d)

pub rows_with : (kept : List KeptRow) (k : KeptRow) (table : List (Option (List ℤ))) →
    AreRowsAt kept table →
    k.pivot < length table → All (λ r. r.pivot ≢ k.pivot) kept →
    AreRowsAt (kept ++ k ∷ []) (set table k.pivot (Some k.entries))
rows_with kept k table rows within new c = by_column (cases_eq c k.pivot)
  where
    by_column : (c ≡ k.pivot) ⊎ (c ≡ k.pivot → ⊥) →
        get_or (set table k.pivot (Some k.entries)) c None
        ≡ entries_kept (row_with_pivot (kept ++ k ∷ []) c)
    by_column (inl same) =
        subst (λ (d : ℕ). get_or (set table k.pivot (Some k.entries)) d None
        ≡ entries_kept (row_with_pivot (kept ++ k ∷ []) d)) (sym same)
        (get_or-set_same table k.pivot (Some k.entries) None within
        ∙ sym (ap entries_kept (row_with_new_pivot kept k new)))
    by_column (inr other) =
        get_or-set_other table k.pivot c (Some k.entries) None other ∙ rows c
        ∙ sym (ap entries_kept (row_with_pivot_push kept k c (λ e. other (sym e))))

pub checked_more : (numbers : Numbers) (f : FunctionData) (component : ℕ → ℕ) (n : ℕ)
    (rows : List PivotRow) (g : ℕ) (table after : List (Option (List ℤ)))
    (above next : ℕ) (one : PivotRow) (begun row : List ℤ) →
    AreChecked numbers f component n rows g table above → g < length rows →
    one ≡ get_or rows g one → begun ≡ begun_row (arithmetic_of numbers) f component n one.name →
    length row ≡ n →
    IsKeptAt numbers n one.pivot (kept_of numbers row one.pivot) →
    IsGroupOutcome numbers f n (rows_before_by (arithmetic_of numbers) f component n (take g rows))
    begun one row None →
    after ≡ set table one.pivot (Some (kept_of numbers row one.pivot)) →
    next ≡ above + (length one.reduce + 2) →
    AreChecked numbers f component n rows (g + 1) after next
checked_more numbers f component n rows g table after above next one begun row h below is begun_is
    columns entries (began, left) after_is next_is =
    let before = take g rows in
    let kept = rows_before_by (arithmetic_of numbers) f component n before in
    let meets : MeetsGroup numbers f n kept
    (begun_row (arithmetic_of numbers) f component n one.name) one =
    subst (λ (b : List ℤ). MeetsGroup numbers f n kept b one) begun_is began in
    let row_is : row ≡ stepped numbers kept
    (begun_row (arithmetic_of numbers) f component n one.name) one.reduce =
    left ∙ ap (λ b. stepped numbers kept b one.reduce) begun_is in
    let more = with_place rows g one below is in
    let k : KeptRow = row_kept_by (arithmetic_of numbers) f component n kept one in
    let same : kept_of numbers row one.pivot ≡ k.entries =
    ap (λ xs. kept_of numbers xs one.pivot) row_is in
    let pivot = column_of_pivot numbers n kept
    (stepped numbers kept (begun_row (arithmetic_of numbers) f component n one.name) one.reduce)
    one.pivot meets.pivot in
    let rows_now : rows_before_by (arithmetic_of numbers) f component n (take (g + 1) rows)
    ≡ kept ++ k ∷ [] =
    ap (rows_before_by (arithmetic_of numbers) f component n) more
    ∙ rows_behind_push (arithmetic_of numbers) f component n [] before one in
    let table_now : after ≡ set table k.pivot (Some k.entries) = after_is
    ∙ ap (λ xs. set table one.pivot (Some xs)) same in
    record {
      table_is = subst (IsTable numbers n) (sym after_is)
          (table_with numbers n one.pivot table (kept_of numbers row one.pivot) h.table_is
          pivot.column entries);
      rows_are = subst₂ AreRowsAt (sym rows_now) (sym table_now)
          (rows_with kept k table h.rows_are (omega (arith, h.table_is.columns, pivot.column))
          pivot.new);
      meet = below_more (λ i. AtIndex rows i (MeetsBehind numbers f component n)) g h.meet
          (at_place rows (MeetsBehind numbers f component n) g one below is meets);
      above_is = next_is ∙ ap (λ m. m + (length one.reduce + 2)) h.above_is
          ∙ sym (count_by_push (λ (x : PivotRow). x.reduce) before one) ∙ ap count_of (sym more);
    }

pub checked_all : (numbers : Numbers) (f : FunctionData) (component : ℕ → ℕ) (n : ℕ)
    (rows : List PivotRow) (g : ℕ) (table : List (Option (List ℤ)))
    (above : ℕ) → AreChecked numbers f component n rows g table above → length rows ≤ g →
    (i : ℕ) → AtIndex rows i (MeetsBehind numbers f component n)
checked_all numbers f component n rows g table above h past =
    each_item rows (MeetsBehind numbers f component n) g past h.meet
