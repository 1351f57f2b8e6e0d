-- Groups, one after another, and the rows that they keep.
use Rattle.std.proofs.Common.{◌≡◌, ℕ, zero, suc, ◌+◌, ◌<◌, ◌≤◌, ◌^◌, ℤ, List, [], ◌∷◌, ◌++◌, length, map, take, get_or, set, below_more, refl, sym, ap, subst, subst₂, ◌∙◌, arith}
use Rattle.std.specs.Prelude.{Option, None, Some, IfSome}
use Rattle.std.specs.List.{range_with_len}
use Rattle.gj_shape.specs.Elimination.{KeptRow, Arithmetic}
use Rattle.gj_shape.specs.FunctionData.{FunctionData}
use Rattle.gj_sparse_elim.specs.declared.entry.Entry.{Entry}
use Rattle.gj_sparse_elim.specs.Sparse.{AreSparse}
use Rattle.gj_proof.specs.declared.numbers.Numbers.{Numbers}
use Rattle.gj_proof.specs.PresentRows.{arithmetic_of}
use Rattle.gj_proof.specs.Rules.{AtIndex}
use Rattle.gj_proof.proofs.AtPlaces.{at_place, with_place, each_item}
use Rattle.gj_check_groups.specs.KeptTable.{AreRowsAt}
use Rattle.gj_check_groups.specs.GroupOutcomes.{stepped}
use Rattle.gj_check_groups.proofs.GroupsInTurn.{column_of_pivot, count_by, count_by_push, kept_of, checked_start, rows_with}
use Rattle.gj_limit_proof.specs.declared.claim.LimitPivotRow.{LimitPivotRow}
use Rattle.gj_limit_proof.specs.LimitRowsKept.{begun_row, row_kept_by, rows_behind_by, rows_before_by}
use Rattle.gj_limit_check_groups.specs.LimitGroupOutcomes.{MeetsLimitGroup, IsLimitGroupOutcome}
use Rattle.gj_limit_check_groups.specs.SparseRows.{dense_rows, IsSparseTable}

-- ---- the kept rows

-- behind one more group
rows_behind_push : (by : Arithmetic) (f : FunctionData) (component : ℕ → ℕ) (n : ℕ)
    (kept : List KeptRow) (groups : List LimitPivotRow)
    (one : LimitPivotRow) → rows_behind_by by f component n kept (groups ++ one ∷ [])
    ≡ rows_behind_by by f component n kept groups ++ row_kept_by by f component n
    (rows_behind_by by f component n kept groups) one ∷ []
rows_behind_push by f component n kept [] one = refl
rows_behind_push by f component n kept (g ∷ groups) one =
    rows_behind_push by f component n (kept ++ row_kept_by by f component n kept g ∷ []) groups one

-- the rules of a group hold behind others
abbrev pub MeetsBehind : Numbers → FunctionData → (ℕ → ℕ) → ℕ → List LimitPivotRow → LimitPivotRow →
    Type 0
MeetsBehind numbers f component n before one =
    MeetsLimitGroup numbers f n (rows_before_by (arithmetic_of numbers) f component n before)
    (begun_row (arithmetic_of numbers) f component n one.name) one

-- the number of the lines of groups
abbrev pub count_of : List LimitPivotRow → ℕ
count_of rows = count_by (λ (one : LimitPivotRow). one.reduce) rows

-- ---- how far the groups are checked

pub record AreChecked (numbers : Numbers) (f : FunctionData) (component : ℕ → ℕ) (n : ℕ)
    (rows : List LimitPivotRow) (g : ℕ)
    (table : List (Option (List Entry))) (above : ℕ) : Type 0 where
  pub table_is : IsSparseTable numbers n table
  pub rows_are : AreRowsAt (rows_before_by (arithmetic_of numbers) f component n (take g rows))
      (dense_rows n table)
  pub meet : (i : ℕ) → i < g → AtIndex rows i (MeetsBehind numbers f component n)
  pub above_is : above ≡ count_of (take g rows)

-- ---- a table without rows

none_dense : (n : ℕ) (xs : List ℕ) → dense_rows n (map (λ i. None) xs) ≡ map (λ i. None) xs
none_dense n [] = refl
none_dense n (x ∷ xs) = ap (λ ys. None ∷ ys) (none_dense n xs)

none_sparse : (n : ℕ) (xs : List ℕ) (c : ℕ) →
    IfSome (get_or (map {B = Option (List Entry)} (λ i. None) xs) c None) (AreSparse n)
none_sparse n [] c = tt
none_sparse n (x ∷ xs) zero = tt
none_sparse n (x ∷ xs) (suc c) = none_sparse n xs c

pub limits_checked_start : (numbers : Numbers) (f : FunctionData) (component : ℕ → ℕ) (n : ℕ)
    (rows : List LimitPivotRow)
    (table : List (Option (List Entry))) → n < 2 ^ 32 →
    table ≡ map (λ i. None) (range_with_len 0 n) →
    AreChecked numbers f component n rows 0 table 0
limits_checked_start numbers f component n rows table few is =
    let start = checked_start numbers f component n [] (dense_rows n table) (ap (dense_rows n) is
    ∙ none_dense n (range_with_len 0 n)) in
    record {
      table_is = record {
        few = few;
        sparse = λ c. subst (λ t. IfSome (get_or t c None) (AreSparse n)) (sym is)
            (none_sparse n (range_with_len 0 n) c);
        whole = start.table_is;
      };
      rows_are = start.rows_are;
      meet = λ i below. absurd (omega arith);
      above_is = refl;
    }

-- ---- one more group

pub limits_checked_more : (numbers : Numbers) (f : FunctionData) (component : ℕ → ℕ) (n : ℕ)
    (rows : List LimitPivotRow) (g : ℕ)
    (table after : List (Option (List Entry))) (above next : ℕ) (one : LimitPivotRow)
    (begun row : List ℤ) →
    AreChecked numbers f component n rows g table above → g < length rows →
    one ≡ get_or rows g one →
    begun ≡ begun_row (arithmetic_of numbers) f component n one.name →
    IsLimitGroupOutcome numbers f n
    (rows_before_by (arithmetic_of numbers) f component n (take g rows)) begun one row None →
    IsSparseTable numbers n after →
    dense_rows n after ≡ set (dense_rows n table) one.pivot (Some (kept_of numbers row one.pivot)) →
    next ≡ above + (length one.reduce + 2) →
    AreChecked numbers f component n rows (g + 1) after next
limits_checked_more numbers f component n rows g table after above next one begun row h below is
    begun_is (began, left) kept_too after_is next_is =
    let before = take g rows in
    let kept = rows_before_by (arithmetic_of numbers) f component n before in
    let start = begun_row (arithmetic_of numbers) f component n one.name in
    let meets : MeetsLimitGroup numbers f n kept start one =
    subst (λ (b : List ℤ). MeetsLimitGroup numbers f n kept b one) begun_is began in
    let row_is : row ≡ stepped numbers kept start one.reduce = left
    ∙ ap (λ b. stepped numbers kept b one.reduce) begun_is in
    let more = with_place rows g one below is in
    let k : KeptRow = row_kept_by (arithmetic_of numbers) f component n kept one in
    let same : kept_of numbers row one.pivot ≡ k.entries =
    ap (λ xs. kept_of numbers xs one.pivot) row_is in
    let pivot = column_of_pivot numbers n kept (stepped numbers kept start one.reduce) one.pivot
    meets.pivot in
    let rows_now : rows_before_by (arithmetic_of numbers) f component n (take (g + 1) rows)
    ≡ kept ++ k ∷ [] =
    ap (rows_before_by (arithmetic_of numbers) f component n) more
    ∙ rows_behind_push (arithmetic_of numbers) f component n [] before one in
    let table_now : dense_rows n after ≡ set (dense_rows n table) k.pivot (Some k.entries) =
    after_is ∙ ap (λ xs. set (dense_rows n table) one.pivot (Some xs)) same in
    record {
      table_is = kept_too;
      rows_are = subst₂ AreRowsAt (sym rows_now) (sym table_now)
          (rows_with kept k (dense_rows n table) h.rows_are
          (omega (arith, h.table_is.whole.columns, pivot.column)) pivot.new);
      meet = below_more (λ i. AtIndex rows i (MeetsBehind numbers f component n)) g h.meet
          (at_place rows (MeetsBehind numbers f component n) g one below is meets);
      above_is = next_is ∙ ap (λ m. m + (length one.reduce + 2)) h.above_is
          ∙ sym (count_by_push (λ (x : LimitPivotRow). x.reduce) before one) ∙ ap count_of (sym more);
    }

pub limits_checked_all : (numbers : Numbers) (f : FunctionData) (component : ℕ → ℕ) (n : ℕ)
    (rows : List LimitPivotRow) (g : ℕ)
    (table : List (Option (List Entry))) (above : ℕ) →
    AreChecked numbers f component n rows g table above → length rows ≤ g →
    (i : ℕ) → AtIndex rows i (MeetsBehind numbers f component n)
limits_checked_all numbers f component n rows g table above h past =
    each_item rows (MeetsBehind numbers f component n) g past h.meet
