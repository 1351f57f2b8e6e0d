-- The table of kept rows by their entries, and as that of whole rows.
use Rattle.std.proofs.Common.{◌≡◌, ◌≢◌, ◌↔◌, ℕ, ◌<◌, ◌≤◌, ◌⊎◌, inl, inr, Bool, true, false, IsTrue, ℤ, pos, List, [], ◌∷◌, length, get_or, set, sym, ap, subst, ◌∙◌, arith}
use Rattle.std.specs.Prelude.{Option, None, Some, IfSome, is_some}
use Rattle.std.specs.Option.{option_map}
use Rattle.std.proofs.lemmas.Bool.{cases_lt, cases_eq}
use Rattle.std.proofs.lemmas.List.{length-map, get_or-map, get_or_past, get_or-set_same, get_or-set_other, map-set}
use Rattle.gj_shape.specs.Elimination.{KeptRow, at_column}
use Rattle.gj_proof.specs.declared.numbers.Numbers.{Numbers}
use Rattle.gj_proof.specs.Rules.{MeetsPivot}
use Rattle.gj_check_groups.specs.KeptTable.{AreRowsAt, IsKeptAt, IsTable}
use Rattle.gj_check_groups.proofs.GroupsInTurn.{table_with}
use Rattle.gj_check_groups.proofs.Tables.{new_pivot}
use Rattle.gj_sparse_elim.specs.declared.entry.Entry.{Entry}
use Rattle.gj_sparse_elim.specs.Sparse.{dense, AreSparseFrom, AreSparse}
use Rattle.gj_sparse_elim.proofs.SparseRows.{at_dense, factor_here, factor_before, first_entry}
use Rattle.gj_limit_check_groups.specs.Merging.{StartsAt}
use Rattle.gj_limit_check_groups.specs.SparseRows.{dense_rows, IsSparseTable}

-- ---- the rows at the columns

pub dense_at : (n : ℕ) (table : List (Option (List Entry))) (c : ℕ) →
    get_or (dense_rows n table) c None ≡ option_map (dense n) (get_or table c None)
dense_at n table c = by_place (cases_lt c (length table))
  where
    by_place : (c < length table) ⊎ (length table ≤ c) →
        get_or (dense_rows n table) c None ≡ option_map (dense n) (get_or table c None)
    by_place (inl inside) = get_or-map (option_map (dense n)) table c None None inside
    by_place (inr past) =
        get_or_past (dense_rows n table) c None
        (omega (arith, length-map table (option_map (dense n))))
        ∙ ap (option_map (dense n)) (sym (get_or_past table c None past))

pub row_some : (n : ℕ) (table : List (Option (List Entry))) (c : ℕ) (e : List Entry) →
    Some e ≡ get_or table c None →
    Some (dense n e) ≡ get_or (dense_rows n table) c None
row_some n table c e is = ap (option_map (dense n)) is ∙ sym (dense_at n table c)

pub row_none : (n : ℕ) (table : List (Option (List Entry))) (c : ℕ) → None ≡ get_or table c None →
    None ≡ get_or (dense_rows n table) c None
row_none n table c is = ap (option_map (dense n)) is ∙ sym (dense_at n table c)

-- a row of the table
pub row_sparse : (numbers : Numbers) (n : ℕ) (table : List (Option (List Entry))) (c : ℕ)
    (e : List Entry) →
    IsSparseTable numbers n table → Some e ≡ get_or table c None →
    AreSparse n e × IsKeptAt numbers n c (dense n e)
row_sparse numbers n table c e h is = (
  subst (λ o. IfSome o (AreSparse n)) (sym is) (h.sparse c),
  subst (λ o. IfSome o (IsKeptAt numbers n c)) (sym (row_some n table c e is)) (h.whole.rows c),
)

-- as the code reads it
pub some_taken : (table : List (Option (List Entry))) (c : ℕ) (o : Option (List Entry)) →
    o ≡ get_or table c None →
    is_some o ≡ true → (e : List Entry) × (Some e ≡ get_or table c None)
some_taken table c None is some = absurd cc
some_taken table c (Some e) is some = (e, is)

pub none_taken : (table : List (Option (List Entry))) (c : ℕ) (o : Option (List Entry)) →
    o ≡ get_or table c None →
    is_some o ≡ false → None ≡ get_or table c None
none_taken table c None is none = is
none_taken table c (Some e) is none = absurd cc

-- ---- one more row

pub sparse_with : (numbers : Numbers) (n c : ℕ) (table : List (Option (List Entry)))
    (e : List Entry) →
    IsSparseTable numbers n table → c < n → AreSparse n e → IsKeptAt numbers n c (dense n e) →
    IsSparseTable numbers n (set table c (Some e))
sparse_with numbers n c table e h within sparse kept = record {
  few = h.few;
  sparse = λ d. by_column d (cases_eq d c);
  whole = subst (IsTable numbers n) (sym (map-set (option_map (dense n)) table c (Some e)))
      (table_with numbers n c (dense_rows n table) (dense n e) h.whole within kept);
}
  where
    inside : c < length table
    inside = omega (arith, h.whole.columns, length-map table (option_map (dense n)))

    by_column : (d : ℕ) → (d ≡ c) ⊎ (d ≢ c) →
        IfSome (get_or (set table c (Some e)) d None) (AreSparse n)
    by_column d (inl same) =
        subst (λ (k : ℕ). IfSome (get_or (set table c (Some e)) k None) (AreSparse n)) (sym same)
        (subst (λ o. IfSome o (AreSparse n)) (sym (get_or-set_same table c (Some e) None inside))
        sparse)
    by_column d (inr other) =
        subst (λ o. IfSome o (AreSparse n)) (sym (get_or-set_other table c d (Some e) None other))
        (h.sparse d)

-- ---- a pivot

starts : (n : ℕ) (row : List Entry) (c : ℕ) → AreSparse n row → c < n → StartsAt row c →
    ((j : ℕ) → j < c → at_column (dense n row) j ≡ pos 0) × (at_column (dense n row) c ≢ pos 0)
starts n [] c h below (some, column) = absurd (omega arith)
starts n (e ∷ row) c (first, later) below (some, column) =
    let from_it : AreSparseFrom e.column n (e ∷ row) = (
      record { behind = omega arith; below = first.below; some = first.some; fits = first.fits },
      later,
    ) in (
      λ j before. at_dense n (e ∷ row) j (omega arith)
          ∙ factor_before e.column n (e ∷ row) j from_it (omega arith),
      λ none. first.some (sym (factor_here e row c column) ∙ sym (at_dense n (e ∷ row) c below)
          ∙ none),
    )

-- by a test of the first entry
pub pivot_tested : (b : Bool) (kept : List KeptRow) (table : List (Option (List ℤ))) (n : ℕ)
    (row : List Entry) (c : ℕ) →
    AreRowsAt kept table → AreSparse n row → c < n → None ≡ get_or table c None →
    IsTrue b ↔ StartsAt row c →
    IsTrue b ↔ MeetsPivot n kept (dense n row) c
pivot_tested b kept table n row c rows sparse below none test = (
  λ t.
      let (zero_before, not_zero) = starts n row c sparse below (test.0 t) in
      record {
        column = below;
        new = new_pivot kept table c rows none;
        zero_before = zero_before;
        not_zero = not_zero;
      },
  λ h.
      let first = first_entry n c row sparse below h.zero_before h.not_zero in
      test.1 (first.some, first.column),
)
