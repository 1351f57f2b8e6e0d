-- The kept rows as their entries.
use Rattle.std.proofs.Common.{◌≡◌, ℕ, ◌+◌, ◌<◌, ◌≤◌, ◌⊎◌, inl, inr, Bool, Option, None, Some, ℤ, pos, List, [], ◌∷◌, ◌++◌, length, map, get_or, refl, sym, ap, ap₂, subst, subst₂, ◌∙◌, below_more, arith}
use Rattle.std.specs.Prelude.{All}
use Rattle.std.proofs.lemmas.Bool.{cases_lt}
use Rattle.std.proofs.lemmas.List.{get_or_default, length-map, map-append, length_push, get_or-map, get_or_append_left, get_or_push}
use Rattle.std.proofs.lemmas.List.Elements.{All-get_or, All-push}
use Rattle.gj_shape.specs.Elimination.{KeptRow, Insertion, whole_numbers, inserted, at_column, row_with_pivot}
use Rattle.gj_theory.specs.TriangularRows.{AreTriangular}
use Rattle.gj_elim.specs.Lazy.{IsExtent}
use Rattle.gj_elim.specs.Data.{BasisData}
use Rattle.gj_elim.specs.Tables.{ArePlaces}
use Rattle.gj_elim.specs.Progress.{IsBehind, IsDone, IsFreeColumn, IsReached, rest}
use Rattle.gj_elim.proofs.Progressing.{behind_start}
use Rattle.gj_elim.specs.declared.lazy.Reached.{Reached}
use Rattle.gj_elim.specs.declared.lazy.Reached.TheVariants.{Column}
use Rattle.gj_elim.specs.declared.log.LogRow.{LogRow}
use Rattle.gj_elim.proofs.Places.{IsRowAt, IsPivotRow, place_found, place_none, entries_at, row_read, pivot_row}
use Rattle.gj_elim.proofs.KeptTables.{place_read}
use Rattle.gj_elim.proofs.LazyProgress.{IsLazy, lazy_zero, lazy_end}
use Rattle.gj_sparse_elim.specs.declared.entry.Entry.{Entry}
use Rattle.gj_sparse_elim.specs.Sparse.{dense, AreSparse}
use Rattle.gj_sparse_elim.specs.Rows.{kept_sparse, sparse_rows, AreBounds, AreKeptSparse}
use Rattle.gj_sparse_elim.specs.declared.kept.KeptSparse.{KeptSparse}
use Rattle.gj_sparse_elim.proofs.ColumnSets.{IsNextColumn}
use Rattle.gj_sparse_elim.proofs.SparseRows.{length-dense}
use Rattle.gj_sparse_elim.proofs.SparseSteps.{further}

-- ---- the row with a pivot

-- the kept row with its pivot at the column, which stands at this place with these entries
pub record IsSparsePivot (n c i : ℕ) (k : KeptSparse) (e : List Entry) : Type 0 where
  pub inside : i < length k.rows.items
  pub is : e ≡ get_or k.rows.items i []
  pub here : IsRowAt (sparse_rows n k) c (dense n e)
  pub pivot : IsPivotRow n c (dense n e)
  pub sparse : AreSparse n e

pub lines_too : (n : ℕ) (log : List LogRow) (rows : List (List Entry)) → length log ≡ length rows →
    length log ≡ length (map (dense n) rows)
lines_too n log rows lines = lines ∙ sym (length-map rows (dense n))

-- what the code reads at a column of the places
pub place_there : (n : ℕ) (k : KeptSparse) (c i : ℕ) (x : Option ℕ) → AreKeptSparse n k → c < n →
    x ≡ get_or k.places.items c x → x ≡ Some i →
    (i < length k.rows.items)
    × IsRowAt (sparse_rows n k) c (get_or (map (dense n) k.rows.items) i [])
place_there n k c i x h below x_is is =
    let (inside, at) = place_found k.log.items (map (dense n) k.rows.items) c i
    (lines_too n k.log.items k.rows.items h.lines)
    (place_read n k.log.items k.places.items c x (Some i) h.places below x_is is) in
    (subst (λ m. i < m) h.lines inside, at)

pub sparse_pivot : (n : ℕ) (k : KeptSparse) (c i : ℕ) (x : Option ℕ) (y e : List Entry) →
    AreKeptSparse n k → c < n → x ≡ get_or k.places.items c x → x ≡ Some i →
    y ≡ get_or k.rows.items i y → e ≡ y → IsSparsePivot n c i k e
sparse_pivot n k c i x y e h below x_is is y_is e_is =
    let (inside, at) = place_there n k c i x h below x_is is in
    let rows = k.rows.items in
    let read : e ≡ get_or rows i [] = row_read rows i y e inside y_is e_is in
    let whole : dense n e ≡ get_or (map (dense n) rows) i [] = ap (dense n) read
    ∙ sym (get_or-map (dense n) rows i [] [] inside) in
    let here = entries_at (sparse_rows n k) c (get_or (map (dense n) rows) i []) (dense n e)
    whole at in record {
      inside = inside;
      is = read;
      here = here;
      pivot = pivot_row n (sparse_rows n k) c (dense n e) h.triangular here;
      sparse = subst (AreSparse n) (sym read) (All-get_or (AreSparse n) rows i [] inside h.sparse);
    }

pub none_there : (n : ℕ) (k : KeptSparse) (c : ℕ) (x : Option ℕ) → AreKeptSparse n k → c < n →
    x ≡ get_or k.places.items c x → x ≡ None → row_with_pivot (sparse_rows n k) c ≡ None
none_there n k c x h below x_is is =
    place_none k.log.items (map (dense n) k.rows.items) c
    (lines_too n k.log.items k.rows.items h.lines)
    (place_read n k.log.items k.places.items c x None h.places below x_is is)

pub free_there : (n : ℕ) (k : KeptSparse) (c : ℕ) (x : Option ℕ) → AreKeptSparse n k → c < n →
    x ≡ get_or k.places.items c x → x ≡ None → IsFreeColumn n k.log.items c
free_there n k c x h below x_is is = record {
  below = below;
  free = place_read n k.log.items k.places.items c x None h.places below x_is is;
}

-- the bound of the row at a place
pub bound_read : (n i b : ℕ) (k : KeptSparse) (e : List Entry) → AreKeptSparse n k →
    i < length k.rows.items → b ≡ get_or k.bounds.items i b → e ≡ get_or k.rows.items i [] →
    IsExtent b n (dense n e)
bound_read n i b k e h inside b_is e_is =
    let known : i < length k.bounds.items = omega (arith, inside, h.bounds.rows_are) in
    subst₂ (λ (m : ℕ) (xs : List Entry). IsExtent m n (dense n xs))
    (sym (b_is ∙ get_or_default k.bounds.items i b 0 known)) (sym e_is) (h.bounds.bound i inside)

-- one more row with its bound
pub bounds_more : (n : ℕ) (rows rows' : List (List Entry)) (bounds bounds' : List ℕ)
    (row : List Entry) (b : ℕ) → AreBounds n rows bounds →
    rows' ≡ rows ++ row ∷ [] → bounds' ≡ bounds ++ b ∷ [] → IsExtent b n (dense n row) →
    AreBounds n rows' bounds'
bounds_more n rows rows' bounds bounds' row b h rows_is bounds_is new = subst₂ (AreBounds n)
    (sym rows_is) (sym bounds_is) record {
      rows_are = length_push bounds b ∙ ap (λ m. m + 1) h.rows_are ∙ sym (length_push rows row);
      bound = λ i below.
          below_more (λ k. IsExtent (get_or (bounds ++ b ∷ []) k 0) n
          (dense n (get_or (rows ++ row ∷ []) k []))) (length rows)
          earlier last i (subst (λ m. i < m) (length_push rows row) below);
    }
  where
    at : (k m : ℕ) (xs : List Entry) → get_or (bounds ++ b ∷ []) k 0 ≡ m →
        get_or (rows ++ row ∷ []) k [] ≡ xs →
        IsExtent m n (dense n xs) → IsExtent (get_or (bounds ++ b ∷ []) k 0) n
        (dense n (get_or (rows ++ row ∷ []) k []))
    at k m xs m_is xs_is is = subst₂ (λ (l : ℕ) (ys : List Entry). IsExtent l n (dense n ys))
        (sym m_is) (sym xs_is) is

    earlier : (k : ℕ) → k < length rows →
        IsExtent (get_or (bounds ++ b ∷ []) k 0) n (dense n (get_or (rows ++ row ∷ []) k []))
    earlier k below =
        at k (get_or bounds k 0) (get_or rows k [])
        (get_or_append_left bounds (b ∷ []) 0 k (subst (λ m. k < m) (sym h.rows_are) below))
        (get_or_append_left rows (row ∷ []) [] k below) (h.bound k below)

    last : IsExtent (get_or (bounds ++ b ∷ []) (length rows) 0) n
        (dense n (get_or (rows ++ row ∷ []) (length rows) []))
    last = at (length rows) b row (get_or_push bounds b 0 (length rows) h.rows_are)
        (get_or_push rows row [] (length rows) refl) new

pub no_bounds : (n : ℕ) (rows : List (List Entry)) (bounds : List ℕ) → rows ≡ [] → bounds ≡ [] →
    AreBounds n rows bounds
no_bounds n rows bounds none none' = record {
  rows_are = ap length none' ∙ sym (ap length none);
  bound = λ i below. let empty : length rows ≡ 0 = ap length none in absurd (omega arith);
}

-- ---- an insertion in 64 bits goes on to the next column

pub lazy_to : (i : Insertion) (kept : List KeptRow) (n a c : ℕ) (row : List ℤ) (reduce : List ℕ)
    (is_stepped : Bool) (bound end : ℕ) →
    IsLazy i kept n a row reduce is_stepped bound end → IsNextColumn row a c →
    IsLazy i kept n c row reduce is_stepped bound end
lazy_to i kept n a c row reduce is_stepped bound end h next =
    let inside = next.inside in
    let columns = h.columns in
    further (λ k. IsLazy i kept n k row reduce is_stepped bound end) a c next.behind h
    (λ k from to so_far. lazy_zero i kept n k row reduce is_stepped bound end so_far (omega arith)
    (next.zero k from to))

-- nothing is left of the row
pub lazy_done : (i : Insertion) (kept : List KeptRow) (n a : ℕ) (row : List ℤ) (reduce : List ℕ)
    (is_stepped : Bool) (bound end : ℕ) →
    IsLazy i kept n a row reduce is_stepped bound end →
    ((k : ℕ) → a ≤ k → at_column row k ≡ pos 0) → IsDone whole_numbers i None row reduce
lazy_done i kept n a row reduce is_stepped bound end h none = by_place (cases_lt a n)
  where
    by_place : (a < n) ⊎ (n ≤ a) → IsDone whole_numbers i None row reduce
    by_place (inl below) =
        lazy_end i kept n n row reduce is_stepped bound end
        (further (λ k. IsLazy i kept n k row reduce is_stepped bound end) a n (omega arith) h
        (λ k from to so_far. lazy_zero i kept n k row reduce is_stepped bound end so_far to
        (none k from))) (omega arith)
    by_place (inr past) = lazy_end i kept n a row reduce is_stepped bound end h past

-- ---- from the given row

-- the insertion of the given row, as the code has it
pub same_insertion : (n m : ℕ) (log : List LogRow) (rows : List (List Entry)) (given : List Entry)
    (row : List ℤ) → m ≡ n →
    row ≡ dense m given → inserted m (kept_sparse m log rows) row ≡ inserted n
    (kept_sparse n log rows) (dense n given)
same_insertion n m log rows given row same is =
    ap (inserted m (kept_sparse m log rows)) is
    ∙ ap (λ l. inserted l (kept_sparse l log rows) (dense l given)) same

pub sparse_start : (n m : ℕ) (log : List LogRow) (rows : List (List Entry)) (given : List Entry)
    (row : List ℤ) (reduce : List ℕ) → m ≡ n →
    row ≡ dense n given → reduce ≡ [] →
    IsBehind (inserted n (kept_sparse n log rows) (dense n given)) reduce
    (rest whole_numbers (kept_sparse m log rows) m 0 row)
sparse_start n m log rows given row reduce same is empty =
    subst₂ (λ (l : ℕ) (xs : List ℤ). IsBehind (inserted n (kept_sparse n log rows) (dense n given))
    reduce
    (rest whole_numbers (kept_sparse l log rows) l 0 xs)) (sym same) (sym is)
    (behind_start whole_numbers (kept_sparse n log rows) n (dense n given) reduce empty)

pub sparse_reached : (n m l : ℕ) (log : List LogRow) (rows : List (List Entry)) (given : List Entry)
    (row left exact : List ℤ) (r : Reached)
    (c : ℕ) (reduce : List ℕ) → m ≡ n → l ≡ n → length exact ≡ l → row ≡ dense m given →
    r ≡ Column c →
    IsReached (kept_sparse m log rows) (inserted m (kept_sparse m log rows) row) r left exact reduce
    →
    IsBehind (inserted n (kept_sparse n log rows) (dense n given)) reduce
    (rest whole_numbers (kept_sparse l log rows) l c exact)
sparse_reached n m l log rows given row left exact r c reduce same same' len is r_is h =
    let at : IsBehind (inserted m (kept_sparse m log rows) row) reduce
    (rest whole_numbers (kept_sparse m log rows) (length exact) c exact) =
    subst (λ (o : Reached). IsReached (kept_sparse m log rows)
    (inserted m (kept_sparse m log rows) row) o left exact reduce) r_is h in
    subst₂ (λ (k j : ℕ). IsBehind (inserted n (kept_sparse n log rows) (dense n given)) reduce
    (rest whole_numbers (kept_sparse k log rows) j c exact))
    (same ∙ sym same') len
    (subst (λ (i : Insertion). IsBehind i reduce
    (rest whole_numbers (kept_sparse m log rows) (length exact) c exact))
    (same_insertion n m log rows given row same is) at)

-- ---- one more row

pub entries_pushed : (n m : ℕ) (rows rows' : List (List Entry)) (e : List Entry) (k : List ℤ) →
    rows' ≡ rows ++ e ∷ [] → m ≡ n →
    dense m e ≡ k → map (dense n) rows' ≡ map (dense n) rows ++ k ∷ []
entries_pushed n m rows rows' e k is same e_is =
    ap (map (dense n)) is ∙ map-append (dense n) rows (e ∷ [])
    ∙ ap (λ xs. map (dense n) rows ++ xs ∷ []) (ap (λ l. dense l e) (sym same) ∙ e_is)

pub sparse_pushed : (n m : ℕ) (rows rows' : List (List Entry)) (e : List Entry) →
    All (AreSparse n) rows → rows' ≡ rows ++ e ∷ [] → m ≡ n →
    AreSparse m e → All (AreSparse n) rows'
sparse_pushed n m rows rows' e all is same e_is =
    subst (All (AreSparse n)) (sym is)
    (All-push (AreSparse n) rows e all (subst (λ (l : ℕ). AreSparse l e) same e_is))

-- the kept rows as they were
pub still_kept : (n : ℕ) (k k' : KeptSparse) → k'.log.items ≡ k.log.items →
    k'.rows.items ≡ k.rows.items → k'.bounds.items ≡ k.bounds.items →
    k'.places.items ≡ k.places.items → AreKeptSparse n k → AreKeptSparse n k'
still_kept n k k' log rows bounds places h = record {
  lines = ap length log ∙ h.lines ∙ sym (ap length rows);
  sparse = subst (All (AreSparse n)) (sym rows) h.sparse;
  triangular = subst (AreTriangular n) (sym (ap₂ (kept_sparse n) log rows)) h.triangular;
  places = subst₂ (ArePlaces n) (sym log) (sym places) h.places;
  bounds = subst₂ (AreBounds n) (sym rows) (sym bounds) h.bounds;
  narrow = h.narrow;
}

pub still_rows : (log log' : List LogRow) (rows rows' : List (List Entry)) → log' ≡ log →
    rows' ≡ rows → (n : ℕ) → kept_sparse n log' rows' ≡ kept_sparse n log rows
still_rows log log' rows rows' same same' n = ap₂ (kept_sparse n) same same'

-- ---- the basis behind an insertion

-- the insertion as the code has it
pub insertion_sparse : (n : ℕ) (b d : BasisData) (k : KeptSparse) (given : List Entry) →
    n ≡ b.columns → b ≡ d → b.kept ≡ sparse_rows b.columns k →
    inserted n (sparse_rows n k) (dense n given) ≡ inserted b.columns b.kept (dense d.columns given)
insertion_sparse n b d k given n_is same kept_is =
    ap (λ m. inserted m (sparse_rows m k) (dense m given)) n_is
    ∙ ap (λ ks. inserted b.columns ks (dense b.columns given)) (sym kept_is)
    ∙ ap (λ x. inserted b.columns b.kept (dense x.columns given)) same

-- the columns of the given row
pub given_columns : (b d : BasisData) (given : List Entry) → b ≡ d →
    length (dense d.columns given) ≡ b.columns
given_columns b d given same = length-dense d.columns given ∙ sym (ap (λ x. x.columns) same)
