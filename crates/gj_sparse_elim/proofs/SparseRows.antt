-- Rows as their entries, one after another.
use Rattle.std.proofs.Common.{◌≡◌, ◌≢◌, ℕ, suc, ◌+◌, ◌<◌, ◌≤◌, ◌^◌, ◌⊎◌, inl, inr, Bool, true, false, cond, ℤ, pos, List, [], ◌∷◌, ◌++◌, length, get_or, set, drop, eqb, unsigned_abs, below_more, refl, sym, ap, subst, ◌∙◌, arith}
use Rattle.std.specs.Prelude.{All}
use Rattle.std.proofs.lemmas.Bool.{cases_lt, eq-eqb, ne_eqb}
use Rattle.std.proofs.lemmas.List.{same_lists, get_or_default, get_or_past, get_or-set_same, get_or-set_other, drop_more, drop_all}
use Rattle.std.proofs.lemmas.List.Elements.{All-from_get_or}
use Rattle.std.proofs.lemmas.List.FromFn.{length-map-range_with_len, get_or-map-range_with_len}
use Rattle.gj_shape.specs.Elimination.{at_column}
use Rattle.gj_frac.specs.Fraction.{Fits}
use Rattle.gj_elim.specs.Lazy.{IsExtent}
use Rattle.gj_sparse_elim.specs.declared.entry.Entry.{Entry}
use Rattle.gj_sparse_elim.specs.Sparse.{factor_at, dense, IsEntryWithin, AreSparseFrom, AreSparse}

abbrev pub no_entry : Entry
no_entry = record { column = 0; factor = pos 0 }

-- ---- the whole row

pub length-dense : (n : ℕ) (row : List Entry) → length (dense n row) ≡ n
unfolding dense
length-dense n row = length-map-range_with_len (factor_at row) 0 n

pub at_dense : (n : ℕ) (row : List Entry) (k : ℕ) → k < n →
    at_column (dense n row) k ≡ factor_at row k
unfolding dense
at_dense n row k below = get_or-map-range_with_len (factor_at row) 0 n k k (pos 0) below
    (omega arith)

pub at_dense_past : (n : ℕ) (row : List Entry) (k : ℕ) → n ≤ k → at_column (dense n row) k ≡ pos 0
at_dense_past n row k past = get_or_past (dense n row) k (pos 0) (omega (arith, length-dense n row))

pub same_dense : (n : ℕ) (row : List Entry) (xs : List ℤ) → length xs ≡ n →
    ((k : ℕ) → k < n → at_column xs k ≡ factor_at row k) → xs ≡ dense n row
same_dense n row xs len same =
    same_lists xs (dense n row) (len ∙ sym (length-dense n row))
    (λ k d below.
    get_or_default xs k d (pos 0) below ∙ same k (omega arith)
    ∙ sym (at_dense n row k (omega arith))
    ∙ get_or_default (dense n row) k (pos 0) d (omega (arith, length-dense n row)))

-- ---- the factor at a column

pub factor_here : (e : Entry) (row : List Entry) (k : ℕ) → e.column ≡ k →
    factor_at (e ∷ row) k ≡ e.factor
factor_here e row k is = ap (λ b. cond b e.factor (factor_at row k)) (eq-eqb e.column k is)

pub factor_later : (e : Entry) (row : List Entry) (k : ℕ) → e.column ≢ k →
    factor_at (e ∷ row) k ≡ factor_at row k
factor_later e row k apart = ap (λ b. cond b e.factor (factor_at row k)) (ne_eqb e.column k apart)

pub factor_before : (a n : ℕ) (row : List Entry) (k : ℕ) → AreSparseFrom a n row → k < a →
    factor_at row k ≡ pos 0
factor_before a n [] k h below = refl
factor_before a n (e ∷ row) k (first, later) below =
    let behind = first.behind in
    factor_later e row k (λ same. omega arith)
    ∙ factor_before (e.column + 1) n row k later (omega arith)

pub factor_past : (a n : ℕ) (row : List Entry) (k : ℕ) → AreSparseFrom a n row → n ≤ k →
    factor_at row k ≡ pos 0
factor_past a n [] k h past = refl
factor_past a n (e ∷ row) k (first, later) past =
    let below = first.below in
    factor_later e row k (λ same. omega arith) ∙ factor_past (e.column + 1) n row k later past

pub factor_fits : (a n : ℕ) (row : List Entry) (k : ℕ) → AreSparseFrom a n row →
    Fits (factor_at row k)
factor_fits a n [] k h = omega arith
factor_fits a n (e ∷ row) k (first, later) = by_test (eqb e.column k)
    (factor_fits (e.column + 1) n row k later)
  where
    by_test : (b : Bool) → Fits (factor_at row k) → Fits (cond b e.factor (factor_at row k))
    by_test true h = first.fits
    by_test false h = h

pub dense_fits : (n : ℕ) (row : List Entry) → AreSparse n row → All Fits (dense n row)
dense_fits n row h =
    All-from_get_or Fits (dense n row) (pos 0)
    (λ k below. subst Fits (sym (at_dense n row k (omega (arith, length-dense n row))))
    (factor_fits 0 n row k h))

-- ---- the entry at an index

-- the entries from an index on have columns from a on, and the factors there
pub record IsAtEntry (n : ℕ) (row : List Entry) (i a : ℕ) : Type 0 where
  pub rest : AreSparseFrom a n (drop i row)
  pub same : (k : ℕ) → a ≤ k → factor_at row k ≡ factor_at (drop i row) k

pub at_start : (n : ℕ) (row : List Entry) → AreSparse n row → IsAtEntry n row 0 0
at_start n row h = record { rest = h; same = λ k from. refl }

pub record HasEntry (n : ℕ) (row : List Entry) (i a : ℕ) (e : Entry) : Type 0 where
  pub within : IsEntryWithin a n e
  pub is : factor_at row e.column ≡ e.factor
  pub whole : at_column (dense n row) e.column ≡ e.factor
  pub zero : (k : ℕ) → a ≤ k → k < e.column → factor_at row k ≡ pos 0
  pub next : IsAtEntry n row (i + 1) (e.column + 1)

pub entry_at : (n : ℕ) (row : List Entry) (i a : ℕ) → IsAtEntry n row i a → i < length row →
    HasEntry n row i a (get_or row i no_entry)
entry_at n row i a h inside = record {
  within = rest.0;
  is = here;
  whole = at_dense n row e.column rest.0.below ∙ here;
  zero = λ k from before.
      same k from ∙ factor_later e (drop (i + 1) row) k (λ x. omega arith)
      ∙ factor_before (e.column + 1) n (drop (i + 1) row) k rest.1 (omega arith);
  next = record {
    rest = rest.1;
    same = λ k from.
        let behind = rest.0.behind in
        same k (omega arith) ∙ factor_later e (drop (i + 1) row) k (λ x. omega arith);
  };
}
  where
    e : Entry
    e = get_or row i no_entry

    split : drop i row ≡ e ∷ drop (i + 1) row
    split = drop_more row i no_entry inside

    rest : AreSparseFrom a n (e ∷ drop (i + 1) row)
    rest = subst (λ (xs : List Entry). AreSparseFrom a n xs) split h.rest

    same : (k : ℕ) → a ≤ k → factor_at row k ≡ factor_at (e ∷ drop (i + 1) row) k
    same k from = h.same k from ∙ ap (λ xs. factor_at xs k) split

    here : factor_at row e.column ≡ e.factor
    here = same e.column rest.0.behind ∙ factor_here e (drop (i + 1) row) e.column refl

-- no entry is left
pub at_end : (n : ℕ) (row : List Entry) (i a : ℕ) → IsAtEntry n row i a → length row ≤ i → (k : ℕ) →
    a ≤ k → factor_at row k ≡ pos 0
at_end n row i a h past k from = h.same k from ∙ ap (λ xs. factor_at xs k) (drop_all i row past)

-- ---- the first entry, at the column of the pivot

pub record IsFirstEntry (n c : ℕ) (row : List Entry) : Type 0 where
  pub some : 0 < length row
  pub column : (get_or row 0 no_entry).column ≡ c
  pub factor : (get_or row 0 no_entry).factor ≡ at_column (dense n row) c
  pub next : IsAtEntry n row 1 (c + 1)

pub first_entry : (n c : ℕ) (row : List Entry) → AreSparse n row → c < n →
    ((k : ℕ) → k < c → at_column (dense n row) k ≡ pos 0) → at_column (dense n row) c ≢ pos 0 →
    IsFirstEntry n c row
first_entry n c [] h below zeros some = absurd (some (at_dense n [] c below))
first_entry n c (e ∷ row) (first, later) below zeros some =
    by_place (cases_lt e.column c) (cases_lt c e.column)
  where
    whole : (k : ℕ) → k < n → at_column (dense n (e ∷ row)) k ≡ factor_at (e ∷ row) k
    whole k inside = at_dense n (e ∷ row) k inside

    by_place : (e.column < c) ⊎ (c ≤ e.column) → (c < e.column) ⊎ (e.column ≤ c) →
        IsFirstEntry n c (e ∷ row)
    by_place (inl before) other =
        absurd (first.some (sym (factor_here e row e.column refl) ∙ sym (whole e.column first.below)
        ∙ zeros e.column before))
    by_place (inr from) (inl behind) =
        absurd (some (whole c below ∙ factor_later e row c (λ same. omega arith)
        ∙ factor_before (e.column + 1) n row c later (omega arith)))
    by_place (inr from) (inr to) =
        let same : e.column ≡ c = omega arith in record {
          some = omega arith;
          column = same;
          factor = sym (whole c below ∙ factor_here e row c same);
          next = record {
            rest = subst (λ (m : ℕ). AreSparseFrom (m + 1) n row) same later;
            same = λ k there. factor_later e row k (λ is. omega arith);
          };
        }

-- ---- entries that are gathered

pub record IsGathered (row : List ℤ) (entries : List Entry) (c : ℕ) : Type 0 where
  pub sparse : AreSparse c entries
  pub same : (k : ℕ) → k < c → factor_at entries k ≡ at_column row k

pub gathered_start : (row : List ℤ) (entries : List Entry) → entries ≡ [] → IsGathered row entries 0
gathered_start row entries is = subst (λ (xs : List Entry). IsGathered row xs 0) (sym is) record {
  sparse = tt;
  same = λ k below. absurd (omega arith);
}

widened : (a n m : ℕ) (row : List Entry) → AreSparseFrom a n row → n ≤ m → AreSparseFrom a m row
widened a n m [] h more = tt
widened a n m (e ∷ row) (first, later) more =
    let below = first.below in (
      record { behind = first.behind; below = omega arith; some = first.some; fits = first.fits },
      widened (e.column + 1) n m row later more,
    )

pushed_sparse : (a n : ℕ) (row : List Entry) (e : Entry) → AreSparseFrom a n row → a ≤ n →
    IsEntryWithin n (n + 1) e →
    AreSparseFrom a (n + 1) (row ++ e ∷ [])
pushed_sparse a n [] e h least last =
    let behind = last.behind in
    (record { behind = omega arith; below = last.below; some = last.some; fits = last.fits }, tt)
pushed_sparse a n (x ∷ row) e (first, later) least last =
    let below = first.below in (
      record { behind = first.behind; below = omega arith; some = first.some; fits = first.fits },
      pushed_sparse (x.column + 1) n row e later (omega arith) last,
    )

pushed_other : (row : List Entry) (e : Entry) (k : ℕ) → e.column ≢ k →
    factor_at (row ++ e ∷ []) k ≡ factor_at row k
pushed_other [] e k apart = factor_later e [] k apart
pushed_other (x ∷ row) e k apart = ap (λ z. cond (eqb x.column k) x.factor z)
    (pushed_other row e k apart)

pushed_here : (a n : ℕ) (row : List Entry) (e : Entry) (k : ℕ) → AreSparseFrom a n row → n ≤ k →
    e.column ≡ k →
    factor_at (row ++ e ∷ []) k ≡ e.factor
pushed_here a n [] e k h past is = factor_here e [] k is
pushed_here a n (x ∷ row) e k (first, later) past is =
    let below = first.below in
    factor_later x (row ++ e ∷ []) k (λ same. omega arith)
    ∙ pushed_here (x.column + 1) n row e k later past is

pub gathered_zero : (row : List ℤ) (entries : List Entry) (c : ℕ) → IsGathered row entries c →
    at_column row c ≡ pos 0 →
    IsGathered row entries (c + 1)
gathered_zero row entries c h none = record {
  sparse = widened 0 c (c + 1) entries h.sparse (omega arith);
  same = below_more (λ k. factor_at entries k ≡ at_column row k) c h.same
      (factor_past 0 c entries c h.sparse (omega arith) ∙ sym none);
}

pub gathered_more : (row : List ℤ) (entries entries' : List Entry) (c : ℕ) (e : Entry) →
    IsGathered row entries c →
    e.column ≡ c → e.factor ≡ at_column row c → at_column row c ≢ pos 0 → Fits (at_column row c) →
    entries' ≡ entries ++ e ∷ [] → IsGathered row entries' (c + 1)
gathered_more row entries entries' c e h column factor some fits is = subst
    (λ (xs : List Entry). IsGathered row xs (c + 1)) (sym is) record {
      sparse = pushed_sparse 0 c entries e h.sparse (omega arith) record {
        behind = omega arith;
        below = omega arith;
        some = λ zero. some (sym factor ∙ zero);
        fits = subst Fits (sym factor) fits;
      };
      same = below_more (λ k. factor_at (entries ++ e ∷ []) k ≡ at_column row k) c
          (λ k below. pushed_other entries e k (λ same. omega arith) ∙ h.same k below)
          (pushed_here 0 c entries e c h.sparse (omega arith) column ∙ factor);
    }

pub gathered_end : (row : List ℤ) (entries : List Entry) (c : ℕ) → IsGathered row entries c →
    c ≡ length row →
    AreSparse (length row) entries × (dense (length row) entries ≡ row)
gathered_end row entries c h end = (
  subst (λ (n : ℕ). AreSparse n entries) end h.sparse,
  sym (same_dense (length row) entries row refl (λ k below. sym (h.same k (omega arith)))),
)

-- ---- entries that are spread

-- the entries so far are written, and behind them the row is 0
pub record IsSpread (n : ℕ) (entries : List Entry) (row : List ℤ) (i : ℕ) : Type 0 where
  pub from : ℕ
  pub at : IsAtEntry n entries i from
  pub done : (k : ℕ) → k < from → at_column row k ≡ factor_at entries k
  pub later : (k : ℕ) → from ≤ k → at_column row k ≡ pos 0

pub spread_start : (n : ℕ) (entries : List Entry) (row : List ℤ) → AreSparse n entries →
    ((k : ℕ) → at_column row k ≡ pos 0) →
    IsSpread n entries row 0
spread_start n entries row h zeros = record {
  from = 0;
  at = at_start n entries h;
  done = λ k below. absurd (omega arith);
  later = λ k from. zeros k;
}

pub spread_more : (n : ℕ) (entries : List Entry) (row : List ℤ) (i : ℕ) (z : ℤ) →
    IsSpread n entries row i → i < length entries →
    length row ≡ n → z ≡ (get_or entries i no_entry).factor →
    IsSpread n entries (set row (get_or entries i no_entry).column z) (i + 1)
spread_more n entries row i z h inside len z_is =
    let e = get_or entries i no_entry in
    let here = entry_at n entries i h.from h.at inside in
    let below = here.within.below in
    let behind = here.within.behind in record {
      from = e.column + 1;
      at = here.next;
      done = below_more (λ k. at_column (set row e.column z) k ≡ factor_at entries k) e.column
          (λ k before. get_or-set_other row e.column k z (pos 0) (λ same. omega arith)
          ∙ earlier e.column here.zero k before (cases_lt k h.from))
          (get_or-set_same row e.column z (pos 0) (omega arith) ∙ z_is ∙ sym here.is);
      later = λ k past. get_or-set_other row e.column k z (pos 0) (λ same. omega arith)
          ∙ h.later k (omega arith);
    }
  where
    earlier : (c : ℕ) → ((k : ℕ) → h.from ≤ k → k < c → factor_at entries k ≡ pos 0) → (k : ℕ) →
        k < c →
        (k < h.from) ⊎ (h.from ≤ k) → at_column row k ≡ factor_at entries k
    earlier c none k before (inl low) = h.done k low
    earlier c none k before (inr high) = h.later k high ∙ sym (none k high before)

pub spread_end : (n : ℕ) (entries : List Entry) (row : List ℤ) (i : ℕ) → IsSpread n entries row i →
    length entries ≤ i →
    length row ≡ n → row ≡ dense n entries
spread_end n entries row i h past len = same_dense n entries row len
    (λ k below. by_place k (cases_lt k h.from))
  where
    by_place : (k : ℕ) → (k < h.from) ⊎ (h.from ≤ k) → at_column row k ≡ factor_at entries k
    by_place k (inl low) = h.done k low
    by_place k (inr high) = h.later k high ∙ sym (at_end n entries i h.from h.at past k high)

-- ---- bounds

pub factor_below : (row : List Entry) (b : ℕ) →
    ((i : ℕ) → i < length row → unsigned_abs (get_or row i no_entry).factor ≤ b) →
    (k : ℕ) → unsigned_abs (factor_at row k) ≤ b
factor_below [] b h k = omega arith
factor_below (e ∷ row) b h k =
    by_test (eqb e.column k) (factor_below row b (λ i inside. h (suc i) (omega arith)) k)
    (h 0 (omega arith))
  where
    by_test : (t : Bool) → unsigned_abs (factor_at row k) ≤ b → unsigned_abs e.factor ≤ b →
        unsigned_abs (cond t e.factor (factor_at row k)) ≤ b
    by_test true later first = first
    by_test false later first = later

pub bounded_entries : (row : List Entry) (b : ℕ) →
    (b < 2 ^ 63 → (i : ℕ) → i < length row → unsigned_abs (get_or row i no_entry).factor ≤ b) →
    (n : ℕ) → IsExtent b n (dense n row)
bounded_entries row b h n = record {
  small = λ low k. at k (factor_below row b (h low) k) (cases_lt k n);
  zero_from = λ k past. at_dense_past n row k past;
  within = omega (arith, length-dense n row);
}
  where
    at : (k : ℕ) → unsigned_abs (factor_at row k) ≤ b → (k < n) ⊎ (n ≤ k) →
        unsigned_abs (at_column (dense n row) k) ≤ b
    at k most (inl below) = subst (λ (x : ℤ). unsigned_abs x ≤ b) (sym (at_dense n row k below))
        most
    at k most (inr past) = subst (λ (x : ℤ). unsigned_abs x ≤ b) (sym (at_dense_past n row k past))
        (omega arith)
