-- Rows of 64 bits whose entries are multiplied, subtracted and divided at the columns of a set.
use Rattle.std.proofs.Common.{◌≡◌, ℕ, zero, suc, ◌+◌, ◌-◌, ◌<◌, ◌≤◌, ◌^◌, ◌⊎◌, inl, inr, ℤ, pos, ◌*ℤ◌, ◌-ℤ◌, List, length, get_or, set, unsigned_abs, below_more, refl, sym, ap, subst, ◌∙◌, arith}
use Rattle.std.proofs.lemmas.Bool.{cases_lt}
use Rattle.std.proofs.lemmas.Int.{ints}
use Rattle.std.proofs.lemmas.List.{same_lists, get_or_default, get_or-set_same, get_or-set_other, get_or_past, length-set, length-map}
use Rattle.std.proofs.lemmas.Nat.Gcd.{IsGcd-from_zero}
use Rattle.gj_lemmas.proofs.Integers.{one_mul_z}
use Rattle.gj_shape.specs.Elimination.{at_column, scaled, differences, divided}
use Rattle.gj_theory.specs.Fitting.{FitsCombined}
use Rattle.gj_theory.proofs.Entries.{at_scaled, divided_at_zero}
use Rattle.gj_theory.proofs.CombinedRows.{AreCombined, combined_start, combined_more, combined_value}
use Rattle.gj_elim.specs.Lazy.{IsZeroOutside}
use Rattle.gj_elim.proofs.SmallDivisors.{IsDivisorTo, IsDividedTo, IsBoundTo, divisor_more}
use Rattle.gj_sparse_elim.specs.declared.entry.Entry.{Entry}
use Rattle.gj_sparse_elim.specs.Sparse.{factor_at, dense, AreSparse}
use Rattle.gj_sparse_elim.specs.Columns.{IsSupport}
use Rattle.gj_loops.specs.declared.index_set.IndexSet.{IndexSet}
use Rattle.gj_sparse_elim.proofs.ColumnSets.{IsNextColumn}
use Rattle.gj_sparse_elim.proofs.SparseRows.{no_entry, IsAtEntry, entry_at, at_start, at_end, at_dense, length-dense}

further_by : (P : ℕ → Type 0) (a d : ℕ) → P a → ((k : ℕ) → a ≤ k → k < a + d → P k → P (k + 1)) →
    P (a + d)
further_by P a zero h step = let none : a ≡ a + 0 = omega arith in subst P none h
further_by P a (suc d) h step =
    let next : a + d + 1 ≡ a + suc d = omega arith in
    subst P next
    (step (a + d) (omega arith) (omega arith)
    (further_by P a d h (λ k from to. step k from (omega arith))))

-- what holds at each column holds further on
pub further : (P : ℕ → Type 0) (a b : ℕ) → a ≤ b → P a →
    ((k : ℕ) → a ≤ k → k < b → P k → P (k + 1)) → P b
further P a b le h step =
    let whole : a + (b - a) ≡ b = omega arith in
    subst P whole (further_by P a (b - a) h (λ k from to. step k from (omega arith)))

-- ---- a row that is erased

pub erased_more : (row : List ℤ) (from c k : ℕ) → ((k : ℕ) → k < from → at_column row k ≡ pos 0) →
    IsNextColumn row from c →
    k < c + 1 → at_column (set row c (pos 0)) k ≡ pos 0
erased_more row from c k done next below = by_place (cases_lt k c) (cases_lt k from)
  where
    by_place : (k < c) ⊎ (c ≤ k) → (k < from) ⊎ (from ≤ k) → at_column (set row c (pos 0)) k ≡ pos 0
    by_place (inl before) (inl low) = get_or-set_other row c k (pos 0) (pos 0) (λ e. omega arith)
        ∙ done k low
    by_place (inl before) (inr high) = get_or-set_other row c k (pos 0) (pos 0) (λ e. omega arith)
        ∙ next.zero k high before
    by_place (inr there) low =
        let same : k ≡ c = omega arith in
        ap (λ j. at_column (set row c (pos 0)) j) same
        ∙ get_or-set_same row c (pos 0) (pos 0) next.inside

pub erased_still : (row : List ℤ) (c k : ℕ) → at_column row k ≡ pos 0 →
    at_column (set row c (pos 0)) k ≡ pos 0
erased_still row c k none = by_place (cases_lt c (length row)) (cases_lt k c) (cases_lt c k)
  where
    by_place : (c < length row) ⊎ (length row ≤ c) → (k < c) ⊎ (c ≤ k) → (c < k) ⊎ (k ≤ c) →
        at_column (set row c (pos 0)) k ≡ pos 0
    by_place inside (inl before) other = get_or-set_other row c k (pos 0) (pos 0) (λ e. omega arith)
        ∙ none
    by_place inside (inr from) (inl behind) = get_or-set_other row c k (pos 0) (pos 0)
        (λ e. omega arith) ∙ none
    by_place (inl inside) (inr from) (inr to) =
        let same : k ≡ c = omega arith in
        ap (λ j. at_column (set row c (pos 0)) j) same
        ∙ get_or-set_same row c (pos 0) (pos 0) inside
    by_place (inr past) (inr from) (inr to) = get_or_past (set row c (pos 0)) k (pos 0)
        (omega (arith, length-set row c (pos 0)))

-- ---- a row that is multiplied

pub record IsScaledTo (u : ℤ) (old row : List ℤ) (i : ℕ) : Type 0 where
  pub done : (k : ℕ) → k < i → at_column row k ≡ u *ℤ at_column old k
  pub later : (k : ℕ) → i ≤ k → at_column row k ≡ at_column old k

times_zero : (u : ℤ) → pos 0 ≡ u *ℤ pos 0
times_zero u = omega (arith, ints)

pub scaled_start : (u : ℤ) (row : List ℤ) → IsScaledTo u row row 0
scaled_start u row = record { done = λ k below. absurd (omega arith); later = λ k from. refl }

-- a column at which the row is 0 is multiplied too
zero_scaled : (u : ℤ) (old row : List ℤ) (k : ℕ) → at_column row k ≡ at_column old k →
    at_column old k ≡ pos 0 →
    at_column row k ≡ u *ℤ at_column old k
zero_scaled u old row k same none = same ∙ none ∙ times_zero u ∙ ap (λ x. u *ℤ x) (sym none)

pub scaled_more : (u : ℤ) (old row : List ℤ) (i c : ℕ) (z : ℤ) → IsScaledTo u old row i →
    IsNextColumn old i c → length row ≡ length old →
    z ≡ u *ℤ at_column row c → IsScaledTo u old (set row c z) (c + 1)
scaled_more u old row i c z h next len z_is = record {
  done = below_more (λ k. at_column (set row c z) k ≡ u *ℤ at_column old k) c
      (λ k before. get_or-set_other row c k z (pos 0) (λ e. omega arith)
      ∙ by_place k before (cases_lt k i))
      (get_or-set_same row c z (pos 0) (let inside = next.inside in omega arith) ∙ z_is
      ∙ ap (λ x. u *ℤ x) (h.later c next.behind));
  later = λ k from. get_or-set_other row c k z (pos 0) (λ e. omega arith)
      ∙ h.later k (let behind = next.behind in omega arith);
}
  where
    by_place : (k : ℕ) → k < c → (k < i) ⊎ (i ≤ k) → at_column row k ≡ u *ℤ at_column old k
    by_place k before (inl low) = h.done k low
    by_place k before (inr high) = zero_scaled u old row k (h.later k high)
        (next.zero k high before)

pub scaled_end : (u : ℤ) (old row : List ℤ) (i : ℕ) → IsScaledTo u old row i →
    length row ≡ length old →
    ((k : ℕ) → i ≤ k → at_column old k ≡ pos 0) → row ≡ scaled u old
scaled_end u old row i h len none =
    same_lists row (scaled u old) (len ∙ sym (length-map old (λ x. u *ℤ x)))
    (λ k d below.
    get_or_default row k d (pos 0) below ∙ by_place k (cases_lt k i) ∙ sym (at_scaled u old k)
    ∙ get_or_default (scaled u old) k (pos 0) d (omega (arith, length-map old (λ x. u *ℤ x))))
  where
    by_place : (k : ℕ) → (k < i) ⊎ (i ≤ k) → at_column row k ≡ u *ℤ at_column old k
    by_place k (inl low) = h.done k low
    by_place k (inr high) = zero_scaled u old row k (h.later k high) (none k high)

pub scaled_zero : (u : ℤ) (row next : List ℤ) (k : ℕ) → next ≡ scaled u row →
    at_column row k ≡ pos 0 → at_column next k ≡ pos 0
scaled_zero u row next k is none =
    ap (λ xs. at_column xs k) is ∙ at_scaled u row k ∙ ap (λ x. u *ℤ x) none ∙ sym (times_zero u)

-- ---- a row from which entries are subtracted

-- a column at which there is no entry
combined_zero : (w : ℤ) (old kept row : List ℤ) (i : ℕ) → AreCombined (pos 1) w old kept row i →
    at_column kept i ≡ pos 0 →
    unsigned_abs (at_column old i) < 2 ^ 62 → AreCombined (pos 1) w old kept row (i + 1)
combined_zero w old kept row i h none small = record {
  done = below_more (λ k. at_column row k ≡ pos 1 *ℤ at_column old k -ℤ w *ℤ at_column kept k) i
      h.done
      (h.later i (omega arith) ∙ less (at_column old i) w
      ∙ ap (λ e. pos 1 *ℤ at_column old i -ℤ w *ℤ e) (sym none));
  fit = below_more (λ k. FitsCombined (pos 1) (at_column old k) w (at_column kept k)) i h.fit
      (subst (λ (e : ℤ). FitsCombined (pos 1) (at_column old i) w e) (sym none)
      (fits (at_column old i) w small));
  later = λ k from. h.later k (omega arith);
}
  where
    less : (x w : ℤ) → x ≡ pos 1 *ℤ x -ℤ w *ℤ pos 0
    less x w = omega (arith, ints)

    fits : (x w : ℤ) → unsigned_abs x < 2 ^ 62 → FitsCombined (pos 1) x w (pos 0)
    fits x w low =
        let one = one_mul_z x in
        let none : w *ℤ pos 0 ≡ pos 0 = omega (arith, ints) in
        let whole : x ≡ pos 1 *ℤ x -ℤ w *ℤ pos 0 = less x w in
        record {
          first = subst (λ (y : ℤ). unsigned_abs y < 2 ^ 127) (sym one) (omega arith);
          second = subst (λ (y : ℤ). unsigned_abs y < 2 ^ 127) (sym none) (omega arith);
          difference = subst (λ (y : ℤ). unsigned_abs y < 2 ^ 127) whole (omega arith);
        }

-- the entries so far are subtracted
pub record IsSubtracted (w : ℤ) (n : ℕ) (old : List ℤ) (entries : List Entry)
    (touched : List IndexSet) (row : List ℤ) (i : ℕ) : Type 0 where
  pub from : ℕ
  pub at : IsAtEntry n entries i from
  pub combined : AreCombined (pos 1) w old (dense n entries) row from
  pub support : IsSupport touched row

pub subtracted_start : (w : ℤ) (n : ℕ) (old : List ℤ) (entries : List Entry)
    (touched : List IndexSet) → AreSparse n entries →
    IsSupport touched old → IsSubtracted w n old entries touched old 0
subtracted_start w n old entries touched sparse support = record {
  from = 0;
  at = at_start n entries sparse;
  combined = combined_start (pos 1) w old (dense n entries);
  support = support;
}

-- the columns before the next entry
combined_to : (w : ℤ) (n : ℕ) (old row : List ℤ) (entries : List Entry) (a c : ℕ) → a ≤ c → c ≤ n →
    AreCombined (pos 1) w old (dense n entries) row a →
    ((k : ℕ) → a ≤ k → k < c → factor_at entries k ≡ pos 0) →
    ((k : ℕ) → unsigned_abs (at_column old k) < 2 ^ 62) →
    AreCombined (pos 1) w old (dense n entries) row c
combined_to w n old row entries a c le within h none small =
    further (λ k. AreCombined (pos 1) w old (dense n entries) row k) a c le h
    (λ k from to so_far.
    combined_zero w old (dense n entries) row k so_far
    (at_dense n entries k (omega arith) ∙ none k from to) (small k))

-- the row at the column of the next entry is as it was
pub record IsOldAt (w : ℤ) (n : ℕ) (old row : List ℤ) (entries : List Entry) (c : ℕ) : Type 0 where
  pub below : c < n
  pub same : at_column row c ≡ at_column old c
  pub combined : AreCombined (pos 1) w old (dense n entries) row c

pub old_at : (w : ℤ) (n : ℕ) (old : List ℤ) (entries : List Entry) (touched : List IndexSet)
    (row : List ℤ) (i : ℕ) →
    IsSubtracted w n old entries touched row i → i < length entries →
    ((k : ℕ) → unsigned_abs (at_column old k) < 2 ^ 62) →
    IsOldAt w n old row entries (get_or entries i no_entry).column
old_at w n old entries touched row i h inside small =
    let here = entry_at n entries i h.from h.at inside in
    let below = here.within.below in
    let behind = here.within.behind in
    let to = combined_to w n old row entries h.from (get_or entries i no_entry).column behind
    (omega arith) h.combined here.zero small in
    record {
      below = below;
      same = to.later (get_or entries i no_entry).column (omega arith);
      combined = to;
    }

pub subtracted_more : (w : ℤ) (n : ℕ) (old : List ℤ) (entries : List Entry)
    (touched touched' : List IndexSet) (row : List ℤ) (i : ℕ) (z : ℤ) →
    IsSubtracted w n old entries touched row i → i < length entries →
    ((k : ℕ) → unsigned_abs (at_column old k) < 2 ^ 62) →
    length row ≡ n →
    z ≡ pos 1 *ℤ at_column row (get_or entries i no_entry).column -ℤ w *ℤ
    (get_or entries i no_entry).factor →
    FitsCombined (pos 1) (at_column row (get_or entries i no_entry).column) w
    (get_or entries i no_entry).factor →
    IsSupport touched' (set row (get_or entries i no_entry).column z) →
    IsSubtracted w n old entries touched' (set row (get_or entries i no_entry).column z) (i + 1)
subtracted_more w n old entries touched touched' row i z h inside small len z_is fits support =
    let e = get_or entries i no_entry in
    let here = entry_at n entries i h.from h.at inside in
    let old_here = old_at w n old entries touched row i h inside small in
    let below = old_here.below in
    record {
      from = e.column + 1;
      at = here.next;
      combined = combined_more (pos 1) w old (dense n entries) row e.column z old_here.combined
          (omega arith)
          (z_is ∙ ap (λ y. pos 1 *ℤ at_column row e.column -ℤ w *ℤ y) (sym here.whole))
          (subst (λ (y : ℤ). FitsCombined (pos 1) (at_column row e.column) w y) (sym here.whole)
          fits);
      support = support;
    }

-- a factor as the code reads it
pub read_subtracted : (v w : ℤ) (n : ℕ) (old : List ℤ) (entries : List Entry)
    (touched : List IndexSet) (row : List ℤ) (i : ℕ) → v ≡ w →
    IsSubtracted w n old entries touched row i → IsSubtracted v n old entries touched row i
read_subtracted v w n old entries touched row i is h =
    subst (λ (x : ℤ). IsSubtracted x n old entries touched row i) (sym is) h

pub subtracted_end : (w : ℤ) (n : ℕ) (old : List ℤ) (entries : List Entry) (touched : List IndexSet)
    (row : List ℤ) (i : ℕ) →
    IsSubtracted w n old entries touched row i → length entries ≤ i →
    ((k : ℕ) → unsigned_abs (at_column old k) < 2 ^ 62) →
    length row ≡ length old → n ≡ length old →
    row ≡ differences (scaled (pos 1) old) (scaled w (dense n entries))
subtracted_end w n old entries touched row i h past small len n_is =
    by_place (cases_lt h.from n)
  where
    whole : (c : ℕ) → n ≤ c → AreCombined (pos 1) w old (dense n entries) row c →
        row ≡ differences (scaled (pos 1) old) (scaled w (dense n entries))
    whole c all so_far =
        combined_value (pos 1) w old (dense n entries) row c so_far (length-dense n entries ∙ n_is)
        len (omega arith)

    by_place : (h.from < n) ⊎ (n ≤ h.from) →
        row ≡ differences (scaled (pos 1) old) (scaled w (dense n entries))
    by_place (inl below) =
        whole n (omega arith)
        (combined_to w n old row entries h.from n (omega arith) (omega arith) h.combined
        (λ k from to. at_end n entries i h.from h.at past k from) small)
    by_place (inr all) = whole h.from all h.combined

-- ---- a row that is divided

pub divisor_to : (row : List ℤ) (i c d : ℕ) → IsDivisorTo row i d → IsNextColumn row i c →
    IsDivisorTo row c d
divisor_to row i c d h next =
    let inside = next.inside in
    further (λ k. IsDivisorTo row k d) i c next.behind h
    (λ k from to so_far.
    divisor_more row k d d so_far (omega arith)
    (IsGcd-from_zero d (unsigned_abs (at_column row k)) (ap unsigned_abs (next.zero k from to)))
    so_far.low)

pub divided_to : (old row : List ℤ) (i c : ℕ) → IsDividedTo old row i → IsNextColumn old i c →
    IsDividedTo old row c
divided_to old row i c h next = record {
  done = λ k before. by_place k before (cases_lt k i);
  later = λ k from. h.later k (let behind = next.behind in omega arith);
}
  where
    by_place : (k : ℕ) → k < c → (k < i) ⊎ (i ≤ k) → at_column row k ≡ at_column (divided old) k
    by_place k before (inl low) = h.done k low
    by_place k before (inr high) =
        let none = next.zero k high before in h.later k high ∙ none
        ∙ sym (divided_at_zero old k none)

pub bound_to : (row : List ℤ) (i c bound next : ℕ) → IsBoundTo row i bound → IsNextColumn row i c →
    bound ≤ next →
    unsigned_abs (at_column row c) ≤ next → next < 2 ^ 63 → IsBoundTo row (c + 1) next
bound_to row i c bound next h column more here low = record {
  is = below_more (λ k. unsigned_abs (at_column row k) ≤ next) c
      (λ k before. by_place k before (cases_lt k i)) here;
  low = low;
}
  where
    by_place : (k : ℕ) → k < c → (k < i) ⊎ (i ≤ k) → unsigned_abs (at_column row k) ≤ next
    by_place k before (inl low) = let small = h.is k low in omega arith
    by_place k before (inr high) =
        subst (λ (x : ℤ). unsigned_abs x ≤ next) (sym (column.zero k high before)) (omega arith)

pub bound_end : (row : List ℤ) (i bound : ℕ) → IsBoundTo row i bound →
    ((k : ℕ) → i ≤ k → at_column row k ≡ pos 0) →
    (k : ℕ) → unsigned_abs (at_column row k) ≤ bound
bound_end row i bound h none k = by_place (cases_lt k i)
  where
    by_place : (k < i) ⊎ (i ≤ k) → unsigned_abs (at_column row k) ≤ bound
    by_place (inl low) = h.is k low
    by_place (inr high) = subst (λ (x : ℤ). unsigned_abs x ≤ bound) (sym (none k high))
        (omega arith)

-- from a column on a row is 0, and before another one
pub zero_within : (row : List ℤ) (from to end : ℕ) → IsZeroOutside from end row →
    ((k : ℕ) → to ≤ k → at_column row k ≡ pos 0) →
    IsZeroOutside from to row
zero_within row from to end h none = record { before = h.before; behind = none }
