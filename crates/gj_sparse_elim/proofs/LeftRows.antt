-- What is left of a row, read off a set of columns.
use Rattle.std.proofs.Common.{◌≡◌, ◌≢◌, ℕ, ◌+◌, ◌<◌, ◌≤◌, ◌^◌, Bool, true, false, if◌then◌else◌, Option, None, Some, ℤ, pos, neg_ℤ, List, [], ◌∷◌, ◌++◌, length, map, refl, sym, ap, subst, ◌∙◌, unsigned_abs, arith}
use Rattle.std.specs.Prelude.{int_lt}
use Rattle.std.proofs.lemmas.Int.{ints}
use Rattle.std.proofs.lemmas.List.{length-map}
use Rattle.gj_shape.specs.Elimination.{at_column, divided, kept_entries}
use Rattle.gj_frac.specs.Fraction.{Fits}
use Rattle.gj_theory.proofs.DividedRows.{kept_negative, kept_positive}
use Rattle.gj_theory.proofs.Entries.{at_negated}
use Rattle.gj_sparse_elim.specs.declared.entry.Entry.{Entry}
use Rattle.gj_sparse_elim.specs.declared.left.Left.{Left}
use Rattle.gj_sparse_elim.specs.Left.{signed_row, AreKeptEntries, IsKeptOf}
use Rattle.gj_sparse_elim.specs.Sparse.{AreSparse, dense}
use Rattle.gj_sparse_elim.proofs.ColumnSets.{IsNextColumn}
use Rattle.gj_sparse_elim.proofs.SparseRows.{IsGathered, gathered_zero, gathered_more, gathered_end}
use Rattle.gj_sparse_elim.proofs.SparseSteps.{further}

at_signed : (b : Bool) (row : List ℤ) (k : ℕ) →
    at_column (signed_row b row) k ≡ (if b then neg_ℤ (at_column row k) else at_column row k)
at_signed true row k = at_negated row k
at_signed false row k = refl

length-signed : (b : Bool) (row : List ℤ) → length (signed_row b row) ≡ length row
length-signed true row = length-map row neg_ℤ
length-signed false row = refl

signed_zero : (b : Bool) (x : ℤ) → x ≡ pos 0 → (if b then neg_ℤ x else x) ≡ pos 0
signed_zero true x e = ap neg_ℤ e
signed_zero false x e = e

signed_some : (b : Bool) (x : ℤ) → x ≢ pos 0 → (if b then neg_ℤ x else x) ≢ pos 0
signed_some true x some e = some (opposite x e)
  where
    opposite : (x : ℤ) → neg_ℤ x ≡ pos 0 → x ≡ pos 0
    opposite x e = omega (arith, ints)
signed_some false x some e = some e

pub signed_fits : (b : Bool) (x : ℤ) → unsigned_abs x < 2 ^ 63 → Fits (if b then neg_ℤ x else x)
signed_fits true x low = omega (arith, ints)
signed_fits false x low = omega arith

-- ---- the entries, or their opposites, are gathered

pub signed_none : (b : Bool) (row : List ℤ) (entries : List Entry) (c : ℕ) →
    IsGathered (signed_row b row) entries c → at_column row c ≡ pos 0 →
    IsGathered (signed_row b row) entries (c + 1)
signed_none b row entries c h none =
    gathered_zero (signed_row b row) entries c h
    (at_signed b row c ∙ signed_zero b (at_column row c) none)

pub signed_to : (b : Bool) (row : List ℤ) (entries : List Entry) (a c : ℕ) →
    IsGathered (signed_row b row) entries a → IsNextColumn row a c →
    IsGathered (signed_row b row) entries c
signed_to b row entries a c h next =
    further (λ k. IsGathered (signed_row b row) entries k) a c next.behind h
    (λ k from to so_far. signed_none b row entries k so_far (next.zero k from to))

pub signed_more : (b : Bool) (row : List ℤ) (entries entries' : List Entry) (c : ℕ) (e : Entry) →
    IsGathered (signed_row b row) entries c → e.column ≡ c →
    e.factor ≡ (if b then neg_ℤ (at_column row c) else at_column row c) →
    at_column row c ≢ pos 0 → unsigned_abs (at_column row c) < 2 ^ 63 →
    entries' ≡ entries ++ e ∷ [] → IsGathered (signed_row b row) entries' (c + 1)
signed_more b row entries entries' c e h column factor some small is =
    let at = at_signed b row c in
    gathered_more (signed_row b row) entries entries' c e h column (factor ∙ sym at)
    (λ zero. signed_some b (at_column row c) some (sym at ∙ zero))
    (subst Fits (sym at) (signed_fits b (at_column row c) small)) is

pub signed_end : (b : Bool) (row : List ℤ) (entries : List Entry) (a : ℕ) →
    IsGathered (signed_row b row) entries a → a ≤ length row →
    ((k : ℕ) → a ≤ k → at_column row k ≡ pos 0) →
    AreSparse (length row) entries × (dense (length row) entries ≡ signed_row b row)
signed_end b row entries a h within none =
    let whole = further (λ k. IsGathered (signed_row b row) entries k) a (length row) within h
    (λ k from to so_far. signed_none b row entries k so_far (none k from)) in
    let (sparse, is) = gathered_end (signed_row b row) entries (length row) whole
    (sym (length-signed b row)) in (
      subst (λ (n : ℕ). AreSparse n entries) (length-signed b row) sparse,
      subst (λ (n : ℕ). dense n entries ≡ signed_row b row) (length-signed b row) is,
    )

-- the divided row, with the sign turned if the entry at the column is negative, is kept
pub signed_kept : (b : Bool) (row : List ℤ) (c : ℕ) → b ≡ int_lt (at_column row c) (pos 0) →
    signed_row b (divided row) ≡ kept_entries row c
signed_kept true row c e = kept_negative row (map neg_ℤ (divided row)) c (sym e) refl
signed_kept false row c e = kept_positive row (divided row) c (sym e) refl

-- ---- what is left of a row

pub nothing_left : (row : List ℤ) (left : Option ℕ) → IsKeptOf row left None → left ≡ None
nothing_left row None h = refl
nothing_left row (Some c) h = absurd h

pub something_left : (row : List ℤ) (left : Option ℕ) (l : Left) → IsKeptOf row left (Some l) →
    (left ≡ Some l.column) × AreKeptEntries row l.column l
something_left row None l h = absurd h
something_left row (Some c) l h =
    (ap Some (sym h.column), subst (λ (k : ℕ). AreKeptEntries row k l) (sym h.column) h)
