-- Rows of which nothing is left, while more rows are kept.
use Rattle.std.proofs.Common.{◌≡◌, ℕ, ◌<◌, ◌++◌, inl, inr, Option, None, Some, ℤ, pos, List, [], ◌∷◌, length, get_or, refl, sym, ap, subst, ◌∙◌, append-nil}
use Rattle.std.specs.Prelude.{All}
use Rattle.std.specs.List.{range_with_len}
use Rattle.std.proofs.lemmas.Bool.{cases_lt}
use Rattle.gj_shape.specs.Elimination.{KeptRow, Insertion, inserted, kept_behind, whole_numbers, at_column, Passes}
use Rattle.gj_theory.proofs.Passing.{none_passes}
use Rattle.gj_theory.proofs.Repeats.{nothing_left, zeros_inserted, repeated_keeps_nothing, repeated_passes}
use Rattle.gj_theory.specs.HandedOver.{kept_after}
use Rattle.std.proofs.lemmas.List.Elements.{All-get_or}
use Rattle.gj_elim.specs.Data.{BasisData}
use Rattle.gj_elim.specs.declared.log.Inserted.TheVariants.{Nothing}
use Rattle.gj_elim.proofs.Keeping.{IsInserted, nothing_inserted}
use Rattle.gj_sparse_elim.specs.declared.entry.Entry.{Entry}
use Rattle.gj_sparse_elim.specs.Seen.{IsSeen}
use Rattle.gj_sparse_elim.specs.Sparse.{AreSparse, dense}
use Rattle.gj_sparse_elim.proofs.SparseRows.{dense_fits, at_dense, at_dense_past}

behind_none : (kept : List KeptRow) (number : ℕ) (reduce : List ℕ) (o : Option (ℕ × List ℤ)) →
    o ≡ None → kept_behind kept number reduce o ≡ kept
unfolding kept_behind
behind_none kept number reduce o e = ap (kept_behind kept number reduce) e

-- the row stays seen behind more kept rows
seen_stays : (n : ℕ) (kept more : List KeptRow) (row : List Entry) → IsSeen n kept row →
    IsSeen n (kept ++ more) row
seen_stays n kept more row h =
    let i : Insertion = inserted n kept (dense n row) in
    let same : kept_after n kept 0 (dense n row) more ≡ kept ++ more =
    ap (λ ks. ks ++ more) (behind_none kept 0 i.reduce i.kept h.nothing) in record {
      sparse = h.sparse;
      nothing = ap (λ ks. (inserted n ks (dense n row)).kept) (sym same)
          ∙ repeated_keeps_nothing n 0 kept more (dense n row);
      narrow = λ p. h.narrow (repeated_passes n 0 kept more (dense n row)
          (dense_fits n row h.sparse)
          (subst (λ (ks : List KeptRow). Passes (inserted n ks (dense n row)).marked)
          (sym same) p));
    }

-- all rows do, behind an insertion
pub seen_behind : (n : ℕ) (kept : List KeptRow) (number : ℕ) (reduce : List ℕ)
    (o : Option (ℕ × List ℤ)) (rows : List (List Entry)) → All (IsSeen n kept) rows →
    All (IsSeen n (kept_behind kept number reduce o)) rows
unfolding kept_behind
seen_behind n kept number reduce None rows all = all
seen_behind n kept number reduce (Some p) rows all =
    λ i d low. seen_stays n kept
    (record { number = number; reduce = reduce; pivot = p.0; entries = p.1 } ∷ [])
    (get_or rows i d) (all i d low)

-- a row that was just inserted is seen
pub just_seen : (n number : ℕ) (kept : List KeptRow) (row : List Entry) → AreSparse n row →
    (Passes (inserted n kept (dense n row)).marked → ⊥) →
    IsSeen n (kept_behind kept number (inserted n kept (dense n row)).reduce
    (inserted n kept (dense n row)).kept) row
just_seen n number kept row sparse narrow =
    let i : Insertion = inserted n kept (dense n row) in
    let whole = append-nil (kept_behind kept number i.reduce i.kept) in record {
      sparse = sparse;
      nothing = ap (λ ks. (inserted n ks (dense n row)).kept) (sym whole)
          ∙ repeated_keeps_nothing n number kept [] (dense n row);
      narrow = λ p. narrow (repeated_passes n number kept [] (dense n row) (dense_fits n row sparse)
          (subst (λ (ks : List KeptRow). Passes (inserted n ks (dense n row)).marked)
          (sym whole) p));
    }

-- ---- a row without an entry

empty_zeros : (n k : ℕ) → at_column (dense n []) k ≡ pos 0
empty_zeros n k = elim (cases_lt k n) [
  | inl below ↦ at_dense n [] k below
  | inr past ↦ at_dense_past n [] k past
]

empty_seen : (n : ℕ) (kept : List KeptRow) → IsSeen n kept []
empty_seen n kept =
    let is : inserted n kept (dense n []) ≡ nothing_left =
    zeros_inserted whole_numbers kept (range_with_len 0 n) (dense n []) (empty_zeros n) in record {
      sparse = tt;
      nothing = ap (λ i. i.kept) is;
      narrow = λ p. none_passes (subst (λ (i : Insertion). Passes i.marked) is p);
    }

pub empty_rows_seen : (n : ℕ) (kept : List KeptRow) (rows : List (List Entry)) →
    All (λ row. row ≡ []) rows → All (IsSeen n kept) rows
empty_rows_seen n kept rows all =
    λ i d low. subst (IsSeen n kept) (sym (all i d low)) (empty_seen n kept)

-- ---- a row that is known again

pub known : (b d : BasisData) (rows : List (List Entry)) (i : ℕ) (row : List Entry) → b ≡ d →
    All (IsSeen b.columns b.kept) rows → i < length rows → get_or rows i [] ≡ row →
    IsInserted whole_numbers b d (dense d.columns row) b.kept Nothing
known b d rows i row same all inside is =
    let seen : IsSeen b.columns b.kept row = subst (IsSeen b.columns b.kept) is
    (All-get_or (IsSeen b.columns b.kept) rows i [] inside all) in
    let given : List ℤ = dense d.columns row in
    let none : (inserted b.columns b.kept given).kept ≡ None =
    ap (λ x. (inserted b.columns b.kept (dense x.columns row)).kept) (sym same) ∙ seen.nothing in
    nothing_inserted whole_numbers b d given [] (inserted b.columns b.kept given).reduce None same
    (record { reduce_is = refl; kept_is = none }) refl
