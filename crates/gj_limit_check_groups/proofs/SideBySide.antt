-- The entries of a row, read column by column beside those of another.
use Rattle.std.proofs.Common.{◌≡◌, ◌≢◌, ℕ, ◌+◌, ◌<◌, ◌≤◌, ◌⊎◌, inl, inr, ℤ, pos, List, ◌∷◌, length, get_or, drop, sym, ap, subst, ◌∙◌, arith}
use Rattle.std.proofs.lemmas.Bool.{cases_lt}
use Rattle.std.proofs.lemmas.List.{drop_more, drop_all}
use Rattle.gj_sparse_elim.specs.declared.entry.Entry.{Entry}
use Rattle.gj_sparse_elim.specs.Sparse.{factor_at, AreSparseFrom}
use Rattle.gj_sparse_elim.proofs.SparseRows.{no_entry, IsAtEntry, entry_at, at_end}
use Rattle.gj_limit_check_groups.specs.Merging.{IsReached}

-- c is the column of the entry at the index; n if there is none
pub record IsNext (n : ℕ) (row : List Entry) (i c : ℕ) : Type 0 where
  pub entry : i < length row → c ≡ (get_or row i no_entry).column
  pub none : length row ≤ i → c ≡ n

-- no entry stands before it
pub none_before : (n : ℕ) (row : List Entry) (i a c k : ℕ) → IsAtEntry n row i a →
    IsNext n row i c → a ≤ k → k < c →
    factor_at row k ≡ pos 0
none_before n row i a c k h next from below = by_place (cases_lt i (length row))
  where
    by_place : (i < length row) ⊎ (length row ≤ i) → factor_at row k ≡ pos 0
    by_place (inl inside) =
        (entry_at n row i a h inside).zero k from (omega (arith, next.entry inside))
    by_place (inr past) = at_end n row i a h past k from

-- it is not below the column from which on the row is read
pub next_behind : (n : ℕ) (row : List Entry) (i a c : ℕ) → IsAtEntry n row i a → IsNext n row i c →
    a ≤ n → a ≤ c
next_behind n row i a c h next low = by_place (cases_lt i (length row))
  where
    by_place : (i < length row) ⊎ (length row ≤ i) → a ≤ c
    by_place (inl inside) =
        let behind = (entry_at n row i a h inside).within.behind in omega (arith, next.entry inside)
    by_place (inr past) = omega (arith, next.none past)

-- so the entries from the index on have columns up to it
pub later_at : (n : ℕ) (row : List Entry) (i a b c : ℕ) → IsAtEntry n row i a → IsNext n row i c →
    a ≤ b → b ≤ c →
    IsAtEntry n row i b
later_at n row i a b c h next on to = record {
  rest = by_place (cases_lt i (length row));
  same = λ k from. h.same k (omega arith);
}
  where
    of_one : (e : Entry) (more : List Entry) → b ≤ e.column → AreSparseFrom a n (e ∷ more) →
        AreSparseFrom b n (e ∷ more)
    of_one e more high (first, later) =
        (record { behind = high; below = first.below; some = first.some; fits = first.fits }, later)

    by_place : (i < length row) ⊎ (length row ≤ i) → AreSparseFrom b n (drop i row)
    by_place (inl inside) =
        let split = drop_more row i no_entry inside in
        subst (λ (xs : List Entry). AreSparseFrom b n xs) (sym split)
        (of_one (get_or row i no_entry) (drop (i + 1) row) (omega (arith, next.entry inside))
        (subst (λ (xs : List Entry). AreSparseFrom a n xs) split h.rest))
    by_place (inr past) = subst (λ (xs : List Entry). AreSparseFrom b n xs)
        (sym (drop_all i row past)) tt

-- what a row has at a column, and the index behind it
pub record IsTaken (n : ℕ) (row : List Entry) (i b c : ℕ) (factor : ℤ) (behind : ℕ) : Type 0 where
  pub factor_is : factor ≡ factor_at row b
  pub at : IsAtEntry n row behind (b + 1)
  pub least : i ≤ behind
  pub within : i ≤ length row → behind ≤ length row
  pub onward : b ≡ c → behind ≡ i + 1

pub taken : (n : ℕ) (row : List Entry) (i b c : ℕ) (factor : ℤ) (behind : ℕ) → IsAtEntry n row i b →
    IsNext n row i c →
    b ≤ c → b < n → IsReached row i b factor behind → IsTaken n row i b c factor behind
taken n row i b c factor behind h next to below is =
    by_column (cases_lt b c) (cases_lt i (length row))
  where
    by_column : (b < c) ⊎ (c ≤ b) → (i < length row) ⊎ (length row ≤ i) →
        IsTaken n row i b c factor behind
    by_column (inl before) other =
        let apart : (i < length row → (get_or row i no_entry).column ≢ b) =
        λ inside same. omega (arith, next.entry inside) in
        let (none, stays) = is.other apart in record {
          factor_is = none ∙ sym (none_before n row i b c b h next (omega arith) before);
          at = subst (λ (j : ℕ). IsAtEntry n row j (b + 1)) (sym stays)
              (later_at n row i b (b + 1) c h next (omega arith) (omega arith));
          least = omega arith;
          within = λ inside. omega arith;
          onward = λ same. absurd (omega arith);
        }
    by_column (inr from) (inl inside) =
        let same : (get_or row i no_entry).column ≡ b = omega (arith, next.entry inside) in
        let (is_factor, goes) = is.here inside same in
        let e = entry_at n row i b h inside in record {
          factor_is = is_factor ∙ sym e.is ∙ ap (factor_at row) same;
          at = subst (λ (j : ℕ). IsAtEntry n row j (b + 1)) (sym goes)
              (subst (λ (k : ℕ). IsAtEntry n row (i + 1) (k + 1)) same e.next);
          least = omega arith;
          within = λ at_most. omega arith;
          onward = λ other. goes;
        }
    by_column (inr from) (inr past) = absurd (omega (arith, next.none past))
