-- What the entries of a row have, and what the whole row has.
use Rattle.std.proofs.Common.{ℕ, ◌+◌, ◌<◌, ◌≤◌, ◌⊎◌, inl, inr, ℤ, pos, List, [], ◌∷◌, length, refl, sym, subst, arith}
use Rattle.std.specs.Prelude.{All}
use Rattle.std.proofs.lemmas.Bool.{cases_lt}
use Rattle.std.proofs.lemmas.List.Elements.{All-nil, All-cons, All-get_or}
use Rattle.gj_frac.specs.Fraction.{Fits}
use Rattle.gj_sparse_elim.specs.declared.entry.Entry.{Entry}
use Rattle.gj_sparse_elim.specs.Sparse.{factor_at, dense, AreSparseFrom, AreSparse}
use Rattle.gj_sparse_elim.proofs.SparseRows.{at_dense, length-dense, dense_fits, factor_here, factor_later, factor_past}

-- the factor at each column has what the whole row has, if 0 has it
pub factor_has : (P : ℤ → Type 0) (n : ℕ) (row : List Entry) (k : ℕ) → P (pos 0) → AreSparse n row →
    All P (dense n row) →
    P (factor_at row k)
factor_has P n row k none sparse all = by_place (cases_lt k n)
  where
    by_place : (k < n) ⊎ (n ≤ k) → P (factor_at row k)
    by_place (inl below) =
        subst P (at_dense n row k below)
        (All-get_or P (dense n row) k (pos 0) (omega (arith, length-dense n row)) all)
    by_place (inr past) = subst P (sym (factor_past 0 n row k sparse past)) none

-- and each entry
entries_from : (P : ℤ → Type 0) (a n : ℕ) (row : List Entry) → AreSparseFrom a n row →
    ((k : ℕ) → a ≤ k → P (factor_at row k)) → All (λ e. P e.factor) row
entries_from P a n [] h has = All-nil (λ e. P e.factor)
entries_from P a n (e ∷ row) (first, later) has =
    All-cons (λ e. P e.factor) e row
    (subst P (factor_here e row e.column refl) (has e.column first.behind))
    (entries_from P (e.column + 1) n row later
    (λ k from. let behind = first.behind in
    subst P (factor_later e row k (λ same. omega arith)) (has k (omega arith))))

pub entries_have : (P : ℤ → Type 0) (n : ℕ) (row : List Entry) → P (pos 0) → AreSparse n row →
    All P (dense n row) →
    All (λ e. P e.factor) row
entries_have P n row none sparse all =
    entries_from P 0 n row sparse (λ k from. factor_has P n row k none sparse all)

-- the entries fit
pub entries_fit : (n : ℕ) (row : List Entry) → AreSparse n row → All (λ e. Fits e.factor) row
entries_fit n row sparse = entries_have Fits n row (omega arith) sparse (dense_fits n row sparse)

-- there are at most as many as columns
few_from : (a n : ℕ) (row : List Entry) → AreSparseFrom a n row → a ≤ n → length row + a ≤ n
few_from a n [] h low = omega arith
few_from a n (e ∷ row) (first, later) low =
    let behind = first.behind in
    let below = first.below in
    let rest = few_from (e.column + 1) n row later (omega arith) in omega arith

pub few_entries : (n : ℕ) (row : List Entry) → AreSparse n row → length row ≤ n
few_entries n row h = let all = few_from 0 n row h (omega arith) in omega arith
