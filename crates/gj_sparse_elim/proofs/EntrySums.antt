-- The sum of the products of a row with numbers, by its entries.
use Rattle.std.proofs.Common.{◌≡◌, ℕ, ◌+◌, ◌<◌, ◌≤◌, ℤ, pos, ◌+ℤ◌, ◌*ℤ◌, List, [], ◌∷◌, length, map, drop, refl, ap, ap₂, ◌∙◌, arith}
use Rattle.std.specs.List.{zip}
use Rattle.std.proofs.lemmas.Int.{ints}
use Rattle.std.proofs.lemmas.List.{drop_more, drop_all}
use Rattle.gj_shape.specs.SlopeRows.{total, sum_of_products}
use Rattle.gj_shape.specs.Elimination.{at_column}
use Rattle.gj_elim.proofs.Solving.{products_from}
use Rattle.gj_sparse_elim.specs.declared.entry.Entry.{Entry}
use Rattle.gj_sparse_elim.specs.Sparse.{factor_at, dense, AreSparseFrom, AreSparse, sum_of_entries}
use Rattle.gj_sparse_elim.proofs.SparseRows.{at_dense, length-dense, factor_before, factor_here, factor_later}
use Rattle.gj_sparse_elim.proofs.SparseSteps.{further}

next_product : (row w : List ℤ) (i : ℕ) → i < length row → i < length w →
    total (products_from i row w) ≡ at_column row i *ℤ at_column w i +ℤ total
    (products_from (i + 1) row w)
next_product row w i in_row in_w =
    ap₂ (λ xs ys. total (map (λ p. p.0 *ℤ p.1) (zip xs ys))) (drop_more row i (pos 0) in_row)
    (drop_more w i (pos 0) in_w)

none_first : (x y s : ℤ) → x ≡ pos 0 → x *ℤ y +ℤ s ≡ s
none_first x y s e = ap (λ z. z *ℤ y +ℤ s) e ∙ none y s
  where
    none : (y s : ℤ) → pos 0 *ℤ y +ℤ s ≡ s
    none y s = omega (arith, ints)

-- columns without an entry
sum_on : (n : ℕ) (row : List Entry) (w : List ℤ) (a b : ℕ) → length w ≡ n → a ≤ b → b ≤ n →
    ((k : ℕ) → a ≤ k → k < b → factor_at row k ≡ pos 0) →
    total (products_from a (dense n row) w) ≡ total (products_from b (dense n row) w)
sum_on n row w a b len le within none =
    further (λ k. total (products_from a (dense n row) w) ≡ total (products_from k (dense n row) w))
    a b le refl
    (λ k from to so_far.
    so_far ∙ next_product (dense n row) w k (omega (arith, length-dense n row)) (omega arith)
    ∙ none_first (at_column (dense n row) k) (at_column w k)
    (total (products_from (k + 1) (dense n row) w))
    (at_dense n row k (omega arith) ∙ none k from to))

-- the entries that are left are those from a column on
sum_from : (n : ℕ) (row : List Entry) (w : List ℤ) (a : ℕ) (left : List Entry) → length w ≡ n →
    a ≤ n → AreSparseFrom a n left →
    ((k : ℕ) → a ≤ k → factor_at row k ≡ factor_at left k) →
    total (products_from a (dense n row) w) ≡ sum_of_entries left (at_column w)
sum_from n row w a [] len within sparse same =
    sum_on n row w a n len within (omega arith) (λ k from to. same k from)
    ∙ ap (λ xs. total (map (λ p. p.0 *ℤ p.1) (zip xs (drop n w))))
    (drop_all n (dense n row) (omega (arith, length-dense n row)))
sum_from n row w a (e ∷ left) len within (first, later) same =
    let below = first.below in
    let behind = first.behind in
    sum_on n row w a e.column len behind (omega arith)
    (λ k from to. same k from ∙ factor_later e left k (λ is. omega arith)
    ∙ factor_before (e.column + 1) n left k later (omega arith))
    ∙ next_product (dense n row) w e.column (omega (arith, length-dense n row)) (omega arith)
    ∙ ap₂ (λ x s. x *ℤ at_column w e.column +ℤ s)
    (at_dense n row e.column below ∙ same e.column behind ∙ factor_here e left e.column refl)
    (sum_from n row w (e.column + 1) left len (omega arith) later
    (λ k from. same k (omega arith) ∙ factor_later e left k (λ is. omega arith)))

pub sum_by_entries : (n : ℕ) (row : List Entry) (w : List ℤ) → AreSparse n row → length w ≡ n →
    sum_of_products (dense n row) w ≡ sum_of_entries row (at_column w)
sum_by_entries n row w sparse len = sum_from n row w 0 row len (omega arith) sparse (λ k from. refl)
