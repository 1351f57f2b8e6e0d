-- The row of a name by its entries.
use Rattle.std.proofs.Common.{◌≡◌, ◌≢◌, ℕ, ◌+◌, ◌⊎◌, inl, inr, ℤ, pos, ◌+ℤ◌, ◌*ℤ◌, List, [], ◌∷◌, map, refl, sym, ap, ap₂, ◌∙◌, arith}
use Rattle.std.specs.Prelude.{if◌then◌else◌}
use Rattle.std.specs.List.{range_with_len}
use Rattle.std.proofs.lemmas.Bool.{cases_eq, eq-eqb, ne_eqb}
use Rattle.std.proofs.lemmas.Int.{ints}
use Rattle.gj_shape.specs.FunctionData.{FunctionData}
use Rattle.gj_sparse_elim.specs.declared.entry.Entry.{Entry}
use Rattle.gj_sparse_elim.specs.Sparse.{factor_at, dense, AreSparseFrom, AreSparse}
use Rattle.gj_sparse_elim.proofs.SparseRows.{factor_here, factor_later, factor_before}
use Rattle.gj_limit_system.specs.LimitRows.{row_value}
use Rattle.gj_limit_system.specs.SparseSums.{sparse_dot}
use Rattle.gj_limit_system.specs.Unknowns.{limits_from}
use Rattle.gj_limit_system.specs.declared.limit_row.LimitRow.{LimitRow}
use Rattle.gj_limit_proof.specs.LimitRowsKept.{unit_at, named_row}

-- the sum with 1 at a column and 0 elsewhere is the factor there
unit_dot : (a n : ℕ) (row : List Entry) (c : ℕ) → AreSparseFrom a n row →
    sparse_dot row (unit_at c) ≡ factor_at row c
unit_dot a n [] c h = refl
unit_dot a n (e ∷ row) c (first, later) =
    by_column (cases_eq e.column c) (unit_dot (e.column + 1) n row c later)
  where
    whole : (x s : ℤ) → x *ℤ pos 1 +ℤ s ≡ x +ℤ s
    whole x s = omega (arith, ints)

    nothing : (x s : ℤ) → x *ℤ pos 0 +ℤ s ≡ s
    nothing x s = omega (arith, ints)

    no_more : (x : ℤ) → x +ℤ pos 0 ≡ x
    no_more x = omega (arith, ints)

    by_column : (e.column ≡ c) ⊎ (e.column ≢ c) → sparse_dot row (unit_at c) ≡ factor_at row c →
        e.factor *ℤ unit_at c e.column +ℤ sparse_dot row (unit_at c) ≡ factor_at (e ∷ row) c
    by_column (inl same) rest =
        ap (λ t. e.factor *ℤ (if t then pos 1 else pos 0) +ℤ sparse_dot row (unit_at c))
        (eq-eqb e.column c same)
        ∙ whole e.factor (sparse_dot row (unit_at c))
        ∙ ap (λ s. e.factor +ℤ s) (rest ∙ factor_before (e.column + 1) n row c later (omega arith))
        ∙ no_more e.factor ∙ sym (factor_here e row c same)
    by_column (inr other) rest =
        ap (λ t. e.factor *ℤ (if t then pos 1 else pos 0) +ℤ sparse_dot row (unit_at c))
        (ne_eqb e.column c other)
        ∙ nothing e.factor (sparse_dot row (unit_at c)) ∙ rest ∙ sym (factor_later e row c other)

same_map : {A : Type 0} (f g : ℕ → A) (xs : List ℕ) → ((k : ℕ) → f k ≡ g k) → map f xs ≡ map g xs
same_map f g [] same = refl
same_map f g (x ∷ xs) same = ap₂ (λ y ys. y ∷ ys) (same x) (same_map f g xs same)

-- entries that have its sums are its entries
pub dense_named : (f : FunctionData) (component : ℕ → ℕ) (n place order : ℕ) (name : LimitRow)
    (row : List Entry) →
    AreSparse n row → f.place ≡ place → f.order ≡ order →
    ((x : ℕ → ℤ) → sparse_dot row x ≡ row_value place (limits_from order component x) name) →
    dense n row ≡ named_row f component n name
unfolding dense
dense_named f component n place order name row h place_is order_is sums =
    same_map (factor_at row)
    (λ c. row_value f.place (limits_from f.order component (unit_at c)) name)
    (range_with_len 0 n)
    (λ c. sym (unit_dot 0 n row c h) ∙ sums (unit_at c)
    ∙ sym (ap₂ (λ k q. row_value k (limits_from q component (unit_at c)) name) place_is order_is))
