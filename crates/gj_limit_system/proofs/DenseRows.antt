-- The products of a row of all columns, of which the entries are listed.
use Rattle.std.proofs.Common.{◌≡◌, ◌↔◌, ℕ, zero, suc, ◌+◌, ◌-◌, ◌<◌, ◌≤◌, ℤ, pos, ◌+ℤ◌, ◌*ℤ◌, List, [], ◌∷◌, map, get_or, refl, sym, ap, ap₂, ◌∙◌, ⊎_elim, arith}
use Rattle.std.specs.Prelude.{if◌then◌else◌}
use Rattle.std.specs.List.{range_with_len}
use Rattle.std.proofs.lemmas.Bool.{cases_eq, eq-eqb, ne_eqb}
use Rattle.std.proofs.lemmas.Int.{ints}
use Rattle.gj_shape.specs.SlopeRows.{sum_of_products}
use Rattle.gj_theory.specs.TriangularRows.{Solves}
use Rattle.gj_sparse_elim.specs.Sparse.{factor_at, dense, AreSparseFrom, AreSparse}
use Rattle.gj_sparse_elim.specs.declared.entry.Entry.{Entry}
use Rattle.gj_limit_system.specs.SparseSums.{sparse_dot}
use Rattle.gj_limit_system.proofs.Insertions.{sparse_lower}

-- the products of the columns from a on, n in number
abbrev products : (ℕ → ℤ) → ℕ → ℕ → List ℤ → ℤ
products f a n w = sum_of_products (map f (range_with_len a n)) w

same_products : (f g : ℕ → ℤ) (a n : ℕ) (w : List ℤ) → ((c : ℕ) → a ≤ c → f c ≡ g c) →
    products f a n w ≡ products g a n w
same_products f g a zero w h = refl
same_products f g a (suc n) [] h = refl
same_products f g a (suc n) (y ∷ ys) h =
    ap₂ (λ s t. s *ℤ y +ℤ t) (h a (omega arith))
    (same_products f g (a + 1) n ys (λ c low. h c (omega (arith, low))))

no_products : (a n : ℕ) (w : List ℤ) → products (λ c. pos 0) a n w ≡ pos 0
no_products a zero w = refl
no_products a (suc n) [] = refl
no_products a (suc n) (y ∷ ys) =
    let rest = no_products (a + 1) n ys in omega (arith, ints, rest)

-- ---- the sum over the entries

same_dot : (least n : ℕ) (row : List Entry) (x y : ℕ → ℤ) → AreSparseFrom least n row →
    ((c : ℕ) → least ≤ c → x c ≡ y c) → sparse_dot row x ≡ sparse_dot row y
same_dot least n [] x y h same = refl
same_dot least n (e ∷ row) x y h same =
    let behind = h.0.behind in
    ap₂ (λ s t. e.factor *ℤ s +ℤ t) (same e.column behind)
    (same_dot (e.column + 1) n row x y h.1 (λ c low. same c (omega (arith, low, behind))))

zero_dot : (row : List Entry) → sparse_dot row (λ c. pos 0) ≡ pos 0
zero_dot [] = refl
zero_dot (e ∷ row) = let rest = zero_dot row in omega (arith, ints, rest)

-- ---- the factor at a column

factor_before : (least n c : ℕ) (row : List Entry) → AreSparseFrom least n row → c < least →
    factor_at row c ≡ pos 0
factor_before least n c [] h low = refl
factor_before least n c (e ∷ row) h low =
    let behind = h.0.behind in
    let other : e.column ≡ c → ⊥ = λ same. absurd (omega (arith, behind, low, same)) in
    ap (λ t. if t then e.factor else factor_at row c) (ne_eqb e.column c other)
    ∙ factor_before (e.column + 1) n c row h.1 (omega (arith, behind, low))

factor_here : (e : Entry) (row : List Entry) (c : ℕ) → e.column ≡ c →
    factor_at (e ∷ row) c ≡ e.factor
factor_here e row c same =
    ap (λ t. if t then e.factor else factor_at row c) (eq-eqb e.column c same)

factor_later : (e : Entry) (row : List Entry) (c : ℕ) → (e.column ≡ c → ⊥) →
    factor_at (e ∷ row) c ≡ factor_at row c
factor_later e row c other =
    ap (λ t. if t then e.factor else factor_at row c) (ne_eqb e.column c other)

-- ---- both sums are the same

shifted : (a c : ℕ) (y : ℤ) (ys : List ℤ) → a + 1 ≤ c →
    get_or (y ∷ ys) (c - a) (pos 0) ≡ get_or ys (c - (a + 1)) (pos 0)
shifted a c y ys low =
    let next : c - a ≡ suc (c - (a + 1)) = omega (arith, low) in
    ap (λ i. get_or (y ∷ ys) i (pos 0)) next

-- the products of the columns from a on, if no entry stands before
products_are : (a m n : ℕ) (row : List Entry) (w : List ℤ) → AreSparseFrom a n row → n ≡ a + m →
    products (factor_at row) a m w ≡ sparse_dot row (λ c. get_or w (c - a) (pos 0))
products_are a zero n [] w h end = refl
products_are a zero n (e ∷ row) w h end =
    let behind = h.0.behind in
    let below = h.0.below in
    absurd (omega (arith, behind, below, end))
products_are a (suc m) n row [] h end = sym (zero_dot row)
products_are a (suc m) n [] (y ∷ ys) h end =
    let rest = no_products (a + 1) m ys in omega (arith, ints, rest)
products_are a (suc m) n (e ∷ row) (y ∷ ys) h end =
    let behind = h.0.behind in
    ⊎_elim
    (λ (same : e.column ≡ a).
    let first = factor_here e row a same in
    let others = same_products (factor_at (e ∷ row)) (factor_at row) (a + 1) m ys
    (λ c low. factor_later e row c (λ equal. absurd (omega (arith, same, equal, low)))) in
    let sparse = sparse_lower (a + 1) (e.column + 1) n row (omega (arith, same)) h.1 in
    let rest = products_are (a + 1) m n row ys sparse (omega (arith, end)) in
    let turned = same_dot (a + 1) n row (λ c. get_or (y ∷ ys) (c - a) (pos 0))
    (λ c. get_or ys (c - (a + 1)) (pos 0)) sparse (λ c low. shifted a c y ys low) in
    let start : e.column - a ≡ 0 = omega (arith, same) in
    let here : get_or (y ∷ ys) (e.column - a) (pos 0) ≡ y =
    ap (λ i. get_or (y ∷ ys) i (pos 0)) start in
    ap₂ (λ s t. s *ℤ y +ℤ t) first (others ∙ rest ∙ sym turned)
    ∙ ap (λ s. e.factor *ℤ s +ℤ sparse_dot row (λ c. get_or (y ∷ ys) (c - a) (pos 0))) (sym here))
    (λ (other : e.column ≡ a → ⊥).
    let sparse : AreSparseFrom (a + 1) n (e ∷ row) = (
      record {
        behind = omega (arith, behind, other);
        below = h.0.below;
        some = h.0.some;
        fits = h.0.fits;
      },
      h.1,
    ) in
    let none = factor_before (a + 1) n a (e ∷ row) sparse (omega arith) in
    let rest = products_are (a + 1) m n (e ∷ row) ys sparse (omega (arith, end)) in
    let turned = same_dot (a + 1) n (e ∷ row) (λ c. get_or (y ∷ ys) (c - a) (pos 0))
    (λ c. get_or ys (c - (a + 1)) (pos 0)) sparse (λ c low. shifted a c y ys low) in
    let gone : pos 0 *ℤ y +ℤ products (factor_at (e ∷ row)) (a + 1) m ys
    ≡ products (factor_at (e ∷ row)) (a + 1) m ys = omega (arith, ints) in
    ap (λ s. s *ℤ y +ℤ products (factor_at (e ∷ row)) (a + 1) m ys) none ∙ gone ∙ rest
    ∙ sym turned)
    (cases_eq e.column a)

-- the products with a list of numbers
pub dense_products : (n : ℕ) (row : List Entry) (w : List ℤ) → AreSparse n row →
    sum_of_products (dense n row) w ≡ sparse_dot row (λ c. get_or w c (pos 0))
unfolding dense
dense_products n row w h =
    products_are 0 n n row w h (omega arith)
    ∙ same_dot 0 n row (λ c. get_or w (c - 0) (pos 0)) (λ c. get_or w c (pos 0)) h
    (λ c low. let same : c - 0 ≡ c = omega arith in ap (λ i. get_or w i (pos 0)) same)

-- numbers solve a row exactly if what its entries sum up to is 0
pub solved_by : (n : ℕ) (row : List Entry) (w : List ℤ) (v : ℤ) → AreSparse n row →
    sparse_dot row (λ c. get_or w c (pos 0)) ≡ v → Solves w (dense n row) ↔ (v ≡ pos 0)
solved_by n row w v h is =
    let both = dense_products n row w h ∙ is in
    (λ solves. sym both ∙ solves, λ none. both ∙ none)
