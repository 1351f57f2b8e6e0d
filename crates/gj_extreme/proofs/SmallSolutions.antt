-- How large the numbers of a solution are, if there are at most so many columns.
use Rattle.std.proofs.Common.{◌≡◌, ℕ, zero, suc, inr, ◌+◌, ◌-◌, ◌*◌, ◌<◌, ◌≤◌, Bool, true, false, if◌then◌else◌, Option, None, Some, ℤ, pos, ◌+ℤ◌, ◌*ℤ◌, neg_ℤ, ◌<ℤ◌, int_div, List, [], ◌∷◌, ◌++◌, length, map, drop, eqb, unsigned_abs, refl, sym, ap, subst, mul-le-mul_left, ◌∙◌, arith}
use Rattle.std.specs.List.{zip}
use Rattle.std.proofs.Math.Nat.{mul-le-mul_right, one-le-mul}
use Rattle.std.proofs.lemmas.List.{length-drop}
use Rattle.std.proofs.lemmas.List.FromFn.{length-map-range_with_len}
use Rattle.std.proofs.lemmas.List.Elements.{All-nil, All-cons, All-head, All-tail, All-append, All-drop, All-set}
use Rattle.gj_frac.proofs.Reduced.{quotient_of_divisor}
use Rattle.gj_perturb.proofs.SplitParts.{product_at_most}
use Rattle.gj_lemmas.proofs.Divisors.{gcd_of_is, gcd_positive}
use Rattle.gj_lemmas.proofs.Integers.{abs_neg_z, abs_add_z, abs_positive_z}
use Rattle.gj_lemmas.proofs.Lists.{All-made}
use Rattle.gj_shape.specs.Elimination.{KeptRow, Solution, at_column, scaled, partial_sums, products_behind, solving_gcd, solved_at, marked_in_solving, entries_of, row_with_pivot, solution_below, solution_from, free_column, unit_row, kernel}
use Rattle.gj_shape.specs.SlopeRows.{total}
use Rattle.gj_theory.specs.TriangularRows.{AreTriangular}
use Rattle.gj_theory.proofs.Triangular.{kept_row_at}
use Rattle.gj_theory.proofs.Kernels.{free_has_no_row, length-solved}
use Rattle.gj_elim.proofs.KernelFits.{factor_small}
use Rattle.gj_extreme.proofs.SmallNumbers.{IsSmall, small_up, small_at, small_scaled, bound, bound_some, bound_up, pivots_before, pivots_by_column, bound_at, AreSmall, kept_small_at}

-- ---- sums and products

small_products : (a b : ℕ) (xs ys : List ℤ) → IsSmall a xs → IsSmall b ys →
    IsSmall (a * b) (map (λ p. p.0 *ℤ p.1) (zip xs ys))
small_products a b [] ys h k = All-nil (λ x. unsigned_abs x ≤ a * b)
small_products a b (x ∷ xs) [] h k = All-nil (λ x. unsigned_abs x ≤ a * b)
small_products a b (x ∷ xs) (y ∷ ys) h k =
    All-cons (λ z. unsigned_abs z ≤ a * b) (x *ℤ y) (map (λ p. p.0 *ℤ p.1) (zip xs ys))
    (product_at_most a b x y (All-head (λ z. unsigned_abs z ≤ a) x xs h)
    (All-head (λ z. unsigned_abs z ≤ b) y ys k))
    (small_products a b xs ys (All-tail (λ z. unsigned_abs z ≤ a) x xs h)
    (All-tail (λ z. unsigned_abs z ≤ b) y ys k))

products_short : (xs ys : List ℤ) → length (map (λ p. p.0 *ℤ p.1) (zip xs ys)) ≤ length ys
products_short [] ys = omega arith
products_short (x ∷ xs) [] = omega arith
products_short (x ∷ xs) (y ∷ ys) = let rest = products_short xs ys in omega arith

pub small_total : (b : ℕ) (xs : List ℤ) → IsSmall b xs → unsigned_abs (total xs) ≤ length xs * b
small_total b [] h = omega arith
small_total b (x ∷ xs) h =
    let sum = abs_add_z x (total xs) in
    let first = All-head (λ z. unsigned_abs z ≤ b) x xs h in
    let rest = small_total b xs (All-tail (λ z. unsigned_abs z ≤ b) x xs h) in
    omega arith

small_sums : (b s : ℕ) (sum : ℤ) (xs : List ℤ) → unsigned_abs sum ≤ s → IsSmall b xs →
    IsSmall (s + length xs * b) (partial_sums sum xs)
small_sums b s sum [] low h = All-nil (λ x. unsigned_abs x ≤ s + length {A = ℤ} [] * b)
small_sums b s sum (x ∷ xs) low h =
    let more = abs_add_z sum x in
    let first = All-head (λ z. unsigned_abs z ≤ b) x xs h in
    let next : unsigned_abs (sum +ℤ x) ≤ s + b = omega arith in
    let whole : s + b + length xs * b ≡ s + length (x ∷ xs) * b = omega arith in
    All-cons (λ z. unsigned_abs z ≤ s + length (x ∷ xs) * b) (sum +ℤ x) (partial_sums (sum +ℤ x) xs)
    (omega arith)
    (subst (λ (t : ℕ). IsSmall t (partial_sums (sum +ℤ x) xs)) whole
    (small_sums b (s + b) (sum +ℤ x) xs next (All-tail (λ z. unsigned_abs z ≤ b) x xs h)))

-- ---- a column is solved

-- a factor of at least 1 is no less
times_more : (m x : ℕ) → 1 ≤ m → x ≤ m * x
times_more m x some = let more : x * 1 ≤ x * m = mul-le-mul_left x some in omega arith

record SolvingIsSmall (b : ℕ) (row : List ℤ) (j : ℕ) (w : List ℤ) : Type 0 where
  marked : IsSmall b (marked_in_solving row j w)
  numbers : IsSmall b (solved_at row j w)

-- at most m products are summed
solving_small : (m k v : ℕ) (row : List ℤ) (j : ℕ) (w : List ℤ) → 1 ≤ m → IsSmall k row →
    IsSmall v w → length w ≤ suc m →
    pos 0 <ℤ at_column row j → SolvingIsSmall (m * (k * v)) row j w
unfolding marked_in_solving solved_at
solving_small m k v row j w m_some row_small w_small short some =
    let b = m * (k * v) in
    let P : ℤ → Type 0 = λ x. unsigned_abs x ≤ b in
    let g = solving_gcd row j w in
    let u = int_div (at_column row j) (pos g) in
    let ps = products_behind j row w in
    let sum = total ps in
    let q = int_div sum (pos g) in
    let is = gcd_of_is (unsigned_abs sum) (unsigned_abs (at_column row j)) in
    let g_some : 0 < g =
    gcd_positive (unsigned_abs sum) (unsigned_abs (at_column row j)) g is
    (inr (abs_positive_z (at_column row j) some)) in
    let u_low = factor_small u g (at_column row j) g_some
    (quotient_of_divisor (at_column row j) (pos g) is.1) in
    let q_low = factor_small q g sum g_some (quotient_of_divisor sum (pos g) is.0) in
    let row_at = small_at k row j row_small in
    let products : IsSmall (k * v) ps =
    small_products k v (drop (j + 1) row) (drop (j + 1) w)
    (All-drop (λ x. unsigned_abs x ≤ k) (j + 1) row row_small)
    (All-drop (λ x. unsigned_abs x ≤ v) (j + 1) w w_small) in
    let few : length ps ≤ m =
    let first = products_short (drop (j + 1) row) (drop (j + 1) w) in
    let rest = length-drop (j + 1) w in omega arith in
    let at_most : length ps * (k * v) ≤ b = mul-le-mul_right (k * v) few in
    let scaled_small : IsSmall (k * v) (scaled u w) = small_scaled k v u w (omega arith) w_small in
    let sum_low = small_total (k * v) ps products in
    let turned = abs_neg_z q in
    let up : k * v ≤ b = times_more m (k * v) m_some in
    let scaled_up = small_up (k * v) b (scaled u w) up scaled_small in
    record {
      marked =
          All-append P (ps ++ partial_sums (pos 0) ps) (scaled u w)
          (All-append P ps (partial_sums (pos 0) ps) (small_up (k * v) b ps up products)
          (small_up (0 + length ps * (k * v)) b (partial_sums (pos 0) ps) (omega arith)
          (small_sums (k * v) 0 (pos 0) ps (omega arith) products))) scaled_up;
      numbers = All-set P (scaled u w) j (neg_ℤ q) (omega arith) scaled_up;
    }

-- ---- the columns below

-- numbers grow by at most this factor if the j columns below are solved by rows of the bound, with
-- at most m products summed
unfoldable pub grown : ℕ → ℕ → ℕ → ℕ
grown b m zero = 1
grown b m (suc j) = m * bound b j * grown b m j

grown_start : (b m : ℕ) → grown b m 0 ≡ 1
unfolding grown
grown_start b m = refl

grown_next : (b m j : ℕ) → grown b m (suc j) ≡ m * bound b j * grown b m j
unfolding grown
grown_next b m j = refl

grown_some : (b m j : ℕ) → 1 ≤ b → 1 ≤ m → 1 ≤ grown b m j
grown_some b m zero some m_some = let start = grown_start b m in omega arith
grown_some b m (suc j) some m_some =
    let next = grown_next b m j in
    let product = one-le-mul (one-le-mul m_some (bound_some b j some))
    (grown_some b m j some m_some) in
    omega arith

grown_step : (b m j : ℕ) → 1 ≤ b → 1 ≤ m → grown b m j ≤ grown b m (suc j)
grown_step b m j some m_some =
    let next = grown_next b m j in
    let more = times_more (m * bound b j) (grown b m j) (one-le-mul m_some (bound_some b j some)) in
    omega arith

grown_more : (b m j d : ℕ) → 1 ≤ b → 1 ≤ m → grown b m j ≤ grown b m (j + d)
grown_more b m j zero some m_some = let same =
    ap (grown b m) (let e : j + zero ≡ j = omega arith in e) in omega arith
grown_more b m j (suc d) some m_some =
    let before = grown_more b m j d some m_some in
    let step = grown_step b m (j + d) some m_some in
    let same = ap (grown b m) (let e : j + suc d ≡ suc (j + d) = omega arith in e) in
    omega arith

grown_up : (b m i j : ℕ) → 1 ≤ b → 1 ≤ m → i ≤ j → grown b m i ≤ grown b m j
grown_up b m i j some m_some up =
    let more = grown_more b m i (j - i) some m_some in
    let same = ap (grown b m) (let e : i + (j - i) ≡ j = omega arith in e) in
    omega arith

pub record SolutionIsSmall (b : ℕ) (s : Solution) : Type 0 where
  pub numbers : IsSmall b s.numbers
  pub marked : IsSmall b s.marked

solution_up : (a b : ℕ) (s : Solution) → a ≤ b → SolutionIsSmall a s → SolutionIsSmall b s
solution_up a b s up h =
    record {
      numbers = small_up a b s.numbers up h.numbers;
      marked =
          small_up a b s.marked up h.marked;
    }

-- the row with its pivot at the column is within the bound, and positive there
record IsRowAt (k : ℕ) (kept : List KeptRow) (j : ℕ) : Type 0 where
  small : IsSmall k (entries_of (row_with_pivot kept j))
  positive : pos 0 <ℤ at_column (entries_of (row_with_pivot kept j)) j

below_small : (b m v : ℕ) (kept : List KeptRow) (j : ℕ) (w : List ℤ) → 1 ≤ b → 1 ≤ m →
    length w ≤ suc m → IsSmall v w →
    ((i : ℕ) → i < j → IsRowAt (bound b i) kept i) →
    SolutionIsSmall (grown b m j * v) (solution_below kept j w)
unfolding solution_below
below_small b m v kept zero w some m_some short small rows =
    let start = grown_start b m in record {
      numbers = small_up v (grown b m 0 * v) w (times_more (grown b m 0) v (omega arith)) small;
      marked = All-nil (λ x. unsigned_abs x ≤ grown b m 0 * v);
    }
below_small b m v kept (suc j) w some m_some short small rows =
    let row = entries_of (row_with_pivot kept j) in
    let here = rows j (omega arith) in
    let step = solving_small m (bound b j) v row j w m_some here.small small short here.positive in
    let long = length-solved row j w in
    let u : ℕ = m * (bound b j * v) in
    let rest = below_small b m u kept j (solved_at row j w) some m_some (omega arith) step.numbers
    (λ i low. rows i (omega arith)) in
    let whole : grown b m j * u ≡ grown b m (suc j) * v =
    turned m (bound b j) (grown b m j) v ∙ ap (λ x. x * v) (sym (grown_next b m j)) in
    let up : u ≤ grown b m (suc j) * v =
    let more = times_more (grown b m j) u (grown_some b m j some m_some) in omega arith in
    let all = subst (λ (x : ℕ). SolutionIsSmall x (solution_below kept j (solved_at row j w))) whole
    rest in record {
      numbers = all.numbers;
      marked =
          All-append (λ x. unsigned_abs x ≤ grown b m (suc j) * v) (marked_in_solving row j w)
          (solution_below kept j (solved_at row j w)).marked
          (small_up u (grown b m (suc j) * v) (marked_in_solving row j w) up step.marked)
          all.marked;
    }
  where
    turned : (m k g v : ℕ) → g * (m * (k * v)) ≡ m * k * g * v
    turned m k g v = omega arith

-- ---- the kernel

unit_small : (n c : ℕ) → IsSmall 1 (unit_row n c)
unit_small n c =
    All-made (λ x. unsigned_abs x ≤ 1) (λ j. if eqb j c then pos 1 else pos 0) 0 n
    (λ j low. by_test (eqb j c))
  where
    by_test : (b : Bool) → unsigned_abs (if b then pos 1 else pos 0) ≤ 1
    by_test true = omega arith
    by_test false = omega arith

pub kernel_small : (b m n : ℕ) (kept : List KeptRow) (s : Solution) → 1 ≤ b → 1 ≤ m → n ≤ suc m →
    AreTriangular n kept → AreSmall b kept →
    kernel n kept ≡ Some s → SolutionIsSmall (grown b m m) s
unfolding solution_from entries_of
kernel_small b m n kept s some m_some few h small e = by_free (free_column n kept) refl e
  where
    row_at : (c : ℕ) → free_column n kept ≡ Some c → (j : ℕ) → j < c → (o : Option KeptRow) →
        row_with_pivot kept j ≡ o →
        IsSmall (bound b j) (entries_of o) × (pos 0 <ℤ at_column (entries_of o) j)
    row_at c free j low None none = absurd ((free_has_no_row n kept c free).2 j low none)
    row_at c free j low (Some r) found =
        let (is, at) = kept_row_at n kept j r h found in
        let up = bound_up b (pivots_before kept j) j some (pivots_by_column kept j) in (
          small_up (bound_at b kept j) (bound b j) r.entries up
              (kept_small_at b kept j r small found),
          subst (λ (i : ℕ). pos 0 <ℤ at_column r.entries i) at is.at_pivot,
        )

    by_free : (o : Option ℕ) → free_column n kept ≡ o → solution_from n kept o ≡ Some s →
        SolutionIsSmall (grown b m m) s
    by_free None free is = absurd cc
    by_free (Some c) free is =
        let below = (free_has_no_row n kept c free).0 in
        let long = length-map-range_with_len (λ j. if eqb j c then pos 1 else pos 0) 0 n in
        let found : solution_below kept c (unit_row n c) ≡ s = cc in
        let up = grown_up b m c m some m_some (omega arith) in
        subst (SolutionIsSmall (grown b m m)) found
        (solution_up (grown b m c * 1) (grown b m m) (solution_below kept c (unit_row n c))
        (omega arith)
        (below_small b m 1 kept c (unit_row n c) some m_some (omega arith) (unit_small n c)
        (λ j low. let row = row_at c free j low (row_with_pivot kept j) refl in
        record { small = row.0; positive = row.1 })))
