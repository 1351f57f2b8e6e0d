-- The kernel of triangular rows: numbers that solve all of them.
use Rattle.std.proofs.Common.{◌≡◌, ◌≢◌, ℕ, zero, suc, ◌+◌, ◌<◌, ◌≤◌, ◌⊎◌, inl, inr, ◌↔◌, Bool, true, false, not, ◌||◌, cond, if◌then◌else◌, Option, None, Some, ℤ, pos, ◌+ℤ◌, ◌*ℤ◌, neg_ℤ, ◌<ℤ◌, List, [], ◌∷◌, length, map, set, drop, eqb, unsigned_abs, int_div, refl, sym, ap, ap₂, subst, ◌∙◌, add-one, arith}
use Rattle.std.specs.Prelude.{All, Any, IfSome}
use Rattle.std.specs.List.{range_with_len, find, list_any, AllByRecursion, IsDistinct}
use Rattle.std.proofs.lemmas.Bool.{eqb-true, cases_lt, eq-eqb, ne_eqb}
use Rattle.std.proofs.lemmas.Bool.Decides.{Decides-eqb}
use Rattle.std.proofs.lemmas.Int.{ints}
use Rattle.std.proofs.lemmas.List.{length-map, length-set, get_or-set_same, get_or-set_other, drop-map, drop-set-lt, get_or_default}
use Rattle.std.proofs.lemmas.List.FromFn.{length-map-range_with_len, get_or-map-range_with_len}
use Rattle.std.proofs.lemmas.List.Elements.{All-nil, All-cons, All-head, All-tail}
use Rattle.std.proofs.lemmas.Map.Keys.{IsDistinct-head, IsDistinct-tail}
use Rattle.std.proofs.lemmas.Map.Steps.{le-length_from_below}
use Rattle.std.proofs.Math.ListN.{get_or-eq_default}
use Rattle.std.proofs.Math.Nat.{le_antisymm}
use Rattle.gj_lemmas.proofs.Integers.{mul_add_z, mul_left_comm_z, mul_assoc_z, mul_comm_z, mul_neg_z, mul_positive_z, mul_lt_cancel_right_z}
use Rattle.gj_lemmas.proofs.Divisors.{gcd_of_is}
use Rattle.gj_lemmas.proofs.Choices.{not_true, not_false}
use Rattle.gj_frac.proofs.Reduced.{quotient_of_divisor}
use Rattle.gj_shape.specs.SlopeRows.{total, sum_of_products}
use Rattle.gj_shape.specs.Elimination.{KeptRow, at_column, scaled, row_with_pivot, entries_of, products_behind, solving_gcd, solving_products, solved_at, solution_below, solution_from, free_column, unit_row, kernel}
use Rattle.gj_theory.specs.TriangularRows.{Solves, SolvesKept, IsKeptRowBy, AreTriangular}
use Rattle.gj_theory.proofs.Entries.{at_scaled}
use Rattle.gj_theory.proofs.PivotsLeaveZero.{only_term}
use Rattle.gj_theory.proofs.Triangular.{kept_row_at, rank_at_most, fewer_rows}

-- ---- the free column

-- the first number of a range that passes
pub record IsFirstOf (p : ℕ → Bool) (a m c : ℕ) : Type 0 where
  pub from : a ≤ c
  pub below : c < a + m
  pub passes : p c ≡ true
  pub before : (j : ℕ) → a ≤ j → j < c → p j ≡ false

find_in_range : (p : ℕ → Bool) (a m c : ℕ) → find p (range_with_len a m) ≡ Some c →
    IsFirstOf p a m c
find_in_range p a zero c e = absurd cc
find_in_range p a (suc m) c e = by_test (p a) refl e (find_in_range p (a + 1) m c)
  where
    by_test : (b : Bool) → p a ≡ b → cond b (Some a) (find p (range_with_len (a + 1) m)) ≡ Some c →
        (find p (range_with_len (a + 1) m) ≡ Some c → IsFirstOf p (a + 1) m c) →
        IsFirstOf p a (suc m) c
    by_test true t e later =
        let same : a ≡ c = cc in record {
          from = omega arith;
          below = omega arith;
          passes = subst (λ (i : ℕ). p i ≡ true) same t;
          before = λ j from before. absurd (omega arith);
        }
    by_test false t e later =
        let first = later e in record {
          from = omega (arith, first.from);
          below = omega (arith, first.below);
          passes = first.passes;
          before = λ j from before. before_or_here first.before j from before (cases_lt a j);
        }
      where
        before_or_here : ((i : ℕ) → a + 1 ≤ i → i < c → p i ≡ false) → (j : ℕ) → a ≤ j → j < c →
            (a < j) ⊎ (j ≤ a) → p j ≡ false
        before_or_here first j from before (inl l) = first j (omega arith) before
        before_or_here first j from before (inr l) =
            subst (λ (i : ℕ). p i ≡ false) (le_antisymm from l) t

none_in_range : (p : ℕ → Bool) (a m j : ℕ) → find p (range_with_len a m) ≡ None → a ≤ j →
    j < a + m → p j ≡ false
none_in_range p a zero j e from below = absurd (omega arith)
none_in_range p a (suc m) j e from below =
    by_test (p a) refl e (λ later next. none_in_range p (a + 1) m j later next (omega arith))
    (cases_lt a j)
  where
    by_test : (b : Bool) → p a ≡ b → cond b (Some a) (find p (range_with_len (a + 1) m)) ≡ None →
        (find p (range_with_len (a + 1) m) ≡ None → a + 1 ≤ j → p j ≡ false) → (a < j) ⊎ (j ≤ a) →
        p j ≡ false
    by_test true t e later place = absurd cc
    by_test false t e later (inl l) = later e (omega arith)
    by_test false t e later (inr l) = subst (λ (i : ℕ). p i ≡ false) (le_antisymm from l) t

-- an element that passes is found
pub none_found : {X : Type 0} (p : X → Bool) (xs : List X) → list_any p xs ≡ false →
    find p xs ≡ None
none_found p [] e = refl
none_found p (x ∷ xs) e = by_test (p x) e (none_found p xs)
  where
    by_test : (b : Bool) → (b || list_any p xs) ≡ false →
        (list_any p xs ≡ false → find p xs ≡ None) →
        cond b (Some x) (find p xs) ≡ None
    by_test true e later = absurd cc
    by_test false e later = later e

pub some_found : {X : Type 0} (p : X → Bool) (xs : List X) → list_any p xs ≡ true →
    find p xs ≡ None → ⊥
some_found p [] e f = cc
some_found p (x ∷ xs) e f = by_test (p x) e f (some_found p xs)
  where
    by_test : (b : Bool) → (b || list_any p xs) ≡ true → cond b (Some x) (find p xs) ≡ None →
        (list_any p xs ≡ true → find p xs ≡ None → ⊥) → ⊥
    by_test true e f later = cc
    by_test false e f later = later e f

-- a column has a pivot or not
abbrev pub has_pivot : List KeptRow → ℕ → Bool
has_pivot kept c = list_any (λ k. eqb k.pivot c) kept

pub free_has_no_row : (n : ℕ) (kept : List KeptRow) (c : ℕ) → free_column n kept ≡ Some c →
    (c < n) × (row_with_pivot kept c ≡ None) × ((j : ℕ) → j < c → row_with_pivot kept j ≡ None → ⊥)
free_has_no_row n kept c e =
    let first = find_in_range (λ j. not (has_pivot kept j)) 0 n c e in (
      omega (arith, first.below),
      none_found (λ k. eqb k.pivot c) kept (not_true (has_pivot kept c) first.passes),
      λ j before. some_found (λ k. eqb k.pivot j) kept
          (not_false (has_pivot kept j) (first.before j (omega arith) before)),
    )

eqb_turned : (a b : ℕ) → eqb a b ≡ true → eqb b a ≡ true
eqb_turned a b e = eq-eqb b a (sym ((Decides-eqb a b).0 e))

pivot_listed : (kept : List KeptRow) (c : ℕ) → has_pivot kept c ≡ true →
    list_any (eqb c) (map (λ k. k.pivot) kept) ≡ true
pivot_listed [] c e = absurd cc
pivot_listed (k ∷ kept) c e = by_test (eqb k.pivot c) refl e (eqb c k.pivot) refl
    (pivot_listed kept c)
  where
    by_test : (b : Bool) → eqb k.pivot c ≡ b → (b || has_pivot kept c) ≡ true → (d : Bool) →
        eqb c k.pivot ≡ d →
        (has_pivot kept c ≡ true → list_any (eqb c) (map (λ r. r.pivot) kept) ≡ true) →
        (d || list_any (eqb c) (map (λ r. r.pivot) kept)) ≡ true
    by_test true t e true u later = refl
    by_test true t e false u later = let turned = eqb_turned k.pivot c t in absurd cc
    by_test false t e true u later = refl
    by_test false t e false u later = later e

pub no_free_column : (n : ℕ) (kept : List KeptRow) → AreTriangular n kept →
    free_column n kept ≡ None → length kept ≡ n
no_free_column n kept h e =
    let count = le-length_from_below (map (λ k. k.pivot) kept) n
    (λ q below. pivot_listed kept q
    (not_false (has_pivot kept q)
    (none_in_range (λ j. not (has_pivot kept j)) 0 n q e (omega arith) (omega arith)))) in
    let len = length-map kept (λ k. k.pivot) in
    le_antisymm (rank_at_most n kept h) (omega arith)

pub kernel_none : (n : ℕ) (kept : List KeptRow) → AreTriangular n kept →
    ((kernel n kept ≡ None) ↔ (length kept ≡ n))
unfolding solution_from
kernel_none n kept h =
    (λ e. to_full (free_column n kept) refl e, λ len. to_none len (free_column n kept) refl)
  where
    to_full : (o : Option ℕ) → free_column n kept ≡ o → solution_from n kept o ≡ None →
        length kept ≡ n
    to_full None is e = no_free_column n kept h is
    to_full (Some c) is e = absurd cc

    to_none : length kept ≡ n → (o : Option ℕ) → free_column n kept ≡ o →
        solution_from n kept o ≡ None
    to_none len None is = refl
    to_none len (Some c) is =
        let free = free_has_no_row n kept c is in
        absurd (omega (arith, fewer_rows n kept c h free.0 free.1))

-- ---- sums

pub sum_scaled_numbers : (u : ℤ) (row w : List ℤ) →
    sum_of_products row (scaled u w) ≡ u *ℤ sum_of_products row w
sum_scaled_numbers u [] w = omega (arith, ints)
sum_scaled_numbers u (x ∷ row) [] = omega (arith, ints)
sum_scaled_numbers u (x ∷ row) (v ∷ w) =
    ap₂ (λ a b. a +ℤ b) (mul_left_comm_z x u v) (sum_scaled_numbers u row w)
    ∙ sym (mul_add_z u (x *ℤ v) (sum_of_products row w))

-- if the row is 0 at a column, the number there does not count
pub sum_set_at_zero : (row w : List ℤ) (j : ℕ) (v : ℤ) → at_column row j ≡ pos 0 →
    sum_of_products row (set w j v) ≡ sum_of_products row w
sum_set_at_zero [] w j v e = refl
sum_set_at_zero (x ∷ row) [] j v e = refl
sum_set_at_zero (x ∷ row) (y ∷ w) zero v e =
    ap (λ z. z +ℤ sum_of_products row w) (ap (λ z. z *ℤ v) e ∙ both_zero v y
    ∙ ap (λ z. z *ℤ y) (sym e))
  where
    both_zero : (a b : ℤ) → pos 0 *ℤ a ≡ pos 0 *ℤ b
    both_zero a b = omega (arith, ints)
sum_set_at_zero (x ∷ row) (y ∷ w) (suc j) v e = ap (λ z. x *ℤ y +ℤ z) (sum_set_at_zero row w j v e)

-- a row that is 0 before a column: the product there and those behind it
pub sum_split : (row w : List ℤ) (j : ℕ) → ((i : ℕ) → i < j → at_column row i ≡ pos 0) →
    j < length row → j < length w →
    sum_of_products row w ≡ at_column row j *ℤ at_column w j +ℤ sum_of_products (drop (suc j) row)
    (drop (suc j) w)
sum_split [] w j h in_row in_w = absurd (omega arith)
sum_split (x ∷ row) [] j h in_row in_w = absurd (omega arith)
sum_split (x ∷ row) (v ∷ w) zero h in_row in_w = refl
sum_split (x ∷ row) (v ∷ w) (suc j) h in_row in_w =
    let here : x ≡ pos 0 = h 0 (omega arith) in
    ap₂ (λ a b. a *ℤ v +ℤ b) here
    (sum_split row w j (λ i below. h (suc i) (omega arith)) (omega arith) (omega arith))
    ∙ zero_plus v (at_column row j *ℤ at_column w j +ℤ sum_of_products (drop (suc j) row)
    (drop (suc j) w))
  where
    zero_plus : (v z : ℤ) → pos 0 *ℤ v +ℤ z ≡ z
    zero_plus v z = omega (arith, ints)

-- ---- one row is solved

-- the factor of the numbers, and the number at the column
abbrev factor : List ℤ → ℕ → List ℤ → ℤ
factor row j w = int_div (at_column row j) (pos (solving_gcd row j w))

abbrev number : List ℤ → ℕ → List ℤ → ℤ
number row j w = neg_ℤ (int_div (total (products_behind j row w)) (pos (solving_gcd row j w)))

factor_times : (row : List ℤ) (j : ℕ) (w : List ℤ) → factor row j w *ℤ pos (solving_gcd row j w)
    ≡ at_column row j
factor_times row j w =
    quotient_of_divisor (at_column row j) (pos (solving_gcd row j w))
    (gcd_of_is (unsigned_abs (total (products_behind j row w))) (unsigned_abs (at_column row j))).1

total_times : (row : List ℤ) (j : ℕ) (w : List ℤ) →
    int_div (total (products_behind j row w)) (pos (solving_gcd row j w)) *ℤ pos
    (solving_gcd row j w)
    ≡ total (products_behind j row w)
total_times row j w =
    quotient_of_divisor (total (products_behind j row w)) (pos (solving_gcd row j w))
    (gcd_of_is (unsigned_abs (total (products_behind j row w))) (unsigned_abs (at_column row j))).0

factor_positive : (row : List ℤ) (j : ℕ) (w : List ℤ) → pos 0 <ℤ at_column row j →
    pos 0 <ℤ factor row j w
factor_positive row j w h = positive (factor row j w) (solving_gcd row j w) (at_column row j)
    (factor_times row j w) h
  where
    positive : (u : ℤ) (g : ℕ) (x : ℤ) → u *ℤ pos g ≡ x → pos 0 <ℤ x → pos 0 <ℤ u
    positive u zero x e h = let none : u *ℤ pos 0 ≡ pos 0 = omega (arith, ints) in
        absurd (omega (arith, ints))
    positive u (suc g) x e h =
        let none : pos 0 *ℤ pos (suc g) ≡ pos 0 = omega (arith, ints) in
        mul_lt_cancel_right_z (pos 0) u (pos (suc g)) (omega (arith, ints)) (omega (arith, ints))

pub length-solved : (row : List ℤ) (j : ℕ) (w : List ℤ) → length (solved_at row j w) ≡ length w
unfolding solved_at
length-solved row j w =
    length-set (solving_products row j w) j (number row j w)
    ∙ length-map w (λ x. factor row j w *ℤ x)

-- another number is multiplied
pub solved_elsewhere : (row : List ℤ) (j i : ℕ) (w : List ℤ) → i ≢ j →
    at_column (solved_at row j w) i ≡ factor row j w *ℤ at_column w i
unfolding solved_at
solved_elsewhere row j i w apart =
    get_or-set_other (solving_products row j w) j i (number row j w) (pos 0) apart
    ∙ at_scaled (factor row j w) w i

-- a row that is 0 at the column stays solved
pub solved_others : (row other : List ℤ) (j : ℕ) (w : List ℤ) → at_column other j ≡ pos 0 →
    Solves w other →
    Solves (solved_at row j w) other
unfolding solved_at
solved_others row other j w e h =
    sum_set_at_zero other (solving_products row j w) j (number row j w) e
    ∙ sum_scaled_numbers (factor row j w) other w
    ∙ ap (λ z. factor row j w *ℤ z) h ∙ times_zero (factor row j w)
  where
    times_zero : (u : ℤ) → u *ℤ pos 0 ≡ pos 0
    times_zero u = omega (arith, ints)

-- the row itself is solved
pub solved_row : (row : List ℤ) (j : ℕ) (w : List ℤ) → ((i : ℕ) → i < j → at_column row i ≡ pos 0) →
    j < length row →
    j < length w → Solves (solved_at row j w) row
unfolding solved_at
solved_row row j w h in_row in_w =
    let u = factor row j w in
    let v = number row j w in
    let products : List ℤ = solving_products row j w in
    let len : length products ≡ length w = length-map w (λ x. u *ℤ x) in
    let len_set : length (set products j v) ≡ length products = length-set products j v in
    let here : at_column (set products j v) j ≡ v =
    get_or-set_same products j v (pos 0) (omega arith) in
    let behind : drop (suc j) (set products j v) ≡ scaled u (drop (suc j) w) =
    drop-set-lt (suc j) products j v (omega arith) ∙ drop-map (λ x. u *ℤ x) (suc j) w in
    sum_split row (set products j v) j h in_row (omega arith)
    ∙ ap₂ (λ a b. at_column row j *ℤ a +ℤ sum_of_products (drop (suc j) row) b) here behind
    ∙ ap (λ z. at_column row j *ℤ v +ℤ z) (sum_scaled_numbers u (drop (suc j) row) (drop (suc j) w))
    ∙ ap (λ n. at_column row j *ℤ v +ℤ u *ℤ sum_of_products (drop n row) (drop n w))
    (sym (add-one j))
    ∙ crossed u (int_div (total (products_behind j row w)) (pos (solving_gcd row j w)))
    (pos (solving_gcd row j w))
    (at_column row j) (total (products_behind j row w)) (factor_times row j w) (total_times row j w)
  where
    crossed : (u q g e t : ℤ) → u *ℤ g ≡ e → q *ℤ g ≡ t → e *ℤ neg_ℤ q +ℤ u *ℤ t ≡ pos 0
    crossed u q g e t e_is t_is =
        let first : e *ℤ neg_ℤ q ≡ neg_ℤ (e *ℤ q) = mul_neg_z e q in
        let second : e *ℤ q ≡ u *ℤ (g *ℤ q) = ap (λ z. z *ℤ q) (sym e_is) ∙ mul_assoc_z u g q in
        let third : u *ℤ t ≡ u *ℤ (g *ℤ q) = ap (λ z. u *ℤ z) (sym t_is ∙ mul_comm_z q g) in
        omega (arith, ints)

-- ---- all rows from a pivot on

-- the numbers are behind the free column 0 and at it positive, and solve the rows with a pivot from
-- j on
pub record AreSolvedFrom (n : ℕ) (kept : List KeptRow) (c j : ℕ) (w : List ℤ) : Type 0 where
  pub columns : length w ≡ n
  pub behind : (i : ℕ) → c < i → at_column w i ≡ pos 0
  pub free : pos 0 <ℤ at_column w c
  pub solved : All (λ k. j ≤ k.pivot → Solves w k.entries) kept

unit_at : (n c i : ℕ) → i < n → at_column (unit_row n c) i ≡ (if eqb i c then pos 1 else pos 0)
unit_at n c i below = get_or-map-range_with_len (λ j. if eqb j c then pos 1 else pos 0) 0 n i i
    (pos 0) below (omega arith)

unit_elsewhere : (n c i : ℕ) → i ≢ c → at_column (unit_row n c) i ≡ pos 0
unit_elsewhere n c i apart = by_place (cases_lt i n)
  where
    by_place : (i < n) ⊎ (n ≤ i) → at_column (unit_row n c) i ≡ pos 0
    by_place (inl below) =
        unit_at n c i below ∙ ap (λ b. if b then pos 1 else pos 0) (ne_eqb i c apart)
    by_place (inr above) =
        let len = length-map-range_with_len (λ j. if eqb j c then pos 1 else pos 0) 0 n in
        get_or-eq_default (unit_row n c) (pos 0) (omega arith)

unit_here : (n c : ℕ) → c < n → at_column (unit_row n c) c ≡ pos 1
unit_here n c below = unit_at n c c below ∙ ap (λ b. if b then pos 1 else pos 0) (eq-eqb c c refl)

-- no row has its pivot at the free column
pub no_pivot_at : (kept : List KeptRow) (c : ℕ) → row_with_pivot kept c ≡ None →
    All (λ k. k.pivot ≢ c) kept
no_pivot_at [] c e = All-nil (λ k. k.pivot ≢ c)
no_pivot_at (k ∷ kept) c e = by_test (eqb k.pivot c) refl e (no_pivot_at kept c)
  where
    by_test : (b : Bool) → eqb k.pivot c ≡ b → cond b (Some k) (row_with_pivot kept c) ≡ None →
        (row_with_pivot kept c ≡ None → All (λ r. r.pivot ≢ c) kept) →
        All (λ r. r.pivot ≢ c) (k ∷ kept)
    by_test true t e later = absurd cc
    by_test false t e later =
        All-cons (λ r. r.pivot ≢ c) k kept (λ same. let u = eq-eqb k.pivot c same in absurd cc)
        (later e)

-- if there is one, a kept row has its pivot there
pub any_with_pivot : (kept : List KeptRow) (c : ℕ) (k : KeptRow) → row_with_pivot kept c ≡ Some k →
    Any (λ r. r.pivot ≡ c) kept
any_with_pivot [] c k e = absurd cc
any_with_pivot (r ∷ kept) c k e = by_test (eqb r.pivot c) refl e (any_with_pivot kept c k)
  where
    by_test : (b : Bool) → eqb r.pivot c ≡ b → cond b (Some r) (row_with_pivot kept c) ≡ Some k →
        (row_with_pivot kept c ≡ Some k → Any (λ r. r.pivot ≡ c) kept) →
        Any (λ r. r.pivot ≡ c) (r ∷ kept)
    by_test true t e later = (0, r, omega arith, refl, eqb-true r.pivot c t)
    by_test false t e later =
        let (i, x, below, is, at) = later e in
        (suc i, x, omega arith, is, at)

-- at the start the rows with a pivot behind the free column are solved
unit_solves : (n c : ℕ) (kept : List KeptRow) → All (IsKeptRowBy (λ x. pos 0 <ℤ x) n) kept →
    All (λ k. k.pivot ≢ c) kept →
    All (λ k. c ≤ k.pivot → Solves (unit_row n c) k.entries) kept
unit_solves n c [] rows apart = All-nil (λ k. c ≤ k.pivot → Solves (unit_row n c) k.entries)
unit_solves n c (k ∷ kept) rows apart =
    let is = All-head (IsKeptRowBy (λ x. pos 0 <ℤ x) n) k kept rows in
    let other = All-head (λ r. r.pivot ≢ c) k kept apart in
    All-cons (λ r. c ≤ r.pivot → Solves (unit_row n c) r.entries) k kept
    (λ from.
    let before : c < k.pivot = omega (arith, other) in
    only_term k.entries (unit_row n c) c (λ j below. is.zero_before j (omega arith))
    (λ j above. unit_elsewhere n c j (omega arith))
    ∙ ap (λ z. z *ℤ at_column (unit_row n c) c) (is.zero_before c before)
    ∙ zero_times (at_column (unit_row n c) c))
    (unit_solves n c kept (All-tail (IsKeptRowBy (λ x. pos 0 <ℤ x) n) k kept rows)
    (All-tail (λ r. r.pivot ≢ c) k kept apart))
  where
    zero_times : (v : ℤ) → pos 0 *ℤ v ≡ pos 0
    zero_times v = omega (arith, ints)

starts : (n c : ℕ) (kept : List KeptRow) → AreTriangular n kept → c < n →
    row_with_pivot kept c ≡ None →
    AreSolvedFrom n kept c c (unit_row n c)
starts n c kept h below free = record {
  columns = length-map-range_with_len (λ j. if eqb j c then pos 1 else pos 0) 0 n;
  behind = λ i above. unit_elsewhere n c i (omega arith);
  free = let one = unit_here n c below in omega (arith, ints);
  solved = unit_solves n c kept h.rows (no_pivot_at kept c free);
}

-- two rows with one pivot are one
none_with_pivot : (kept : List KeptRow) (p j : ℕ) →
    AllByRecursion (λ y. eqb p y ≡ false) (map (λ r. r.pivot) kept) → p ≡ j →
    (k : KeptRow) → All (λ r. r.pivot ≡ j → r ≡ k) kept
none_with_pivot [] p j apart same k = All-nil (λ r. r.pivot ≡ j → r ≡ k)
none_with_pivot (x ∷ kept) p j apart same k =
    All-cons (λ r. r.pivot ≡ j → r ≡ k) x kept
    (λ e. let t = eq-eqb p x.pivot (same ∙ sym e) in let f = apart.0 in absurd cc)
    (none_with_pivot kept p j apart.1 same k)

pub only_row : (kept : List KeptRow) (j : ℕ) (k : KeptRow) →
    IsDistinct (λ a b. eqb a b) (map (λ r. r.pivot) kept) →
    row_with_pivot kept j ≡ Some k → All (λ r. r.pivot ≡ j → r ≡ k) kept
only_row [] j k h e = All-nil (λ r. r.pivot ≡ j → r ≡ k)
only_row (x ∷ kept) j k h e =
    by_test (eqb x.pivot j) refl e
    (only_row kept j k (IsDistinct-tail (λ a b. eqb a b) x.pivot (map (λ r. r.pivot) kept) h))
  where
    by_test : (b : Bool) → eqb x.pivot j ≡ b → cond b (Some x) (row_with_pivot kept j) ≡ Some k →
        (row_with_pivot kept j ≡ Some k → All (λ r. r.pivot ≡ j → r ≡ k) kept) →
        All (λ r. r.pivot ≡ j → r ≡ k) (x ∷ kept)
    by_test true t e later =
        All-cons (λ r. r.pivot ≡ j → r ≡ k) x kept (λ at. cc)
        (none_with_pivot kept x.pivot j
        (IsDistinct-head (λ a b. eqb a b) x.pivot (map (λ r. r.pivot) kept) h)
        ((Decides-eqb x.pivot j).0 t) k)
    by_test false t e later =
        All-cons (λ r. r.pivot ≡ j → r ≡ k) x kept (λ at. let u = eq-eqb x.pivot j at in absurd cc)
        (later e)

-- the rows stay solved, and the row with its pivot at the column is
all_solved : (n j : ℕ) (kept : List KeptRow) (k : KeptRow) (w : List ℤ) →
    All (IsKeptRowBy (λ x. pos 0 <ℤ x) n) kept →
    All (λ r. r.pivot ≡ j → r ≡ k) kept → Solves (solved_at k.entries j w) k.entries →
    All (λ r. suc j ≤ r.pivot → Solves w r.entries) kept →
    All (λ r. j ≤ r.pivot → Solves (solved_at k.entries j w) r.entries) kept
all_solved n j [] k w rows only own solved =
    All-nil (λ r. j ≤ r.pivot → Solves (solved_at k.entries j w) r.entries)
all_solved n j (x ∷ kept) k w rows only own solved =
    All-cons (λ r. j ≤ r.pivot → Solves (solved_at k.entries j w) r.entries) x kept
    (λ from. by_place from (cases_lt j x.pivot))
    (all_solved n j kept k w (All-tail (IsKeptRowBy (λ x. pos 0 <ℤ x) n) x kept rows)
    (All-tail (λ r. r.pivot ≡ j → r ≡ k) x kept only) own
    (All-tail (λ r. suc j ≤ r.pivot → Solves w r.entries) x kept solved))
  where
    by_place : j ≤ x.pivot → (j < x.pivot) ⊎ (x.pivot ≤ j) →
        Solves (solved_at k.entries j w) x.entries
    by_place from (inl behind) =
        solved_others k.entries x.entries j w
        ((All-head (IsKeptRowBy (λ x. pos 0 <ℤ x) n) x kept rows).zero_before j behind)
        (All-head (λ r. suc j ≤ r.pivot → Solves w r.entries) x kept solved (omega arith))
    by_place from (inr l) =
        let same : x ≡ k = All-head (λ r. r.pivot ≡ j → r ≡ k) x kept only (le_antisymm l from) in
        subst (λ (r : KeptRow). Solves (solved_at k.entries j w) r.entries) (sym same) own

one_solved : (n c j : ℕ) (kept : List KeptRow) (w : List ℤ) → AreTriangular n kept → j < c →
    (row_with_pivot kept j ≡ None → ⊥) → AreSolvedFrom n kept c (suc j) w → (o : Option KeptRow) →
    row_with_pivot kept j ≡ o →
    AreSolvedFrom n kept c j (solved_at (entries_of o) j w)
unfolding entries_of
one_solved n c j kept w h below some solved None e = absurd (some e)
one_solved n c j kept w h below some solved (Some k) e =
    let (is, at) = kept_row_at n kept j k h e in
    let positive : pos 0 <ℤ at_column k.entries j =
    subst (λ (i : ℕ). pos 0 <ℤ at_column k.entries i) at is.at_pivot in
    let up = factor_positive k.entries j w positive in record {
      columns = length-solved k.entries j w ∙ solved.columns;
      behind = λ i above. solved_elsewhere k.entries j i w (omega arith)
          ∙ ap (λ z. factor k.entries j w *ℤ z) (solved.behind i above)
          ∙ times_zero (factor k.entries j w);
      free =
          let is_times = solved_elsewhere k.entries j c w (omega arith) in
          let more = mul_positive_z (factor k.entries j w) (at_column w c) up solved.free in
          subst (λ (z : ℤ). pos 0 <ℤ z) (sym is_times) more;
      solved =
          all_solved n j kept k w h.rows (only_row kept j k h.pivots e)
          (solved_row k.entries j w
          (λ i before. is.zero_before i (subst (λ (p : ℕ). i < p) (sym at) before))
          (omega (arith, is.columns, is.below)) (omega (arith, solved.columns, is.below)))
          solved.solved;
    }
  where
    times_zero : (u : ℤ) → u *ℤ pos 0 ≡ pos 0
    times_zero u = omega (arith, ints)

all_below_solved : (n c j : ℕ) (kept : List KeptRow) (w : List ℤ) → AreTriangular n kept → j ≤ c →
    ((i : ℕ) → i < c → row_with_pivot kept i ≡ None → ⊥) → AreSolvedFrom n kept c j w →
    AreSolvedFrom n kept c 0 (solution_below kept j w).numbers
unfolding solution_below
all_below_solved n c zero kept w h below some solved = solved
all_below_solved n c (suc j) kept w h below some solved =
    all_below_solved n c j kept (solved_at (entries_of (row_with_pivot kept j)) j w) h
    (omega arith) some
    (one_solved n c j kept w h (omega arith) (some j (omega arith)) solved
    (row_with_pivot kept j) refl)

-- ---- the kernel

pub kernel_solved : (n : ℕ) (kept : List KeptRow) (c : ℕ) → AreTriangular n kept →
    free_column n kept ≡ Some c →
    AreSolvedFrom n kept c 0 (solution_below kept c (unit_row n c)).numbers
kernel_solved n kept c h e =
    let (below, free, before) = free_has_no_row n kept c e in
    all_below_solved n c c kept (unit_row n c) h (omega arith) before (starts n c kept h below free)

length-solution : (kept : List KeptRow) (j : ℕ) (w : List ℤ) →
    length (solution_below kept j w).numbers ≡ length w
unfolding solution_below
length-solution kept zero w = refl
length-solution kept (suc j) w =
    length-solution kept j (solved_at (entries_of (row_with_pivot kept j)) j w)
    ∙ length-solved (entries_of (row_with_pivot kept j)) j w

pub kernel_columns : (n : ℕ) (kept : List KeptRow) →
    IfSome (kernel n kept) (λ s. length s.numbers ≡ n)
unfolding solution_from
kernel_columns n kept = by_free (free_column n kept)
  where
    by_free : (o : Option ℕ) → IfSome (solution_from n kept o) (λ s. length s.numbers ≡ n)
    by_free None = tt
    by_free (Some c) =
        length-solution kept c (unit_row n c)
        ∙ length-map-range_with_len (λ j. if eqb j c then pos 1 else pos 0) 0 n

drop_from : (kept : List KeptRow) (w : List ℤ) → All (λ k. 0 ≤ k.pivot → Solves w k.entries) kept →
    SolvesKept w kept
drop_from [] w all = All-nil (λ k. Solves w k.entries)
drop_from (k ∷ kept) w all =
    All-cons (λ r. Solves w r.entries) k kept
    (All-head (λ r. 0 ≤ r.pivot → Solves w r.entries) k kept all (omega arith))
    (drop_from kept w (All-tail (λ r. 0 ≤ r.pivot → Solves w r.entries) k kept all))

pub kernel_solves : (n : ℕ) (kept : List KeptRow) → AreTriangular n kept →
    IfSome (kernel n kept) (λ s. SolvesKept s.numbers kept)
unfolding solution_from
kernel_solves n kept h = by_free (free_column n kept) refl
  where
    by_free : (o : Option ℕ) → free_column n kept ≡ o →
        IfSome (solution_from n kept o) (λ s. SolvesKept s.numbers kept)
    by_free None e = tt
    by_free (Some c) e = drop_from kept (solution_below kept c (unit_row n c)).numbers
        (kernel_solved n kept c h e).solved

pub kernel_positive : (n : ℕ) (kept : List KeptRow) → AreTriangular n kept →
    IfSome (kernel n kept) (λ s. Any (λ x. pos 0 <ℤ x) s.numbers)
unfolding solution_from
kernel_positive n kept h = by_free (free_column n kept) refl
  where
    by_free : (o : Option ℕ) → free_column n kept ≡ o →
        IfSome (solution_from n kept o) (λ s. Any (λ x. pos 0 <ℤ x) s.numbers)
    by_free None e = tt
    by_free (Some c) e =
        let w : List ℤ = (solution_below kept c (unit_row n c)).numbers in
        let solved = kernel_solved n kept c h e in
        let inside : c < length w = omega (arith, solved.columns, (free_has_no_row n kept c e).0) in
        (c, at_column w c, inside, get_or_default w c (at_column w c) (pos 0) inside, solved.free)
