-- How large the numbers of the elimination and of the kernel are.
use Rattle.std.proofs.Common.{◌≡◌, ◌≢◌, ℕ, zero, suc, inl, inr, ◌+◌, ◌-◌, ◌*◌, ◌<◌, ◌≤◌, ◌⊎◌, Bool, true, false, cond, if◌then◌else◌, Option, None, Some, ℤ, pos, ◌-ℤ◌, ◌*ℤ◌, neg_ℤ, int_lt, List, [], ◌∷◌, ◌++◌, length, map, eqb, unsigned_abs, refl, sym, ap, subst, ◌∙◌, mul-le-mul, mul-le-mul_left, arith}
use Rattle.std.specs.Prelude.{All, nat_le}
use Rattle.std.specs.List.{range_with_len}
use Rattle.std.specs.Ordering.{int_eq}
use Rattle.std.proofs.lemmas.Bool.{cases_eq, ne_eqb, leb-false}
use Rattle.std.proofs.lemmas.Bool.Decides.{Decides-eqb, Decides-int_eq, not_from_Decides}
use Rattle.std.proofs.lemmas.List.Elements.{All-nil, All-cons, All-head, All-tail, All-append, All-push, All-map}
use Rattle.gj_perturb.proofs.SplitParts.{product_at_most}
use Rattle.gj_lemmas.specs.Divisors.{gcd_of}
use Rattle.gj_lemmas.proofs.Divisors.{gcd_of_is, gcd_positive}
use Rattle.gj_lemmas.proofs.Integers.{abs_neg_z, unsigned_abs-mul, abs_sub_z, abs_zero_z}
use Rattle.gj_shape.specs.Elimination.{KeptRow, Insertion, Elimination, at_column, divided, scaled, differences, row_factor, kept_factor, eliminated, reduced, marked_in_step, row_with_pivot, kept_entries, insertion, insertion_by, inserted, inserted_at, inserted_at_by, kept_behind, elimination_from, elimination_from_by, behind_insertion}
use Rattle.gj_theory.proofs.Triangular.{find_has}
use Rattle.gj_theory.proofs.RowSums.{divided_times}
use Rattle.gj_theory.proofs.Steps.{row_factor_times, kept_factor_times}
use Rattle.gj_elim.proofs.KernelFits.{factor_small}

-- ---- small numbers

-- each number is at most the bound in absolute value
abbrev pub IsSmall : ℕ → List ℤ → Type 0
IsSmall b xs = All (λ x. unsigned_abs x ≤ b) xs

pub small_up : (a b : ℕ) (xs : List ℤ) → a ≤ b → IsSmall a xs → IsSmall b xs
small_up a b xs up h = λ k d low. let here = h k d low in omega arith

pub small_at : (b : ℕ) (xs : List ℤ) (c : ℕ) → IsSmall b xs → unsigned_abs (at_column xs c) ≤ b
small_at b [] c h = omega arith
small_at b (x ∷ xs) zero h = All-head (λ y. unsigned_abs y ≤ b) x xs h
small_at b (x ∷ xs) (suc c) h = small_at b xs c (All-tail (λ y. unsigned_abs y ≤ b) x xs h)

pub small_scaled : (a b : ℕ) (u : ℤ) (xs : List ℤ) → unsigned_abs u ≤ a → IsSmall b xs →
    IsSmall (a * b) (scaled u xs)
small_scaled a b u xs h small =
    All-map (λ y. unsigned_abs y ≤ a * b) (λ x. u *ℤ x) xs
    (λ k d low. product_at_most a b u _ h (small k d low))

small_differences : (a b : ℕ) (xs ys : List ℤ) → IsSmall a xs → IsSmall b ys →
    IsSmall (a + b) (differences xs ys)
small_differences a b [] ys h k = All-nil (λ x. unsigned_abs x ≤ a + b)
small_differences a b (x ∷ xs) [] h k = All-nil (λ x. unsigned_abs x ≤ a + b)
small_differences a b (x ∷ xs) (y ∷ ys) h k =
    let sum = abs_sub_z x y in
    let first = All-head (λ z. unsigned_abs z ≤ a) x xs h in
    let second = All-head (λ z. unsigned_abs z ≤ b) y ys k in
    All-cons (λ z. unsigned_abs z ≤ a + b) (x -ℤ y) (differences xs ys) (omega arith)
    (small_differences a b xs ys (All-tail (λ z. unsigned_abs z ≤ a) x xs h)
    (All-tail (λ z. unsigned_abs z ≤ b) y ys k))

small_unscaled : (b g : ℕ) (xs : List ℤ) → 0 < g → IsSmall b (scaled (pos g) xs) → IsSmall b xs
small_unscaled b g [] some h = All-nil (λ x. unsigned_abs x ≤ b)
small_unscaled b g (x ∷ xs) some h =
    let first = All-head (λ y. unsigned_abs y ≤ b) (pos g *ℤ x) (scaled (pos g) xs) h in
    let product : unsigned_abs (pos g *ℤ x) ≡ g * unsigned_abs x = unsigned_abs-mul (pos g) x in
    let more : unsigned_abs x * 1 ≤ unsigned_abs x * g = mul-le-mul_left (unsigned_abs x) some in
    All-cons (λ y. unsigned_abs y ≤ b) x xs (omega arith)
    (small_unscaled b g xs some
    (All-tail (λ y. unsigned_abs y ≤ b) (pos g *ℤ x) (scaled (pos g) xs) h))

small_divided : (b : ℕ) (row : List ℤ) → IsSmall b row → IsSmall b (divided row)
small_divided b row h =
    let (g, some, is) = divided_times row in
    small_unscaled b g (divided row) some (subst (IsSmall b) (sym is) h)

small_kept : (b : ℕ) (row : List ℤ) (c : ℕ) → IsSmall b row → IsSmall b (kept_entries row c)
unfolding kept_entries
small_kept b row c h = by_sign (int_lt (at_column row c) (pos 0))
  where
    by_sign : (s : Bool) → IsSmall b (if s then map neg_ℤ (divided row) else divided row)
    by_sign true =
        All-map (λ y. unsigned_abs y ≤ b) neg_ℤ (divided row)
        (λ k d low. subst (λ (n : ℕ). n ≤ b) (sym (abs_neg_z _)) (small_divided b row h k d low))
    by_sign false = small_divided b row h

-- ---- a step

gcd_some : (kept row : List ℤ) (c : ℕ) → at_column row c ≢ pos 0 →
    0 < gcd_of (unsigned_abs (at_column row c)) (unsigned_abs (at_column kept c))
gcd_some kept row c some =
    gcd_positive (unsigned_abs (at_column row c)) (unsigned_abs (at_column kept c))
    (gcd_of (unsigned_abs (at_column row c)) (unsigned_abs (at_column kept c)))
    (gcd_of_is (unsigned_abs (at_column row c)) (unsigned_abs (at_column kept c)))
    (inl (above (unsigned_abs (at_column row c)) refl))
  where
    above : (n : ℕ) → n ≡ unsigned_abs (at_column row c) → 0 < unsigned_abs (at_column row c)
    above zero e = absurd (some (abs_zero_z (at_column row c) (sym e)))
    above (suc n) e = omega arith

-- the numbers of a step
record StepIsSmall (r k : ℕ) (kept row : List ℤ) (c : ℕ) : Type 0 where
  marked : IsSmall (k * r + r * k) (marked_in_step kept row c)
  reduced_small : IsSmall (k * r + r * k) (reduced kept row c)

step_small : (r k : ℕ) (kept row : List ℤ) (c : ℕ) → IsSmall k kept → IsSmall r row →
    at_column row c ≢ pos 0 →
    StepIsSmall r k kept row c
unfolding eliminated reduced marked_in_step
step_small r k kept row c kept_small row_small some =
    let g = gcd_of (unsigned_abs (at_column row c)) (unsigned_abs (at_column kept c)) in
    let u = row_factor kept row c in
    let v = kept_factor kept row c in
    let u_low = factor_small u g (at_column kept c) (gcd_some kept row c some)
    (row_factor_times kept row c) in
    let v_low = factor_small v g (at_column row c) (gcd_some kept row c some)
    (kept_factor_times kept row c) in
    let kept_at = small_at k kept c kept_small in
    let row_at = small_at r row c row_small in
    let first : IsSmall (k * r) (scaled u row) = small_scaled k r u row (omega arith) row_small in
    let second : IsSmall (r * k) (scaled v kept) =
    small_scaled r k v kept (omega arith) kept_small in
    let both : IsSmall (k * r + r * k) (differences (scaled u row) (scaled v kept)) =
    small_differences (k * r) (r * k) (scaled u row) (scaled v kept) first second in
    let P : ℤ → Type 0 = λ x. unsigned_abs x ≤ k * r + r * k in
    record {
      marked =
          All-append P (scaled u row ++ scaled v kept) (differences (scaled u row) (scaled v kept))
          (All-append P (scaled u row) (scaled v kept)
          (small_up (k * r) (k * r + r * k) (scaled u row) (omega arith) first)
          (small_up (r * k) (k * r + r * k) (scaled v kept) (omega arith) second)) both;
      reduced_small = small_divided (k * r + r * k) (differences (scaled u row) (scaled v kept))
          both;
    }

-- ---- the bound behind some steps

-- rows whose entries are at most b at the start are at most this behind j steps, if the rows that
-- they are reduced by are so before
unfoldable pub bound : ℕ → ℕ → ℕ
bound b zero = b
bound b (suc j) = bound b j * bound b j + bound b j * bound b j

bound_start : (b : ℕ) → bound b 0 ≡ b
unfolding bound
bound_start b = refl

bound_next : (b j : ℕ) → bound b (suc j) ≡ bound b j * bound b j + bound b j * bound b j
unfolding bound
bound_next b j = refl

pub bound_some : (b j : ℕ) → 1 ≤ b → 1 ≤ bound b j
bound_some b zero some = let start = bound_start b in omega arith
bound_some b (suc j) some =
    let next = bound_next b j in
    let before = bound_some b j some in
    let product : 1 * 1 ≤ bound b j * bound b j = mul-le-mul before before in
    omega arith

bound_step : (b j : ℕ) → 1 ≤ b → bound b j ≤ bound b (suc j)
bound_step b j some =
    let next = bound_next b j in
    let more : bound b j * 1 ≤ bound b j * bound b j =
    mul-le-mul_left (bound b j) (bound_some b j some) in
    omega arith

bound_more : (b j m : ℕ) → 1 ≤ b → bound b j ≤ bound b (j + m)
bound_more b j zero some = let same = ap (bound b) (let e : j + zero ≡ j = omega arith in e) in
    omega arith
bound_more b j (suc m) some =
    let before = bound_more b j m some in
    let step = bound_step b (j + m) some in
    let same = ap (bound b) (let e : j + suc m ≡ suc (j + m) = omega arith in e) in
    omega arith

pub bound_up : (b i j : ℕ) → 1 ≤ b → i ≤ j → bound b i ≤ bound b j
bound_up b i j some up =
    let more = bound_more b i (j - i) some in
    let same = ap (bound b) (let e : i + (j - i) ≡ j = omega arith in e) in
    omega arith

-- ---- the pivots before a column

-- 1 if there is a row
unfoldable pub has_row : Option KeptRow → ℕ
has_row None = 0
has_row (Some k) = 1

has_row_low : (o : Option KeptRow) → has_row o ≤ 1
unfolding has_row
has_row_low None = omega arith
has_row_low (Some k) = omega arith

-- how many of the columns before c have the pivot of a kept row
unfoldable pub pivots_before : List KeptRow → ℕ → ℕ
pivots_before kept zero = 0
pivots_before kept (suc c) = pivots_before kept c + has_row (row_with_pivot kept c)

pivots_start : (kept : List KeptRow) → pivots_before kept 0 ≡ 0
unfolding pivots_before
pivots_start kept = refl

pivots_next : (kept : List KeptRow) (c : ℕ) →
    pivots_before kept (suc c) ≡ pivots_before kept c + has_row (row_with_pivot kept c)
unfolding pivots_before
pivots_next kept c = refl

-- a column with a pivot counts
pivots_at : (kept : List KeptRow) (c : ℕ) (k : KeptRow) → row_with_pivot kept c ≡ Some k →
    pivots_before kept (c + 1) ≡ suc (pivots_before kept c)
unfolding has_row
pivots_at kept c k e =
    let next = pivots_next kept c in
    let one : has_row (row_with_pivot kept c) ≡ 1 = ap has_row e in
    let same = ap (pivots_before kept) (let e : c + 1 ≡ suc c = omega arith in e) in
    omega arith

pivots_up : (kept : List KeptRow) (c : ℕ) → pivots_before kept c ≤ pivots_before kept (c + 1)
pivots_up kept c =
    let next = pivots_next kept c in
    let same = ap (pivots_before kept) (let e : c + 1 ≡ suc c = omega arith in e) in
    omega arith

pub pivots_by_column : (kept : List KeptRow) (c : ℕ) → pivots_before kept c ≤ c
pivots_by_column kept zero = let start = pivots_start kept in omega arith
pivots_by_column kept (suc c) =
    let next = pivots_next kept c in
    let one = has_row_low (row_with_pivot kept c) in
    let before = pivots_by_column kept c in
    omega arith

-- one more row counts at most once
row_other : (k : KeptRow) (kept : List KeptRow) (c : ℕ) → k.pivot ≢ c →
    row_with_pivot (k ∷ kept) c ≡ row_with_pivot kept c
row_other k kept c apart =
    ap (λ b. cond b (Some k) (row_with_pivot kept c)) (ne_eqb k.pivot c apart)

pivots_same : (k : KeptRow) (kept : List KeptRow) (c : ℕ) → c ≤ k.pivot →
    pivots_before (k ∷ kept) c ≡ pivots_before kept c
pivots_same k kept zero low = pivots_start (k ∷ kept) ∙ sym (pivots_start kept)
pivots_same k kept (suc c) low =
    let next = pivots_next kept c in
    let more = pivots_next (k ∷ kept) c in
    let before = pivots_same k kept c (omega arith) in
    let other = ap has_row (row_other k kept c (λ e. absurd (omega arith))) in
    omega arith

pivots_one_more : (k : KeptRow) (kept : List KeptRow) (c : ℕ) →
    pivots_before (k ∷ kept) c ≤ suc (pivots_before kept c)
pivots_one_more k kept zero = let start = pivots_start (k ∷ kept) in omega arith
pivots_one_more k kept (suc c) = by_place (cases_eq k.pivot c) (pivots_one_more k kept c)
  where
    by_place : (k.pivot ≡ c) ⊎ (k.pivot ≢ c) →
        pivots_before (k ∷ kept) c ≤ suc (pivots_before kept c) →
        pivots_before (k ∷ kept) (suc c) ≤ suc (pivots_before kept (suc c))
    by_place (inl here) later =
        let next = pivots_next kept c in
        let more = pivots_next (k ∷ kept) c in
        let same = pivots_same k kept c (omega arith) in
        let one = has_row_low (row_with_pivot (k ∷ kept) c) in
        omega arith
    by_place (inr apart) later =
        let next = pivots_next kept c in
        let more = pivots_next (k ∷ kept) c in
        let other = ap has_row (row_other k kept c apart) in
        omega arith

no_pivots : (c : ℕ) → pivots_before [] c ≡ 0
unfolding has_row
no_pivots zero = pivots_start []
no_pivots (suc c) =
    let next = pivots_next [] c in
    let before = no_pivots c in
    let none : has_row (row_with_pivot [] c) ≡ 0 = refl in
    omega arith

pivots_by_rows : (kept : List KeptRow) (c : ℕ) → pivots_before kept c ≤ length kept
pivots_by_rows [] c = let none = no_pivots c in omega arith
pivots_by_rows (k ∷ kept) c =
    let before = pivots_by_rows kept c in
    let one = pivots_one_more k kept c in
    omega arith

row_push : (kept : List KeptRow) (k : KeptRow) (c : ℕ) →
    has_row (row_with_pivot kept c) ≤ has_row (row_with_pivot (kept ++ k ∷ []) c)
unfolding has_row
row_push [] k c = omega arith
row_push (x ∷ kept) k c = by_test (eqb x.pivot c) (row_push kept k c)
  where
    by_test : (b : Bool) →
        has_row (row_with_pivot kept c) ≤ has_row (row_with_pivot (kept ++ k ∷ []) c) →
        has_row (cond b (Some x) (row_with_pivot kept c))
        ≤ has_row (cond b (Some x) (row_with_pivot (kept ++ k ∷ []) c))
    by_test true later = omega arith
    by_test false later = later

pivots_push : (kept : List KeptRow) (k : KeptRow) (c : ℕ) →
    pivots_before kept c ≤ pivots_before (kept ++ k ∷ []) c
pivots_push kept k zero = let start = pivots_start kept in omega arith
pivots_push kept k (suc c) =
    let next = pivots_next kept c in
    let more = pivots_next (kept ++ k ∷ []) c in
    let before = pivots_push kept k c in
    let here = row_push kept k c in
    omega arith

-- ---- kept rows within the bound

-- the bound at a column: behind a step at each pivot before it
abbrev pub bound_at : ℕ → List KeptRow → ℕ → ℕ
bound_at b kept c = bound b (pivots_before kept c)

-- kept rows are within the bound at their pivots
abbrev pub AreSmall : ℕ → List KeptRow → Type 0
AreSmall b kept = All (λ k. IsSmall (bound_at b kept k.pivot) k.entries) kept

pub kept_small_at : (b : ℕ) (kept : List KeptRow) (c : ℕ) (k : KeptRow) → AreSmall b kept →
    row_with_pivot kept c ≡ Some k →
    IsSmall (bound_at b kept c) k.entries
kept_small_at b kept c k h e =
    let found = find_has (λ r. IsSmall (bound_at b kept r.pivot) r.entries)
    (λ r. eqb r.pivot c) kept k h e in
    subst (λ (j : ℕ). IsSmall (bound_at b kept j) k.entries)
    ((Decides-eqb k.pivot c).0 found.1) found.0

-- ---- an insertion

abbrev KeptIsSmall : ℕ → List KeptRow → Option (ℕ × List ℤ) → Type 0
KeptIsSmall b kept None = Unit {0}
KeptIsSmall b kept (Some p) = IsSmall (bound_at b kept p.0) p.1

-- into at most t kept rows
record InsertionIsSmall (b t : ℕ) (rows : List KeptRow) (i : Insertion) : Type 0 where
  marked : IsSmall (bound b t) i.marked
  kept : KeptIsSmall b rows i.kept

small_here : (b t a : ℕ) (kept : List KeptRow) (row : List ℤ) (onward : List ℤ → Insertion) →
    1 ≤ b → length kept ≤ t →
    AreSmall b kept → IsSmall (bound_at b kept a) row →
    ((next : List ℤ) → IsSmall (bound_at b kept (a + 1)) next →
    InsertionIsSmall b t kept (onward next)) →
    (o : Option KeptRow) → row_with_pivot kept a ≡ o → at_column row a ≢ pos 0 →
    InsertionIsSmall b t kept (inserted_at o a row onward)
unfolding inserted_at_by
small_here b t a kept row onward some few h small later None e apart = record {
  marked = All-nil (λ x. unsigned_abs x ≤ bound b t);
  kept = small_kept (bound_at b kept a) row a small;
}
small_here b t a kept row onward some few h small later (Some k) e apart =
    let here : ℕ = bound_at b kept a in
    let step = step_small here here k.entries row a (kept_small_at b kept a k h e) small apart in
    let next : here * here + here * here ≡ bound_at b kept (a + 1) =
    sym (bound_next b (pivots_before kept a)) ∙ sym (ap (bound b) (pivots_at kept a k e)) in
    let up : bound_at b kept (a + 1) ≤ bound b t =
    bound_up b (pivots_before kept (a + 1)) t some (let low = pivots_by_rows kept (a + 1) in
    omega arith) in
    let rest = later (reduced k.entries row a)
    (subst (λ (x : ℕ). IsSmall x (reduced k.entries row a)) next step.reduced_small) in
    record {
      marked =
          All-append (λ x. unsigned_abs x ≤ bound b t) (marked_in_step k.entries row a)
          (onward (reduced k.entries row a)).marked
          (small_up (bound_at b kept (a + 1)) (bound b t) (marked_in_step k.entries row a) up
          (subst (λ (x : ℕ). IsSmall x (marked_in_step k.entries row a)) next step.marked))
          rest.marked;
      kept = rest.kept;
    }

small_by_test : (b t a : ℕ) (kept : List KeptRow) (row : List ℤ) (onward : List ℤ → Insertion) →
    1 ≤ b → length kept ≤ t →
    AreSmall b kept → IsSmall (bound_at b kept a) row →
    ((next : List ℤ) → IsSmall (bound_at b kept (a + 1)) next →
    InsertionIsSmall b t kept (onward next)) →
    (zero_here : Bool) → int_eq (at_column row a) (pos 0) ≡ zero_here →
    InsertionIsSmall b t kept
    (if zero_here then onward row else inserted_at (row_with_pivot kept a) a row onward)
small_by_test b t a kept row onward some few h small later true e =
    later row
    (small_up (bound_at b kept a) (bound_at b kept (a + 1)) row
    (bound_up b (pivots_before kept a) (pivots_before kept (a + 1)) some (pivots_up kept a)) small)
small_by_test b t a kept row onward some few h small later false e =
    small_here b t a kept row onward some few h small later (row_with_pivot kept a) refl
    (not_from_Decides (int_eq (at_column row a) (pos 0)) (Decides-int_eq (at_column row a) (pos 0))
    e)

insertion_small : (b t a m : ℕ) (kept : List KeptRow) (row : List ℤ) → 1 ≤ b → length kept ≤ t →
    AreSmall b kept →
    IsSmall (bound_at b kept a) row →
    InsertionIsSmall b t kept (insertion kept (range_with_len a m) row)
unfolding insertion_by
insertion_small b t a zero kept row some few h small =
    record { marked = All-nil (λ x. unsigned_abs x ≤ bound b t); kept = tt }
insertion_small b t a (suc m) kept row some few h small =
    small_by_test b t a kept row (insertion kept (range_with_len (a + 1) m)) some few h small
    (λ next fits. insertion_small b t (a + 1) m kept next some few h fits)
    (int_eq (at_column row a) (pos 0)) refl

-- ---- all rows

-- one more kept row lowers no bound
pushed_up : (b : ℕ) (kept : List KeptRow) (k : KeptRow) (c : ℕ) (xs : List ℤ) → 1 ≤ b →
    IsSmall (bound_at b kept c) xs →
    IsSmall (bound_at b (kept ++ k ∷ []) c) xs
pushed_up b kept k c xs some small =
    small_up (bound_at b kept c) (bound_at b (kept ++ k ∷ []) c) xs
    (bound_up b (pivots_before kept c) (pivots_before (kept ++ k ∷ []) c) some
    (pivots_push kept k c)) small

kept_behind_small : (b number : ℕ) (kept : List KeptRow) (reduce : List ℕ)
    (o : Option (ℕ × List ℤ)) → 1 ≤ b → AreSmall b kept →
    KeptIsSmall b kept o → AreSmall b (kept_behind kept number reduce o)
unfolding kept_behind
kept_behind_small b number kept reduce None some h small = h
kept_behind_small b number kept reduce (Some p) some h small =
    let k : KeptRow = record { number = number; reduce = reduce; pivot = p.0; entries = p.1 } in
    All-push (λ r. IsSmall (bound_at b (kept ++ k ∷ []) r.pivot) r.entries) kept k
    (λ r at low. pushed_up b kept k _ _ some (h r at low)) (pushed_up b kept k p.0 p.1 some small)

-- with at most t kept rows before each insertion
pub record EliminationIsSmall (b t : ℕ) (e : Elimination) : Type 0 where
  pub marked : IsSmall (bound b t) e.marked
  pub kept : AreSmall b e.kept

pub elimination_small : (b t n : ℕ) (kept : List KeptRow) (number : ℕ) (rows : List (List ℤ)) →
    1 ≤ b → n ≤ suc t → AreSmall b kept →
    All (IsSmall b) rows → EliminationIsSmall b t (elimination_from n kept number rows)
unfolding elimination_from_by
elimination_small b t n kept number [] some few h small =
    record { marked = All-nil (λ x. unsigned_abs x ≤ bound b t); kept = h }
elimination_small b t n kept number (row ∷ rows) some few h small =
    by_rank (nat_le n (length kept)) refl
    (λ next all. elimination_small b t n next (number + 1) rows some few all
    (All-tail (IsSmall b) row rows small))
  where
    start : IsSmall (bound_at b kept 0) row
    start =
        let same : b ≡ bound_at b kept 0 = sym (ap (bound b) (pivots_start kept) ∙ bound_start b) in
        subst (λ (x : ℕ). IsSmall x row) same (All-head (IsSmall b) row rows small)

    by_rank : (full : Bool) → nat_le n (length kept) ≡ full →
        ((next : List KeptRow) → AreSmall b next →
        EliminationIsSmall b t (elimination_from n next (number + 1) rows)) →
        EliminationIsSmall b t
        (if full then record { kept = kept; marked = [] }
        else behind_insertion (inserted n kept row).marked
        (elimination_from n (kept_behind kept number (inserted n kept row).reduce
        (inserted n kept row).kept) (number + 1) rows))
    by_rank true e later = record { marked = All-nil (λ x. unsigned_abs x ≤ bound b t); kept = h }
    by_rank false e later =
        let fewer = leb-false n (length kept) e in
        let i = inserted n kept row in
        let first = insertion_small b t 0 n kept row some (omega arith) h start in
        let next = kept_behind kept number i.reduce i.kept in
        let rest = later next (kept_behind_small b number kept i.reduce i.kept some h first.kept) in
        record {
          marked =
              All-append (λ x. unsigned_abs x ≤ bound b t) i.marked
              (elimination_from n next (number + 1) rows).marked
              first.marked rest.marked;
          kept = rest.kept;
        }
