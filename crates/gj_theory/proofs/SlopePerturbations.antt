-- Slopes that solve the linear system give a perturbation.
use Rattle.std.proofs.Common.{◌≡◌, ◌≢◌, ℕ, zero, suc, inl, inr, ◌+◌, ◌*◌, ◌%◌, ◌<◌, ◌≤◌, true, ℤ, pos, ◌+ℤ◌, ◌-ℤ◌, List, [], ◌∷◌, ◌++◌, length, map, All, refl, sym, ap, ap₂, ◌∙◌, arith}
use Rattle.std.specs.List.{range_with_len}
use Rattle.std.proofs.Math.Nat.{mod-lt, mod-mod, mod-eq_of_lt, add-mod, add-mod_right, zero-add, mul-one}
use Rattle.std.proofs.lemmas.Bool.{cases_lt}
use Rattle.std.proofs.lemmas.Bool.Decides.{Decides-int_eq}
use Rattle.std.proofs.lemmas.Int.{ints}
use Rattle.std.proofs.lemmas.List.Elements.{All-head, All-tail}
use Rattle.std.proofs.lemmas.List.FromFn.{map-range_with_len_more, fill_by_all}
use Rattle.gj_lemmas.proofs.Integers.{add_comm_z, same_or_apart_z}
use Rattle.gj_shape.specs.Additive.{IsTight}
use Rattle.gj_shape.specs.Elimination.{at_column}
use Rattle.gj_shape.specs.FunctionData.{FunctionData, IsWithinBounds, at}
use Rattle.gj_shape.specs.Perturbation.{perturbation_of}
use Rattle.gj_shape.specs.SlopeRows.{is_tight, row_names, row_of, total, sum_of_products, SolveRows}
use Rattle.gj_shape.specs.Table.{table}
use Rattle.gj_shape.specs.declared.extremality.RowName.{RowName}
use Rattle.gj_shape.specs.declared.extremality.RowName.TheVariants.{Period, F, Pair}
use Rattle.gj_shape.proofs.TableLemmas.{table_of_order}
use Rattle.gj_theory.specs.Halves.{IsPerturbation}
use Rattle.gj_theory.proofs.Everywhere.{at_same}
use Rattle.gj_theory.proofs.OrderedPairs.{made_of_pairs, pair_of_all}
use Rattle.gj_theory.proofs.SlopeSums.{sum_before, slopes_of, period_row, place_row, pair_row}

-- ---- one row of all

tight_test : (f : FunctionData) (a b : ℕ) → IsTight f a b → is_tight f a b ≡ true
tight_test f a b e = (Decides-int_eq (at f.value a +ℤ at f.value b) (at f.value (a + b))).1 e

-- the rows of pairs
abbrev rows_of_pairs : FunctionData → List RowName
rows_of_pairs f = made_of_pairs Pair (is_tight f) f.order

-- the first two rows, and the row of a tight pair
pub first_rows_hold : (P : RowName → Type 0) (f : FunctionData) → All P (row_names f) →
    P Period × P F
first_rows_hold P f all =
    let pairs = rows_of_pairs f in
    (All-head P Period (F ∷ pairs) all, All-head P F pairs (All-tail P Period (F ∷ pairs) all))

pub pair_row_holds : (P : RowName → Type 0) (f : FunctionData) → All P (row_names f) → (a b : ℕ) →
    1 ≤ a → a ≤ b → b < f.order →
    IsTight f a b → P (Pair a b)
pair_row_holds P f all a b low up high tight =
    let pairs = rows_of_pairs f in
    pair_of_all P Pair (is_tight f) f.order (All-tail P F pairs (All-tail P Period (F ∷ pairs) all))
    a b low up high
    (tight_test f a b tight)

-- ---- the values of the perturbation

pub total_push : (xs : List ℤ) (x : ℤ) → total (xs ++ x ∷ []) ≡ total xs +ℤ x
total_push [] x = omega (arith, ints)
total_push (y ∷ xs) x = let rest = total_push xs x in omega (arith, ints)

total_before : (slope : ℕ → ℤ) (i : ℕ) → total (map slope (range_with_len 0 i)) ≡ sum_before slope i
unfolding sum_before
total_before slope zero = refl
total_before slope (suc i) =
    let next : suc i ≡ i + 1 = omega arith in
    ap (λ n. total (map slope (range_with_len 0 n))) next
    ∙ ap total (map-range_with_len_more slope 0 i i (zero-add i))
    ∙ total_push (map slope (range_with_len 0 i)) (slope i)
    ∙ ap (λ z. z +ℤ slope i) (total_before slope i)

sum_more : (slope : ℕ → ℤ) (i : ℕ) → sum_before slope (suc i) ≡ sum_before slope i +ℤ slope i
unfolding sum_before
sum_more slope i = refl

-- ---- the rows say that the perturbation is 0 at f and additive

-- the numbers of a list as slopes
pub listed : (slopes : List ℤ) (n : ℕ) → length slopes ≡ n → slopes ≡ slopes_of (at_column slopes) n
listed slopes n len = fill_by_all (at_column slopes) slopes n (pos 0) len (λ k below. refl)

-- what the rows say of the sums of slopes before the intervals
pub record SumsAreAdditive (f : FunctionData) (slope : ℕ → ℤ) : Type 0 where
  pub whole : sum_before slope f.order ≡ pos 0
  pub place : sum_before slope f.place ≡ pos 0
  pub pair : (a b : ℕ) → 1 ≤ a → a ≤ b → b < f.order → IsTight f a b →
      sum_before slope a +ℤ sum_before slope b ≡ sum_before slope ((a + b) % f.order)

sums_from_rows : (f : FunctionData) (component : ℕ → ℕ) (n : ℕ) (slopes : List ℤ) →
    IsWithinBounds f → length slopes ≡ n →
    ((i : ℕ) → i < f.order → component i < n) → SolveRows component n f slopes →
    SumsAreAdditive f (λ i. at_column slopes (component i))
sums_from_rows f component n slopes l len below solved =
    let s = at_column slopes in
    let before = sum_before (λ i. at_column slopes (component i)) in
    let Zero = λ (name : RowName). sum_of_products (row_of component n f.order f.place name) slopes
    ≡ pos 0 in
    let same = λ (name : RowName).
    ap (sum_of_products (row_of component n f.order f.place name)) (listed slopes n len) in
    let some : 0 < f.order = omega (arith, l.order_low) in
    let first = first_rows_hold Zero f solved in
    record {
      whole = sym (period_row component s n f.order f.place below) ∙ sym (same Period) ∙ first.0;
      place = sym (place_row component s n f.order f.place below (omega (arith, l.place_high)))
          ∙ sym (same F) ∙ first.1;
      pair = λ a b low up high tight.
          let r_low = mod-lt (a + b) some in
          let zero : Zero (Pair a b) = pair_row_holds Zero f solved a b low up high tight in
          let sums = pair_row component s n f.order f.place a b below (omega arith) (omega arith)
          (omega arith) in
          from_difference (before a) (before b) (before ((a + b) % f.order))
          (sym sums ∙ sym (same (Pair a b)) ∙ zero);
    }
  where
    from_difference : (x y z : ℤ) → x +ℤ y -ℤ z ≡ pos 0 → x +ℤ y ≡ z
    from_difference x y z e = omega (arith, ints)

-- the sums are additive at remainders of tight pairs
additive_sums : (f : FunctionData) (slope : ℕ → ℤ) → SumsAreAdditive f slope → (a b : ℕ) →
    a < f.order → b < f.order →
    IsTight f a b → sum_before slope a +ℤ sum_before slope b ≡ sum_before slope ((a + b) % f.order)
unfolding sum_before
additive_sums f slope h zero b a_low b_low tight =
    let none : zero + b ≡ b = omega arith in
    let here : sum_before slope ((zero + b) % f.order) ≡ sum_before slope b =
    ap (λ n. sum_before slope (n % f.order)) none ∙ ap (sum_before slope) (mod-eq_of_lt b_low) in
    omega (arith, ints)
additive_sums f slope h (suc a) zero a_low b_low tight =
    let none : suc a + zero ≡ suc a = omega arith in
    let here : sum_before slope ((suc a + zero) % f.order) ≡ sum_before slope (suc a) =
    ap (λ n. sum_before slope (n % f.order)) none ∙ ap (sum_before slope) (mod-eq_of_lt a_low) in
    omega (arith, ints)
additive_sums f slope h (suc a) (suc b) a_low b_low tight = elim (cases_lt b a) [
  | inl less ↦
      let turned : suc b + suc a ≡ suc a + suc b = omega arith in
      let tight_turned : IsTight f (suc b) (suc a) =
      add_comm_z (at f.value (suc b)) (at f.value (suc a)) ∙ tight ∙ ap (at f.value) (sym turned) in
      add_comm_z (sum_before slope (suc a)) (sum_before slope (suc b))
      ∙ h.pair (suc b) (suc a) (omega arith) (omega arith) a_low tight_turned
      ∙ ap (λ n. sum_before slope (n % f.order)) turned
  | inr more ↦ h.pair (suc a) (suc b) (omega arith) (omega arith) b_low tight
]

pub slopes_perturb : (f : FunctionData) (component : ℕ → ℕ) (n : ℕ) (slopes : List ℤ) →
    IsWithinBounds f → length slopes ≡ n →
    ((i : ℕ) → i < f.order → component i < n) → SolveRows component n f slopes →
    IsPerturbation (table f 1) (f.order * 1) (f.place * 1)
    (perturbation_of f.order (λ i. at_column slopes (component i)))
slopes_perturb f component n slopes l len below solved = record {
  at_tight = record {
    has_period = λ i.
        let one : i + q * 1 ≡ i + q = omega arith in
        ap p one ∙ ap (λ r. total (map slope (range_with_len 0 r))) (add-mod_right i q);
    additive = λ i j tight.
        let sum : (i % q + j % q) % q ≡ (i + j) % q = sym (add-mod i j q) in
        ap₂ (λ x y. x +ℤ y) (total_before slope (i % q)) (total_before slope (j % q))
        ∙ additive_sums f slope sums (i % q) (j % q) (mod-lt i some) (mod-lt j some)
        (at_remainders i j tight)
        ∙ ap (sum_before slope) sum ∙ sym (total_before slope ((i + j) % q));
  };
  zero_at_place =
      ap p (mul-one f.place)
      ∙ ap (λ r. total (map slope (range_with_len 0 r)))
      (mod-eq_of_lt (let h = l.place_high in h))
      ∙ total_before slope f.place ∙ sums.place;
}
  where
    q : ℕ
    q = f.order

    slope : ℕ → ℤ
    slope i = at_column slopes (component i)

    p : ℕ → ℤ
    p = perturbation_of f.order slope

    some : 0 < f.order
    some = omega (arith, l.order_low)

    sums : SumsAreAdditive f slope
    sums = sums_from_rows f component n slopes l len below solved

    at_remainders : (i j : ℕ) → table f 1 i +ℤ table f 1 j ≡ table f 1 (i + j) →
        IsTight f (i % f.order) (j % f.order)
    at_remainders i j tight =
        let value = λ (x y : ℕ) (e : x % f.order ≡ y % f.order).
        at_same f.value x y f.order l.value_length e ∙ sym (table_of_order f y) in
        ap₂ (λ x y. x +ℤ y) (value (i % f.order) i (mod-mod i f.order))
        (value (j % f.order) j (mod-mod j f.order))
        ∙ tight
        ∙ sym (value (i % f.order + j % f.order) (i + j) (sym (add-mod i j f.order)))

-- if the slope of an interval is not 0, the perturbation is not 0 at one of its ends
pub slopes_not_zero : (f : FunctionData) (component : ℕ → ℕ) (n : ℕ) (slopes : List ℤ) (i : ℕ) →
    IsWithinBounds f →
    length slopes ≡ n → ((j : ℕ) → j < f.order → component j < n) → SolveRows component n f slopes →
    i < f.order →
    at_column slopes (component i) ≢ pos 0 →
    (j : ℕ) × (perturbation_of f.order (λ k. at_column slopes (component k)) j ≢ pos 0)
slopes_not_zero f component n slopes i l len below solved low some_slope =
    elim (same_or_apart_z (sum_before slope i) (pos 0)) [
      | inl start ↦ elim (cases_lt (suc i) f.order) [
        | inl inner ↦ (suc i, λ e. from_zero start (sym (here (suc i) inner) ∙ e))
        | inr last ↦ absurd (from_zero start
            (ap (sum_before slope) (let e : suc i ≡ f.order = omega arith in e) ∙ sums.whole))
      ]
      | inr apart ↦ (i, λ e. apart (sym (here i low) ∙ e))
    ]
  where
    slope : ℕ → ℤ
    slope k = at_column slopes (component k)

    sums : SumsAreAdditive f slope
    sums = sums_from_rows f component n slopes l len below solved

    here : (j : ℕ) → j < f.order → perturbation_of f.order slope j ≡ sum_before slope j
    here j inner = ap (λ r. total (map slope (range_with_len 0 r))) (mod-eq_of_lt inner)
        ∙ total_before slope j

    from_zero : sum_before slope i ≡ pos 0 → sum_before slope (suc i) ≡ pos 0 → ⊥
    from_zero start end = let step = sum_more slope i in some_slope (omega (arith, ints))
