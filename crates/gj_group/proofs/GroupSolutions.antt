-- The rows of a table are solved by its perturbations.
use Rattle.std.proofs.Common.{◌≡◌, ℕ, zero, suc, inl, inr, ◌+◌, ◌*◌, ◌%◌, ◌<◌, ◌≤◌, ℤ, pos, ◌+ℤ◌, ◌-ℤ◌, ◌*ℤ◌, List, ◌∷◌, length, map, refl, sym, ap, ap₂, subst₂, ◌∙◌, arith}
use Rattle.std.specs.List.{range_with_len}
use Rattle.std.proofs.Math.Nat.{mod-lt, mod-mod, add-mod, mul-one}
use Rattle.std.proofs.lemmas.Bool.{cases_lt}
use Rattle.std.proofs.lemmas.Bool.Decides.{Decides-int_eq}
use Rattle.std.proofs.lemmas.Int.{ints}
use Rattle.std.proofs.lemmas.List.{get_or_default}
use Rattle.std.proofs.lemmas.List.FromFn.{length-map-range_with_len}
use Rattle.std.proofs.lemmas.List.Elements.{All-cons, All-head, All-tail}
use Rattle.gj_lemmas.proofs.Integers.{add_comm_z}
use Rattle.gj_lemmas.proofs.Quotients.{same_at_remainder}
use Rattle.gj_shape.specs.Extreme.{IsExtremeTable}
use Rattle.gj_shape.specs.FunctionData.{FunctionData, IsWithinBounds, at}
use Rattle.gj_shape.specs.SlopeRows.{sum_of_products}
use Rattle.gj_shape.specs.Table.{table, IsMinimalTable, IsMinimalOnGrid}
use Rattle.gj_shape.proofs.AtLemmas.{at_below, at_wrapped}
use Rattle.gj_shape.proofs.TableLemmas.{table_of_order, at_plus_order}
use Rattle.gj_theory.specs.Halves.{IsPerturbation}
use Rattle.gj_theory.specs.TriangularRows.{Solves}
use Rattle.gj_theory.proofs.DecidingGrid.{none_from_extreme, extreme_from_none}
use Rattle.gj_theory.proofs.HalvesAsLists.{at_made}
use Rattle.gj_theory.proofs.PerturbedTables.{perturbation_at_zero}
use Rattle.gj_theory.proofs.SameVerdicts.{HasSameEntries, minimal_over, extreme_over}
use Rattle.gj_theory.proofs.OrderedPairs.{made_of_pairs, pair_of_all, all_pairs}
use Rattle.gj_group.specs.GroupRows.{entry_row, sum_row, is_tight_pair, SolveGroupRows, group_rows}
use Rattle.gj_residue.specs.Settled.{OnlyZeroSolves}
use Rattle.gj_group.proofs.RowSums.{entry_row_sum, sum_row_sum}

-- ---- one row

difference_zero : (x y z : ℤ) → x +ℤ y -ℤ z ≡ pos 0 → x +ℤ y ≡ z
difference_zero x y z e = omega (arith, ints)

zero_difference : (x y z : ℤ) → x +ℤ y ≡ z → x +ℤ y -ℤ z ≡ pos 0
zero_difference x y z e = omega (arith, ints)

entry_of_row : (n c : ℕ) (w : List ℤ) → length w ≡ n → c < n → Solves w (entry_row n c) →
    at w c ≡ pos 0
entry_of_row n c w len below h = at_below w c (omega arith) ∙ sym (entry_row_sum n c w len below)
    ∙ h

row_of_entry : (n c : ℕ) (w : List ℤ) → length w ≡ n → c < n → at w c ≡ pos 0 →
    Solves w (entry_row n c)
row_of_entry n c w len below h = entry_row_sum n c w len below ∙ sym (at_below w c (omega arith))
    ∙ h

-- the sum that a row has, by entries
sum_is : (n a b : ℕ) (w : List ℤ) → length w ≡ n → a < n → b < n →
    sum_of_products (sum_row n a b) w ≡ at w a +ℤ at w b -ℤ at w (a + b)
sum_is n a b w len a_low b_low =
    let low : (a + b) % n < n = mod-lt (a + b) (omega arith) in
    let inside : (a + b) % n < length w = omega arith in
    sum_row_sum n a b w len a_low b_low low
    ∙ ap₂ (λ x z. x -ℤ z)
    (ap₂ (λ x y. x +ℤ y) (sym (at_below w a (omega arith))) (sym (at_below w b (omega arith))))
    (sym (at_below w ((a + b) % n) inside) ∙ at_wrapped w (a + b) ((a + b) % n) n len refl)

-- ---- all rows

-- the numbers are additive at each tight pair a ≤ b below n
abbrev IsAdditiveBelow : (ℕ → ℤ) → ℕ → List ℤ → Type 0
IsAdditiveBelow t n w = (a b : ℕ) → 1 ≤ a → a ≤ b → b < n → t a +ℤ t b ≡ t (a + b) →
    at w a +ℤ at w b ≡ at w (a + b)

pairs_from_rows : (t : ℕ → ℤ) (n k : ℕ) (w : List ℤ) → length w ≡ n → SolveGroupRows t n k w →
    IsAdditiveBelow t n w
pairs_from_rows t n k w len solved a b low up high tight =
    let pairs = made_of_pairs (sum_row n) (is_tight_pair t) n in
    let behind = All-tail (Solves w) (entry_row n k) pairs
    (All-tail (Solves w) (entry_row n 0) (entry_row n k ∷ pairs) solved) in
    let row : Solves w (sum_row n a b) =
    pair_of_all (Solves w) (sum_row n) (is_tight_pair t) n behind a b low up high
    ((Decides-int_eq (t a +ℤ t b) (t (a + b))).1 tight) in
    difference_zero (at w a) (at w b) (at w (a + b)) (sym (sum_is n a b w len (omega arith) high)
    ∙ row)

pub rows_from_perturbation : (t : ℕ → ℤ) (n k : ℕ) (w : List ℤ) → 0 < n → k < n → length w ≡ n →
    at w 0 ≡ pos 0 →
    IsPerturbation t n k (at w) → SolveGroupRows t n k w
rows_from_perturbation t n k w some k_low len start h =
    let pairs = made_of_pairs (sum_row n) (is_tight_pair t) n in
    All-cons (Solves w) (entry_row n 0) (entry_row n k ∷ pairs) (row_of_entry n 0 w len some start)
    (All-cons (Solves w) (entry_row n k) pairs (row_of_entry n k w len k_low h.zero_at_place)
    (all_pairs (Solves w) (sum_row n) (is_tight_pair t) n
    (λ a b a_low b_low passes.
    let tight : t a +ℤ t b ≡ t (a + b) = (Decides-int_eq (t a +ℤ t b) (t (a + b))).0 passes in
    sum_is n a b w len a_low b_low
    ∙ zero_difference (at w a) (at w b) (at w (a + b)) (h.at_tight.additive a b tight))))

-- ---- from the pairs below n to all pairs

additive_ordered : (t : ℕ → ℤ) (n : ℕ) (w : List ℤ) → IsAdditiveBelow t n w → at w 0 ≡ pos 0 →
    (a b : ℕ) → a ≤ b → b < n →
    t a +ℤ t b ≡ t (a + b) → at w a +ℤ at w b ≡ at w (a + b)
additive_ordered t n w h start zero b up high tight =
    let none : zero + b ≡ b = omega arith in
    let here : at w (zero + b) ≡ at w b = ap (at w) none in
    omega (arith, ints)
additive_ordered t n w h start (suc a) b up high tight = h (suc a) b (omega arith) up high tight

additive_below : (t : ℕ → ℤ) (n : ℕ) (w : List ℤ) → IsAdditiveBelow t n w → at w 0 ≡ pos 0 →
    (a b : ℕ) → a < n → b < n →
    t a +ℤ t b ≡ t (a + b) → at w a +ℤ at w b ≡ at w (a + b)
additive_below t n w h start a b a_low b_low tight = elim (cases_lt b a) [
  | inl less ↦
      let turned : b + a ≡ a + b = omega arith in
      add_comm_z (at w a) (at w b)
      ∙ additive_ordered t n w h start b a (omega arith) a_low (add_comm_z (t b) (t a) ∙ tight
      ∙ ap t (sym turned))
      ∙ ap (at w) turned
  | inr more ↦ additive_ordered t n w h start a b more b_low tight
]

pub perturbation_from_rows : (t : ℕ → ℤ) (n k : ℕ) (w : List ℤ) → 0 < n → k < n →
    ((i : ℕ) → t (i + n) ≡ t i) → length w ≡ n →
    SolveGroupRows t n k w → (at w 0 ≡ pos 0) × IsPerturbation t n k (at w)
perturbation_from_rows t n k w some k_low period len solved =
    let pairs = made_of_pairs (sum_row n) (is_tight_pair t) n in
    let start = entry_of_row n 0 w len some
    (All-head (Solves w) (entry_row n 0) (entry_row n k ∷ pairs) solved) in
    let place = entry_of_row n k w len k_low
    (All-head (Solves w) (entry_row n k) pairs
    (All-tail (Solves w) (entry_row n 0) (entry_row n k ∷ pairs) solved)) in
    let below = additive_below t n w (pairs_from_rows t n k w len solved) start in
    let rest : (i : ℕ) → at w (i % n) ≡ at w i = λ i. at_wrapped w i (i % n) n len refl in
    let value : (i j : ℕ) → i % n ≡ j % n →
    t i ≡ t j = λ i j e. same_at_remainder t n period i j e in (
      start,
      record {
        at_tight = record {
          has_period = λ i. at_plus_order w i n len;
          additive = λ i j tight.
              let sum : (i % n + j % n) % n ≡ (i + j) % n = sym (add-mod i j n) in
              let tight_below : t (i % n) +ℤ t (j % n) ≡ t (i % n + j % n) =
              ap₂ (λ x y. x +ℤ y) (value (i % n) i (mod-mod i n)) (value (j % n) j (mod-mod j n))
              ∙ tight
              ∙ sym (value (i % n + j % n) (i + j) sum) in
              ap₂ (λ x y. x +ℤ y) (sym (rest i)) (sym (rest j))
              ∙ below (i % n) (j % n) (mod-lt i some) (mod-lt j some) tight_below
              ∙ sym (rest (i % n + j % n)) ∙ ap (at w) sum ∙ rest (i + j);
        };
        zero_at_place = place;
      },
    )

-- ---- minimal tables

pub rows_from_minimal : (t : ℕ → ℤ) (n k s : ℕ) (w : List ℤ) → 0 < n → k < n →
    IsMinimalTable t n k s → length w ≡ n →
    IsPerturbation t n k (at w) → SolveGroupRows t n k w
rows_from_minimal t n k s w some k_low minimal len h =
    rows_from_perturbation t n k w some k_low len (perturbation_at_zero t n k s (at w) minimal h) h

pub zero_from_extreme : (t : ℕ → ℤ) (n k s : ℕ) → 0 < n → k < n → IsExtremeTable t n k s →
    OnlyZeroSolves n (group_rows t n k)
zero_from_extreme t n k s some k_low extreme w len solved i d below =
    get_or_default w i d (pos 0) below ∙ sym (at_below w i below)
    ∙ none_from_extreme t n k s some extreme (at w)
    (perturbation_from_rows t n k w some k_low extreme.minimal.has_period len solved).1 i

-- a perturbation as a list
pub extreme_from_zero : (t : ℕ → ℤ) (n k s : ℕ) → 0 < n → k < n → IsMinimalTable t n k s →
    OnlyZeroSolves n (group_rows t n k) → IsExtremeTable t n k s
extreme_from_zero t n k s some k_low minimal only =
    extreme_from_none t n k s minimal (λ p h i. none p h i)
  where
    none : (p : ℕ → ℤ) → IsPerturbation t n k p → (i : ℕ) → p i ≡ pos 0
    none p h i =
        let w = map p (range_with_len 0 n) in
        let len : length w ≡ n = length-map-range_with_len p 0 n in
        let same : (j : ℕ) → at w j ≡ p j = at_made p n some h.at_tight.has_period in
        let listed : IsPerturbation t n k (at w) = record {
          at_tight = record {
            has_period = λ j. same (j + n) ∙ h.at_tight.has_period j ∙ sym (same j);
            additive = λ a b tight. ap₂ (λ x y. x +ℤ y) (same a) (same b)
                ∙ h.at_tight.additive a b tight ∙ sym (same (a + b));
          };
          zero_at_place = same k ∙ h.zero_at_place;
        } in
        let zeros = only w len (rows_from_minimal t n k s w some k_low minimal len listed) in
        let below : i % n < n = mod-lt i some in
        let inside : i % n < length w = omega arith in
        sym (same i) ∙ sym (at_wrapped w i (i % n) n len refl) ∙ at_below w (i % n) inside
        ∙ zeros (i % n) (pos 0) inside

-- ---- the table of a function's own order

pub own_perturbation : (f : FunctionData) (w : List ℤ) → IsWithinBounds f → length w ≡ f.order →
    SolveGroupRows (at f.value) f.order f.place w →
    IsPerturbation (table f 1) (f.order * 1) (f.place * 1) (at w)
own_perturbation f w l len solved =
    let low = l.order_low in
    let h = (perturbation_from_rows (at f.value) f.order f.place w (omega arith) l.place_high
    (λ i. at_plus_order f.value i f.order l.value_length) len solved).1 in
    rw (mul-one f.order, mul-one f.place)
    (record {
      at_tight = record {
        has_period = h.at_tight.has_period;
        additive = λ i j tight.
            h.at_tight.additive i j
            (ap₂ (λ x y. x +ℤ y) (sym (table_of_order f i)) (sym (table_of_order f j)) ∙ tight
            ∙ table_of_order f (i + j));
      };
      zero_at_place = h.zero_at_place;
    })

-- its table has the entries of the values, over the scale
same_entries : (f : FunctionData) →
    HasSameEntries (table f 1) (f.scale * 1) (at f.value) (f.scale * 1)
same_entries f i = ap (λ z. z *ℤ pos (f.scale * 1)) (sym (table_of_order f i))

entries_back : (f : FunctionData) →
    HasSameEntries (at f.value) (f.scale * 1) (table f 1) (f.scale * 1)
entries_back f i = ap (λ z. z *ℤ pos (f.scale * 1)) (table_of_order f i)

pub function_zero : (f : FunctionData) → IsWithinBounds f →
    IsExtremeTable (table f 1) (f.order * 1) (f.place * 1) (f.scale * 1) →
    OnlyZeroSolves f.order (group_rows (at f.value) f.order f.place)
function_zero f l extreme =
    let low = l.order_low in
    let s_low = l.scale_low in
    let s_some : 0 < f.scale * 1 = omega arith in
    let values : IsExtremeTable (at f.value) (f.order * 1) (f.place * 1) (f.scale * 1) =
    extreme_over (table f 1) (at f.value) (f.order * 1) (f.place * 1) (f.scale * 1)
    (f.scale * 1) s_some s_some (same_entries f) extreme in
    zero_from_extreme (at f.value) f.order f.place (f.scale * 1) (omega arith) l.place_high
    (subst₂ (λ (q k : ℕ). IsExtremeTable (at f.value) q k (f.scale * 1)) (mul-one f.order)
    (mul-one f.place) values)

pub function_extreme : (f : FunctionData) → IsWithinBounds f → IsMinimalOnGrid f 1 →
    OnlyZeroSolves f.order (group_rows (at f.value) f.order f.place) →
    IsExtremeTable (table f 1) (f.order * 1) (f.place * 1) (f.scale * 1)
function_extreme f l minimal only =
    let low = l.order_low in
    let s_low = l.scale_low in
    let s_some : 0 < f.scale * 1 = omega arith in
    let values : IsMinimalTable (at f.value) (f.order * 1) (f.place * 1) (f.scale * 1) =
    minimal_over (table f 1) (at f.value) (f.order * 1) (f.place * 1) (f.scale * 1)
    (f.scale * 1) s_some (same_entries f) minimal in
    let own : IsMinimalTable (at f.value) f.order f.place (f.scale * 1) =
    subst₂ (λ (q k : ℕ). IsMinimalTable (at f.value) q k (f.scale * 1)) (mul-one f.order)
    (mul-one f.place) values in
    let extreme = extreme_from_zero (at f.value) f.order f.place (f.scale * 1)
    (omega arith) l.place_high own only in
    extreme_over (at f.value) (table f 1) (f.order * 1) (f.place * 1) (f.scale * 1)
    (f.scale * 1) s_some s_some (entries_back f)
    (subst₂ (λ (q k : ℕ). IsExtremeTable (at f.value) q k (f.scale * 1)) (sym (mul-one f.order))
    (sym (mul-one f.place)) extreme)
