-- Mixed cuts hold: at each solution by a grid that holds it.
use Rattle.std.proofs.Common.{◌≡◌, ◌≢◌, ℕ, zero, suc, ◌+◌, ◌-◌, ◌*◌, ◌%◌, ◌<◌, ◌≤◌, ⊎_elim, List, [], ◌∷◌, ◌++◌, map, ℤ, pos, ◌+ℤ◌, ◌-ℤ◌, ◌*ℤ◌, ◌≤ℤ◌, unsigned_abs, refl, sym, ap, ap₂, subst, subst₂, ◌∙◌, arith}
use Rattle.std.specs.List.{AllZip}
use Rattle.std.specs.Int.{int_div_euclid}
use Rattle.std.proofs.Math.Nat.{mul_comm, mul-pos, mul-lt-mul_of_pos_right, mod-eq_of_lt, dvd-mul_right}
use Rattle.std.proofs.lemmas.Bool.{cases_lt}
use Rattle.std.proofs.lemmas.Int.{ints}
use Rattle.std.proofs.lemmas.List.Elements.{All-head, All-tail}
use Rattle.std.proofs.lemmas.Nat.Gcd.{dvd_trans}
use Rattle.gj_frac.specs.declared.Frac.{Frac}
use Rattle.gj_frac.specs.Fraction.{IsRatio, numerator, denominator, IsInside}
use Rattle.gj_frac.proofs.Floors.{quotient_is_floor}
use Rattle.gj_lemmas.proofs.Integers.{add_comm_z, mul_assoc_z, mul_comm_z, one_mul_z, pos_abs_z, positive_some_z, swap_last_z}
use Rattle.gj_lemmas.proofs.Lists.{All-front, All-back}
use Rattle.gj_lemmas.proofs.Ratios.{ratio_along}
use Rattle.gj_lemmas.proofs.Ring.{by_ring, ring}
use Rattle.gj_shape.specs.FunctionData.{FunctionData, IsWithinBounds, IsContinuous, at}
use Rattle.gj_shape.specs.Given.{IsCommonDenominator, numerator_over}
use Rattle.gj_shape.specs.Gmic.{gmic_table, gmic_scale}
use Rattle.gj_shape.specs.Given.{IsLeastCommonDenominator}
use Rattle.gj_shape.specs.SlopeRows.{sum_of_products}
use Rattle.gj_shape.specs.Table.{table, IsMinimal}
use Rattle.gj_shape.specs.Valid.{IsValidTable}
use Rattle.gj_shape.proofs.LeastDenominator.{Divides, least_common_some}
use Rattle.gj_shape.proofs.OverScale.{denominator_is}
use Rattle.gj_shape.proofs.TableLemmas.{table_of_order, table_parts, at_plus_order, left_is_value, right_is_value}
use Rattle.gj_frac.specs.Floor.{HasFractionalPart}
use Rattle.gj_theory.specs.Cuts.{IsEntryAt, IsValueOf, IsGmicValue}
use Rattle.gj_theory.proofs.CutsByTables.{product_of, product_some, product_common, numerator_at, whole_and_part, sums}
use Rattle.gj_theory.proofs.GmicTable.{gmic_minimal, entry_rising, entry_falling}
use Rattle.gj_theory.proofs.MinimalEntries.{value_at_zero}
use Rattle.gj_theory.proofs.RowGrids.{part_on_grid, values_on_grid, table_of, place_over, gmics_on_grid}
use Rattle.gj_theory.proofs.UsedPlaces.{over_more, weigh_one}
use Rattle.gj_theory.proofs.ValidTables.{minimal_is_valid}
use Rattle.gj_mixed.specs.MixedRows.{IsMixedSolution, MixedCutHolds}
use Rattle.gj_mixed.specs.Slopes.{IsWeight, AreSlopesAtZero, AreGmicSlopes}
use Rattle.gj_mixed.proofs.Columns.{AreSteps, columns_used}

-- ---- by a table

solution_regrouped : (c e b x y n : ℤ) →
    ((c *ℤ e) *ℤ b +ℤ (y +ℤ e *ℤ x)) *ℤ n ≡ (e *ℤ (c *ℤ b +ℤ x) +ℤ y) *ℤ n
solution_regrouped c e b x y n = by_ring (c ∷ e ∷ b ∷ x ∷ y ∷ n ∷ []) (search ring depth 40) refl

-- a solution of the row over e times the denominator
whole_over_more : (c e b x y r p n : ℤ) → e *ℤ (c *ℤ b +ℤ x) +ℤ y ≡ e *ℤ r → r *ℤ n ≡ p *ℤ c →
    ((c *ℤ e) *ℤ b +ℤ (y +ℤ e *ℤ x)) *ℤ n ≡ p *ℤ (c *ℤ e)
whole_over_more c e b x y r p n solves right_is =
    solution_regrouped c e b x y n ∙ ap (λ z. z *ℤ n) solves ∙ mul_assoc_z e r n
    ∙ mul_comm_z e (r *ℤ n) ∙ ap (λ z. z *ℤ e) right_is ∙ mul_assoc_z p c e

-- on a grid that holds the row and the solution
held_by_table : (t : ℕ → ℤ) (n k s e b r : ℕ) (up down : Frac) (entries columns : List Frac)
    (right : Frac)
    (coefficients weights : List Frac) (basic : ℤ) (others amounts : List ℕ) (g : ℕ) →
    IsValidTable t n k s → 0 < n → 0 < s → n ≡ b * e * r → IsCommonDenominator columns b →
    HasFractionalPart right (pos k) (pos n) →
    AllZip (IsEntryAt t n s) entries coefficients → AreSteps t n s up down →
    AllZip (IsWeight up down) columns weights →
    IsMixedSolution entries columns right basic others amounts e →
    IsLeastCommonDenominator (coefficients ++ weights) g →
    (pos e *ℤ pos g) ≤ℤ (pos e *ℤ sum_of_products (map (numerator_over g) coefficients)
    (map pos others)
    +ℤ sum_of_products (map (numerator_over g) weights) (map pos amounts))
held_by_table t n k s e b r up down entries columns right coefficients weights basic others amounts
    g
    valid n_some s_some n_is over_b part values steps are_weights solution least =
    let c = solution.c in
    let all = entries ++ columns in
    let right_over = All-head (Divides c) right all solution.least.common in
    let both_over = All-tail (Divides c) right all solution.least.common in
    let x = sum_of_products (map (numerator_over c) entries) (map pos others) in
    let y = sum_of_products (map (numerator_over c) columns) (map pos amounts) in
    let v = sum_of_products (map (numerator_over g) coefficients) (map pos others) in
    let u = sum_of_products (map (numerator_over g) weights) (map pos amounts) in
    let whole_columns = sums t n s c g entries coefficients others solution.count values
    (All-front (Divides c) entries columns both_over)
    (All-front (Divides g) coefficients weights least.common) in
    let used = columns_used t n s c g e b r up down columns weights amounts (pos e *ℤ x)
    (pos e *ℤ v) steps n_some n_is
    solution.column_count are_weights over_b (All-back (Divides c) entries columns both_over)
    (All-back (Divides g) coefficients weights least.common)
    (over_more t n s c g e x v whole_columns) in
    let w = int_div_euclid right.num right.den in
    let right_is = whole_and_part right (pos k) (pos n) w (quotient_is_floor right) part in
    let whole = whole_over_more (pos c) (pos e) basic x y (numerator_over c right)
    (w *ℤ pos n +ℤ pos k) (pos n) solution.solves
    (numerator_at right c (w *ℤ pos n +ℤ pos k) (pos n) right_over right_is) in
    let reached = weigh_one t n k s (c * e) (g * e) (y +ℤ pos e *ℤ x)
    (u +ℤ pos e *ℤ v) basic w valid s_some
    (mul-pos (least_common_some (right ∷ all) c solution.least) solution.over) whole used in
    subst₂ (λ a z. a ≤ℤ z) (ap pos (mul_comm g e)) (add_comm_z u (pos e *ℤ v)) reached

-- ---- the grid

-- the entries, the columns and the denominator of the amounts
abbrev grid_of : List Frac → List Frac → ℕ → ℕ
grid_of entries columns e = product_of entries * (product_of columns * e)

grid_some : (entries columns : List Frac) (e : ℕ) → 0 < e → 0 < grid_of entries columns e
grid_some entries columns e some =
    mul-pos (product_some entries) (mul-pos (product_some columns) some)

grid_common : (entries columns : List Frac) (e : ℕ) →
    IsCommonDenominator entries (grid_of entries columns e)
grid_common entries columns e k y l =
    dvd_trans _ (product_common entries k y l)
    (dvd-mul_right (product_of entries) (product_of columns * e))

grid_split : (q p b e : ℕ) → q * (p * (b * e)) ≡ b * e * (q * p)
grid_split q p b e = omega arith

-- ---- by a function

zero_first : (k : ℕ) (x : ℤ) → pos k *ℤ pos 0 +ℤ pos 1 *ℤ x ≡ x
zero_first k x = omega (arith, ints)

zero_second : (k : ℕ) (x : ℤ) → pos 1 *ℤ x +ℤ pos k *ℤ pos 0 ≡ x
zero_second k x = omega (arith, ints)

-- the first step
table_first : (f : FunctionData) (m : ℕ) → IsContinuous f → at f.value 0 ≡ pos 0 → 0 < m →
    table f m 1 ≡ at f.value 1
table_first f zero continuous none some = absurd (omega arith)
table_first f (suc zero) continuous none some = table_of_order f 1
table_first f (suc (suc j)) continuous none some =
    let m = suc (suc j) in
    table_parts f m 1 0 1 (omega arith) (omega arith)
    ∙ ap₂ (λ a b. pos (m - 1) *ℤ a +ℤ pos 1 *ℤ b) (right_is_value f 0 continuous ∙ none)
    (left_is_value f 1 continuous)
    ∙ zero_first (m - 1) (at f.value 1)

-- and the last
table_last : (f : FunctionData) (m : ℕ) → IsWithinBounds f → IsContinuous f → at f.value 0 ≡ pos 0 →
    0 < m →
    table f m (f.order * m - 1) ≡ at f.value (f.order - 1)
table_last f zero bounds continuous none some = absurd (omega arith)
table_last f (suc zero) bounds continuous none some =
    ap (table f 1) (omega arith) ∙ table_of_order f (f.order - 1)
table_last f (suc (suc j)) bounds continuous none some =
    let m = suc (suc j) in
    let a = f.order - 1 in
    let next : f.order ≡ a + 1 = omega (arith, bounds.order_low) in
    let whole : f.order * m ≡ a * m + m = ap (λ z. z * m) next ∙ omega arith in
    let rest : m - suc j ≡ 1 = omega arith in
    let back : a + 1 ≡ 0 + f.order = omega arith in
    let end : at f.left (a + 1) ≡ pos 0 = left_is_value f (a + 1) continuous ∙ ap (at f.value) back
    ∙ at_plus_order f.value 0 f.order bounds.value_length ∙ none in
    table_parts f m (f.order * m - 1) a (suc j) (omega arith) (omega arith)
    ∙ ap (λ k. pos k *ℤ at f.right a +ℤ pos (suc j) *ℤ at f.left (a + 1)) rest
    ∙ ap₂ (λ x y. pos 1 *ℤ x +ℤ pos (suc j) *ℤ y) (right_is_value f a continuous) end
    ∙ zero_second (suc j) (at f.value a)

less_zero : (q x y : ℤ) → y ≡ pos 0 → q *ℤ (x -ℤ y) ≡ q *ℤ x
less_zero q x y none = ap (λ z. q *ℤ z) (omega (arith, ints))

step_in : (q t b m : ℤ) → ((q *ℤ t) *ℤ b) *ℤ m ≡ ((q *ℤ m) *ℤ t) *ℤ b
step_in q t b m = by_ring (q ∷ t ∷ b ∷ m ∷ []) (search ring depth 30) refl

-- a slope q (x - 0)/d on a grid m times as fine, with the step x
step_on_grid : (up : Frac) (q d m : ℕ) (x y t : ℤ) → IsRatio up (pos q *ℤ (x -ℤ y)) (pos d) →
    y ≡ pos 0 → t ≡ x →
    IsRatio up (pos (q * m) *ℤ t) (pos (d * m))
step_on_grid up q d m x y t is none t_is =
    sym (mul_assoc_z up.num (pos d) (pos m))
    ∙ ap (λ z. z *ℤ pos m) (is ∙ ap (λ z. z *ℤ up.den) (less_zero (pos q) x y none))
    ∙ step_in (pos q) x up.den (pos m) ∙ ap (λ z. (pos (q * m) *ℤ z) *ℤ up.den) (sym t_is)

function_steps : (f : FunctionData) (m : ℕ) (up down : Frac) → IsWithinBounds f → IsContinuous f →
    IsMinimal f → 0 < m →
    AreSlopesAtZero f up down → AreSteps (table f m) (f.order * m) (f.scale * m) up down
function_steps f m up down bounds continuous minimal some slopes =
    let none = value_at_zero f minimal in
    record {
      rises = step_on_grid up f.order f.scale m (at f.value 1) (at f.value 0)
          (table f m 1) slopes.up_is none
          (table_first f m continuous none some);
      falls = step_on_grid down f.order f.scale m (at f.value (f.order - 1)) (at f.value 0)
          (table f m (f.order * m - 1)) slopes.down_is none
          (table_last f m bounds continuous none some);
    }

pub mixed_by_function : (f : FunctionData) (up down : Frac) (entries columns : List Frac)
    (right : Frac) (coefficients weights : List Frac) →
    IsWithinBounds f → IsContinuous f → IsMinimal f → AreSlopesAtZero f up down →
    HasFractionalPart right (pos f.place) (pos f.order) →
    AllZip (IsValueOf f) entries coefficients →
    AllZip (IsWeight up down) columns weights →
    MixedCutHolds entries columns right coefficients weights
mixed_by_function f up down entries columns right coefficients weights bounds continuous minimal
    slopes part values are_weights
    basic others amounts e g solution least =
    let m = grid_of entries columns e in
    let some : 0 < m = grid_some entries columns e solution.over in
    let order_some : 0 < f.order = omega (arith, bounds.order_low) in
    let scale_some : 0 < f.scale = omega (arith, bounds.scale_low) in
    held_by_table (table f m) (f.order * m) (f.place * m) (f.scale * m) e (product_of columns)
    (f.order * product_of entries) up down
    entries columns right coefficients weights basic others amounts g
    (minimal_is_valid (table f m) (f.order * m) (f.place * m) (f.scale * m) (minimal m some))
    (mul-pos order_some some) (mul-pos scale_some some)
    (grid_split f.order (product_of entries) (product_of columns) e)
    (product_common columns) (part_on_grid right f.place f.order m part)
    (values_on_grid f entries coefficients m order_some some (grid_common entries columns e) values)
    (function_steps f m up down bounds continuous minimal some slopes) are_weights solution least

-- ---- by the mixed-integer cut

gmic_first : (n k : ℕ) → 0 < k → k < n → gmic_table n k 1 ≡ n - k
gmic_first n k some below =
    let one : 1 % n ≡ 1 = mod-eq_of_lt (omega arith) in
    entry_rising n k 1 (omega arith) ∙ ap (λ r. (n - k) * r) one ∙ omega arith

gmic_last : (n k : ℕ) → 0 < k → k < n → gmic_table n k (n - 1) ≡ k
gmic_last n k some below =
    let last : (n - 1) % n ≡ n - 1 = mod-eq_of_lt (omega arith) in
    ⊎_elim
    (λ (high : k < n - 1).
    let one : n - (n - 1) % n ≡ 1 = omega arith in
    entry_falling n k (n - 1) (omega arith) ∙ ap (λ r. k * r) one ∙ omega arith)
    (λ (low : n - 1 ≤ k).
    let one : n - k ≡ 1 = omega arith in
    entry_rising n k (n - 1) (omega arith) ∙ ap₂ (λ a b. a * b) one last ∙ omega arith)
    (cases_lt k (n - 1))

up_over : (p q k n : ℤ) → p *ℤ n ≡ k *ℤ q → (pos 1 *ℤ q) *ℤ k ≡ n *ℤ (pos 1 *ℤ p)
up_over p q k n e =
    ap (λ z. z *ℤ k) (one_mul_z q) ∙ mul_comm_z q k ∙ sym e ∙ mul_comm_z p n
    ∙ ap (λ z. n *ℤ z) (sym (one_mul_z p))

down_left : (p q k n : ℤ) → (pos 1 *ℤ (pos 1 *ℤ q)) *ℤ (n -ℤ k) ≡ q *ℤ n -ℤ k *ℤ q
down_left p q k n = by_ring (p ∷ q ∷ k ∷ n ∷ []) (search ring depth 40) refl

down_right : (p q k n : ℤ) → q *ℤ n -ℤ p *ℤ n ≡ n *ℤ (pos 1 *ℤ (pos 1 *ℤ q -ℤ p *ℤ pos 1))
down_right p q k n = by_ring (p ∷ q ∷ k ∷ n ∷ []) (search ring depth 40) refl

down_over : (p q k n : ℤ) → p *ℤ n ≡ k *ℤ q →
    (pos 1 *ℤ (pos 1 *ℤ q)) *ℤ (n -ℤ k) ≡ n *ℤ (pos 1 *ℤ (pos 1 *ℤ q -ℤ p *ℤ pos 1))
down_over p q k n e = down_left p q k n ∙ ap (λ z. q *ℤ n -ℤ z) (sym e) ∙ down_right p q k n

-- a slope n/k over the scale k l, with the step l
slope_over : (up : Frac) (n k l t : ℕ) (z : ℤ) → up.num *ℤ z ≡ pos n *ℤ up.den →
    pos (k * l) ≡ z *ℤ pos t → IsRatio up (pos n *ℤ pos t) (pos (k * l))
slope_over up n k l t z is scale =
    ap (λ s. up.num *ℤ s) scale ∙ sym (mul_assoc_z up.num z (pos t)) ∙ ap (λ s. s *ℤ pos t) is
    ∙ swap_last_z (pos n) up.den (pos t)

gmic_steps : (f : Frac) (q p m : ℕ) (up down : Frac) → IsInside f → 0 < p * m → p * m < q * m →
    IsRatio f (pos (p * m)) (pos (q * m)) →
    AreGmicSlopes f up down → AreSteps (table_of q p m) (q * m) (gmic_scale (q * m) (p * m)) up down
gmic_steps f q p m up down inside some below f_is slopes =
    let n = q * m in
    let k = p * m in
    let left : pos n -ℤ pos k ≡ pos (n - k) = omega (arith, ints) in
    let bottom_some : unsigned_abs (pos 1 *ℤ f.num) ≢ 0 =
    positive_some_z (pos 1 *ℤ f.num) (omega (arith, ints, inside.0)) in
    let rest_some : unsigned_abs (pos 1 *ℤ (pos 1 *ℤ f.den -ℤ f.num *ℤ pos 1)) ≢ 0 =
    positive_some_z (pos 1 *ℤ (pos 1 *ℤ f.den -ℤ f.num *ℤ pos 1)) (omega (arith, ints, inside.1)) in
    let rising : up.num *ℤ pos k ≡ pos n *ℤ up.den =
    ratio_along up.num up.den (pos 1 *ℤ f.den) (pos 1 *ℤ f.num) (pos n)
    (pos k) bottom_some slopes.up_is (up_over f.num f.den (pos k) (pos n) f_is) in
    let falling : down.num *ℤ (pos n -ℤ pos k) ≡ pos n *ℤ down.den =
    ratio_along down.num down.den (pos 1 *ℤ (pos 1 *ℤ f.den))
    (pos 1 *ℤ (pos 1 *ℤ f.den -ℤ f.num *ℤ pos 1)) (pos n) (pos n -ℤ pos k)
    rest_some slopes.down_is (down_over f.num f.den (pos k) (pos n) f_is) in
    record {
      rises = subst (λ (t : ℕ). IsRatio up (pos n *ℤ pos t) (pos (k * (n - k))))
          (sym (gmic_first n k some below))
          (slope_over up n k (n - k) (n - k) (pos k) rising refl);
      falls = subst (λ (t : ℕ). IsRatio down (pos n *ℤ pos t) (pos (k * (n - k))))
          (sym (gmic_last n k some below))
          (slope_over down n k (n - k) k (pos n -ℤ pos k) falling (ap pos (mul_comm k (n - k))
          ∙ ap (λ z. z *ℤ pos k) (sym left)));
    }

pub mixed_by_gmic : (f up down : Frac) (entries columns : List Frac) (right : Frac)
    (coefficients weights : List Frac) →
    IsInside f → AreGmicSlopes f up down → HasFractionalPart right (numerator f) (denominator f) →
    AllZip (IsGmicValue f) entries coefficients → AllZip (IsWeight up down) columns weights →
    MixedCutHolds entries columns right coefficients weights
mixed_by_gmic f up down entries columns right coefficients weights inside slopes part values
    are_weights
    basic others amounts e g solution least =
    let m = grid_of entries columns e in
    let some : 0 < m = grid_some entries columns e solution.over in
    let q = unsigned_abs (denominator f) in
    let p = unsigned_abs (numerator f) in
    let q_is : pos q ≡ denominator f = denominator_is f in
    let p_is : pos p ≡ numerator f = pos_abs_z f.num (omega (arith, ints, inside.0)) in
    let p_some : 0 < p = omega (arith, ints, inside.0) in
    let below : p < q = omega (arith, ints, inside.0, inside.1) in
    let n = q * m in
    let k = p * m in
    let k_some : 0 < k = mul-pos p_some some in
    let k_below : k < n = mul-lt-mul_of_pos_right below some in
    held_by_table (table_of q p m) n k (gmic_scale n k) e (product_of columns)
    (q * product_of entries) up down
    entries columns right coefficients weights basic others amounts g
    (minimal_is_valid (table_of q p m) n k (gmic_scale n k) (gmic_minimal n k k_some k_below))
    (mul-pos (omega arith) some) (mul-pos k_some (omega arith))
    (grid_split q (product_of entries) (product_of columns) e)
    (product_common columns)
    (part_on_grid right p q m (subst₂ (HasFractionalPart right) (sym p_is) (sym q_is) part))
    (gmics_on_grid f entries coefficients q p m q_is p_is p_some below some
    (grid_common entries columns e) values)
    (gmic_steps f q p m up down inside k_some k_below (place_over f q p m q_is p_is) slopes)
    are_weights solution least
