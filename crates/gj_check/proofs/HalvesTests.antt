-- The tests of halves, as the code makes them.
use Rattle.std.proofs.Common.{◌≡◌, ◌↔◌, ℕ, zero, suc, ◌+◌, ◌-◌, ◌*◌, ◌/◌, ◌%◌, ◌<◌, ◌≤◌, ◌^◌, ℤ, pos, ◌≤ℤ◌, ◌+ℤ◌, ◌*ℤ◌, List, [], ◌∷◌, All, length, get_or, unsigned_abs, to_z, of_z, refl, sym, ap, ap₂, subst, ◌∙◌, arith}
use mir.Syntax.{w128}
use Rattle.std.proofs.Math.Nat.{mul_comm, mul-mod_left, mul-div_left, mod-lt, mod-mod, mul-pos, mul-lt-mul_of_pos_right, eq_of_mul-eq-mul_right}
use Rattle.std.proofs.lemmas.Int.{ints, to_z-of_z}
use Rattle.gj_frac.specs.Fraction.{Fits}
use Rattle.gj_shape.specs.Perturbation.{AreHalvesInBounds}
use Rattle.gj_lemmas.proofs.Ring.{by_ring, ring}
use Rattle.gj_shape.specs.FunctionData.{FunctionData, IsWithinBounds, IsContinuous, at}
use Rattle.gj_shape.specs.Limits.{IsNumerator, greatest_halves_scale}
use Rattle.gj_shape.specs.Table.{table, entry, IsMinimalTable}
use Rattle.gj_shape.specs.declared.extremality.Halves.{Halves}
use Rattle.gj_shape.proofs.AtLemmas.{at_below}
use Rattle.gj_shape.proofs.TableLemmas.{left_is_value, right_is_value}
use Rattle.gj_theory.proofs.Everywhere.{everywhere, at_same}
use Rattle.gj_proof.specs.Rules.{MeetsScale, MeetsRange, MeetsAverage, IsMinimalHalf}
use Rattle.gj_check_minimal.specs.Tables.{IsTableInRange}
use Rattle.gj_check.specs.HalvesRules.{IsRefinement, IsHalvesRefinement, IsBetween}
use Rattle.gj_check.specs.declared.halves.Refinement.{Refinement}

-- ---- multiples

-- a multiple leaves no rest
pub no_rest : (n q m : ℕ) → n ≡ q * m → n % q ≡ 0
no_rest n q m e = ap (λ k. k % q) (e ∙ mul_comm q m) ∙ mul-mod_left m q

pub quotient_of_multiple : (n q m : ℕ) → 0 < q → n ≡ q * m → n / q ≡ m
quotient_of_multiple n q m some e = ap (λ k. k / q) (e ∙ mul_comm q m) ∙ mul-div_left m some

pub no_rest_by : (x u t n s m : ℕ) → x ≡ n * (s * m) → u ≡ s → t ≡ m → x % (u * t) ≡ 0
no_rest_by x u t n s m e f g = ap₂ (λ a b. a % b) e (ap₂ (λ a b. a * b) f g)
    ∙ mul-mod_left n (s * m)

-- the factors are one
same_factor : (a b n : ℕ) → 0 < n → n * a ≡ n * b → a ≡ b
same_factor a b n some e = eq_of_mul-eq-mul_right n some a b (mul_comm a n ∙ e ∙ mul_comm n b)

pub same_times : (f : FunctionData) (n : ℕ) (s : ℤ) (r : Refinement) (m : ℕ) → IsWithinBounds f →
    IsRefinement f n s r → n ≡ f.order * m → r.times ≡ m
same_times f n s r m l is e =
    let low = l.order_low in
    same_factor r.times m f.order (omega arith) (sym is.order ∙ e)

pub some_times : (f : FunctionData) (n : ℕ) (s : ℤ) (r : Refinement) → 0 < n →
    IsRefinement f n s r → 0 < r.times
some_times f n s r some is = by_order r.times is.order
  where
    by_order : (t : ℕ) → n ≡ f.order * t → 0 < t
    by_order zero e = absurd (omega (arith, some, e))
    by_order (suc t) e = omega arith

-- the number of times and the factor are one
pub same_refinement : (f : FunctionData) (n : ℕ) (s : ℤ) (r : Refinement) (m c : ℕ) →
    IsWithinBounds f → 0 < n → IsRefinement f n s r →
    n ≡ f.order * m → s ≡ pos (c * (f.scale * m)) → (r.times ≡ m) × (r.factor ≡ c)
same_refinement f n s r m c l some is order scale =
    let times = same_times f n s r m l is order in
    let own = is.scale in
    let other : s ≡ pos (c * (f.scale * r.times)) =
    scale ∙ ap (λ t. pos (c * (f.scale * t))) (sym times) in
    let both : r.factor * (f.scale * r.times) ≡ c * (f.scale * r.times) = omega (arith, ints) in (
      times,
      eq_of_mul-eq-mul_right (f.scale * r.times)
          (mul-pos l.scale_low (some_times f n s r some is)) r.factor c both,
    )

-- ---- averages

-- the rule `average` by the refinement
pub average_by : (f : FunctionData) (h : Halves) (r : Refinement) (i : ℕ) → IsWithinBounds f →
    AreHalvesInBounds h → IsHalvesRefinement f h r →
    (at h.first i +ℤ at h.second i ≡ pos (2 * r.factor) *ℤ table f r.times i) ↔ MeetsAverage f h i
average_by f h r i l b is = (
  λ e m c order scale.
      let low = b.order_low in
      let same = same_refinement f h.order h.scale r m c l (omega arith) is order scale in
      e ∙ ap₂ (λ k t. pos (2 * k) *ℤ table f t i) same.1 same.0,
  λ h. h r.times r.factor is.order is.scale,
)

-- ---- an entry of the table

value_z : (m : ℕ) (x y : ℤ) → x *ℤ pos m +ℤ y *ℤ pos 0 ≡ pos m *ℤ x
value_z m x y = by_ring (pos m ∷ x ∷ y ∷ []) (search ring depth 30) refl

between_z : (u s : ℕ) (x y : ℤ) → x *ℤ pos u +ℤ y *ℤ pos s ≡ pos u *ℤ x +ℤ pos s *ℤ y
between_z u s x y = by_ring (pos u ∷ pos s ∷ x ∷ y ∷ []) (search ring depth 30) refl

entry_by_values : (f : FunctionData) (m a r : ℕ) → IsContinuous f →
    at f.value a *ℤ pos (m - r) +ℤ at f.value (a + 1) *ℤ pos r ≡ entry f m a r
entry_by_values f m a zero h =
    let whole : m - zero ≡ m = omega arith in
    ap (λ n. at f.value a *ℤ pos n +ℤ at f.value (a + 1) *ℤ pos 0) whole
    ∙ value_z m (at f.value a) (at f.value (a + 1))
entry_by_values f m a (suc r) h =
    between_z (m - suc r) (suc r) (at f.value a) (at f.value (a + 1))
    ∙ ap₂ (λ x y. pos (m - suc r) *ℤ x +ℤ pos (suc r) *ℤ y) (sym (right_is_value f a h))
    (sym (left_is_value f (a + 1) h))

pub table_by_values : (f : FunctionData) (m i : ℕ) → IsContinuous f →
    at f.value (i / m) *ℤ pos (m - i % m) +ℤ at f.value (i / m + 1) *ℤ pos (i % m) ≡ table f m i
unfolding table
table_by_values f m i h = entry_by_values f m (i / m) (i % m) h

-- ---- a half

-- the values of a half are in range
pub half_in_range : (f : FunctionData) (h : Halves) (r : Refinement) (values : List ℤ) →
    IsWithinBounds f → AreHalvesInBounds h →
    IsHalvesRefinement f h r → length values ≡ h.order →
    ((i : ℕ) → i < h.order → IsBetween (at values i) h.scale) →
    IsTableInRange values (f.place * r.times) h.scale
half_in_range f h r values l b is len range =
    let low = b.order_low in
    let high = b.order_high in
    let order = is.order in
    let within = mul-lt-mul_of_pos_right l.place_high
    (some_times f h.order h.scale r (omega arith) is) in
    let all = everywhere (λ x. IsBetween x h.scale) values h.order len (omega arith) range in
    record {
      place_below = omega arith;
      few = omega arith;
      low = λ i. (all i).0;
      high = λ i. (all i).1;
      scale_high = b.scale_high;
    }

-- the rule on a half by the refinement
pub half_by : (f : FunctionData) (h : Halves) (r : Refinement) (values : List ℤ) →
    IsWithinBounds f → IsHalvesRefinement f h r →
    length values ≡ h.order →
    IsMinimalTable (at values) (length values) (f.place * r.times) (unsigned_abs h.scale)
    ↔ IsMinimalHalf f h values
half_by f h r values l is len = (
  λ t m order.
      subst (λ (n : ℕ). IsMinimalTable (at values) n (f.place * m) (unsigned_abs h.scale)) len
      (subst (λ (k : ℕ). IsMinimalTable (at values) (length values) (f.place * k)
      (unsigned_abs h.scale)) (same_times f h.order h.scale r m l is order) t),
  λ half. subst (λ (n : ℕ). IsMinimalTable (at values) n (f.place * r.times) (unsigned_abs h.scale))
      (sym len) (half r.times is.order),
)

-- ---- different values

-- lists that agree below their length agree everywhere
pub same_everywhere : (xs ys : List ℤ) → 0 < length xs → length xs ≡ length ys →
    ((i : ℕ) → i < length xs → at xs i ≡ at ys i) →
    (i : ℕ) → at xs i ≡ at ys i
same_everywhere xs ys some len same i =
    let n = length xs in
    at_same xs i (i % n) n refl (sym (mod-mod i n)) ∙ same (i % n) (mod-lt i some)
    ∙ at_same ys (i % n) i n (sym len) (mod-mod i n)

-- ---- what the code reads

-- a sum of two products
pub sum_of_parts : (x y p q a b : ℤ) (u s : ℕ) → IsNumerator a → IsNumerator b → x ≡ a → y ≡ b →
    p ≡ to_z w128 (of_z w128 x) *ℤ pos u → q ≡ to_z w128 (of_z w128 y) *ℤ pos s →
    unsigned_abs p ≤ 2 ^ 94 → unsigned_abs q ≤ 2 ^ 94 →
    to_z w128 (of_z w128 (to_z w128 (of_z w128 p) +ℤ to_z w128 (of_z w128 q)))
    ≡ a *ℤ pos u +ℤ b *ℤ pos s
sum_of_parts x y p q a b u s a_small b_small x_is y_is p_is q_is p_fits q_fits =
    let x_read : to_z w128 (of_z w128 x) ≡ a = omega (arith, ints) in
    let y_read : to_z w128 (of_z w128 y) ≡ b = omega (arith, ints) in
    let first = p_is ∙ ap (λ z. z *ℤ pos u) x_read in
    let second = q_is ∙ ap (λ z. z *ℤ pos s) y_read in
    let whole : to_z w128 (of_z w128 (to_z w128 (of_z w128 p) +ℤ to_z w128 (of_z w128 q)))
    ≡ p +ℤ q = omega (arith, ints) in
    whole ∙ ap₂ (λ n m. n +ℤ m) first second

-- a value of a half
pub half_read : (h : Halves) (values slice : List ℤ) (i : ℕ) → slice ≡ values →
    length values ≡ h.order → All Fits values → i < h.order →
    to_z w128 (of_z w128 (get_or slice i (pos 0))) ≡ at values i
half_read h values slice i same len fit below =
    let low : i < length values = omega arith in
    let small = fit i (pos 0) low in
    ap (λ xs. to_z w128 (of_z w128 (get_or xs i (pos 0)))) same
    ∙ to_z-of_z w128 (get_or values i (pos 0)) (omega (arith, ints)) ∙ sym (at_below values i low)

-- the scale of halves
pub halves_scale_read : (s : ℤ) → pos 1 ≤ℤ s → s ≤ℤ pos greatest_halves_scale →
    to_z w128 (of_z w128 s) ≡ s
halves_scale_read s low high = omega (arith, ints)

-- the sum of both values of a pair
pub sum_of_halves : (h : Halves) (i : ℕ) (x y : ℤ) → AreHalvesInBounds h → MeetsRange h i →
    x ≡ at h.first i → y ≡ at h.second i →
    to_z w128 (of_z w128 (x +ℤ y)) ≡ at h.first i +ℤ at h.second i
sum_of_halves h i x y b m x_is y_is =
    let high = b.scale_high in
    let first_low = m.first_low in
    let first_high = m.first_high in
    let second_low = m.second_low in
    let second_high = m.second_high in
    to_z-of_z w128 (x +ℤ y) (omega (arith, ints)) ∙ ap₂ (λ a b. a +ℤ b) x_is y_is

-- the rule `scale`
pub scale_met : (f : FunctionData) (h : Halves) (r : Refinement) → IsHalvesRefinement f h r →
    MeetsScale f h
scale_met f h r is = (r.times, r.factor, is.order, is.scale)
