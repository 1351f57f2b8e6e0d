-- The function's values by the numbers of the demonstration: it is minimal, not extreme, and of a
-- small scale.
use Rattle.std.proofs.Common.{◌≡◌, ℕ, ◌+◌, ◌*◌, ◌%◌, ◌<◌, ◌≤◌, ℤ, pos, ◌+ℤ◌, ◌*ℤ◌, ◌++◌, get_or, All, unsigned_abs, inl, refl, sym, ap, ap₂, ◌∙◌, subst₂, arith}
use Rattle.std.proofs.Math.Nat.{mod-lt, mul-one, one-mul, mul_comm, eq_of_mul-eq-mul_right, le_of_dvd}
use Rattle.std.specs.Int.{IsGcd, ◌∣◌}
use Rattle.std.proofs.lemmas.Int.{ints, unsigned_abs-mul}
use Rattle.std.proofs.lemmas.List.{get_or_default}
use Rattle.std.proofs.lemmas.List.Elements.{All-same, All-append}
use Rattle.gj_lemmas.proofs.Divisors.{cofactor, divides_product, gcd_exists, gcd_positive, gcd_quotients, gauss}
use Rattle.gj_lemmas.proofs.Integers.{mul_cancel_right_z, add_mul_z, mul_comm_z}
use Rattle.gj_shape.specs.Additive.{IsTight}
use Rattle.gj_shape.specs.Extreme.{IsExtreme, AverageTo}
use Rattle.gj_shape.specs.FunctionData.{FunctionData, IsWithinBounds, IsContinuous, at}
use Rattle.gj_shape.specs.Table.{table, IsMinimalTable, IsMinimalOnGrid, IsMinimal}
use Rattle.gj_shape.proofs.AtLemmas.{at_below, at_wrapped}
use Rattle.gj_shape.proofs.TableLemmas.{table_of_order}
use Rattle.gj_theory.proofs.Continuous.{minimal_from_own_grid}
use Rattle.gj_demo.specs.Demo.{IsDemo}
use Rattle.gj_demo.proofs.MinimalTables.{AreMultiples, multiple_minimal}
use Rattle.gj_demo.proofs.Numbers.{tent, number_at, tent_rising}
use Rattle.gj_demo.proofs.Halves.{alternation, alternation_odd, numbers_are_sums, numbers_minimal, tent_minimal, alternation_minimal}

-- a value at any index, over the order
pub value_at : (n : ℕ) (f : FunctionData) (i : ℕ) → IsDemo n f → IsWithinBounds f →
    at f.value i *ℤ pos (2 * (2 * n + 1)) ≡ pos (f.scale * number_at (2 * n + 1) i)
unfolding number_at
value_at n f i h bounds =
    let q = 2 * (2 * n + 1) in
    let order = h.order in
    let some : 0 < q = omega arith in
    let small = mod-lt i some in
    ap (λ z. z *ℤ pos q) (sym (at_wrapped f.value i (i % q) q (bounds.value_length ∙ order) refl))
    ∙ h.value_is (i % q) (omega arith)

pub demo_continuous : (n : ℕ) (f : FunctionData) → IsDemo n f → IsContinuous f
demo_continuous n f h = (h.left, h.right)

-- if the numbers add up, the pair is tight
pub tight_by_numbers : (n : ℕ) (f : FunctionData) (a b : ℕ) → IsDemo n f → IsWithinBounds f →
    number_at (2 * n + 1) a + number_at (2 * n + 1) b ≡ number_at (2 * n + 1) (a + b) →
    IsTight f a b
tight_by_numbers n f a b h bounds e =
    let k = 2 * n + 1 in
    let q = pos (2 * k) in
    let parts : f.scale * number_at k a + f.scale * number_at k b ≡ f.scale * number_at k (a + b) =
    omega arith ∙ ap (λ m. f.scale * m) e in
    mul_cancel_right_z (at f.value a +ℤ at f.value b) (at f.value (a + b)) q
    (add_mul_z (at f.value a) (at f.value b) q
    ∙ ap₂ (λ x y. x +ℤ y) (value_at n f a h bounds) (value_at n f b h bounds)
    ∙ ap pos parts ∙ sym (value_at n f (a + b) h bounds)) (omega arith)

-- ---- minimal

-- the values are multiples of the sums of the two tables
values_are_multiples : (n : ℕ) (f : FunctionData) → IsDemo n f → IsWithinBounds f →
    AreMultiples (2 * (2 * n + 1)) f.scale (table f 1)
    (λ i. pos (tent (2 * n + 1) i) +ℤ pos (alternation (2 * n + 1) i))
values_are_multiples n f h bounds =
    let k = 2 * n + 1 in
    record {
      some = omega arith;
      same = λ i.
          let e = numbers_are_sums k i in
          let turned : f.scale * number_at k i ≡ (tent k i + alternation k i) * f.scale =
          ap (λ m. f.scale * m) e ∙ omega arith in
          ap (λ z. z *ℤ pos (2 * k)) (table_of_order f i) ∙ value_at n f i h bounds ∙ ap pos turned
          ∙ omega (arith, ints);
    }

own_grid_minimal : (n : ℕ) (f : FunctionData) → IsDemo n f → IsWithinBounds f → IsMinimalOnGrid f 1
own_grid_minimal n f h bounds =
    let k = 2 * n + 1 in
    let order : f.order * 1 ≡ 2 * k = mul-one f.order ∙ h.order in
    let place : f.place * 1 ≡ k = mul-one f.place ∙ h.place in
    rw (order, place)
    (multiple_minimal (2 * k) f.scale (table f 1) (λ i. pos (tent k i) +ℤ pos (alternation k i))
    (2 * k) k (f.scale * 1) (2 * k)
    (values_are_multiples n f h bounds) (omega (arith, ints)) (numbers_minimal n))

pub demo_minimal : (n : ℕ) (f : FunctionData) → IsDemo n f → IsWithinBounds f → IsMinimal f
demo_minimal n f h bounds = minimal_from_own_grid f bounds (demo_continuous n f h)
    (own_grid_minimal n f h bounds)

-- ---- not extreme

-- a multiple of a minimal table
times_minimal : (t : ℕ → ℤ) (n k r s c : ℕ) → s ≡ c * r → IsMinimalTable t n k r →
    IsMinimalTable (λ i. t i *ℤ pos c) n k s
times_minimal t n k r s c e h =
    multiple_minimal 1 c (λ i. t i *ℤ pos c) t n k s r
    (record { some = omega arith; same = λ i. omega (arith, ints) })
    (omega (arith, ints)) h

-- the two tables, each times the scale, average to the values
halves_average : (n : ℕ) (f : FunctionData) → IsDemo n f → IsWithinBounds f →
    AverageTo (2 * n + 1) (λ i. pos (tent (2 * n + 1) i) *ℤ pos f.scale)
    (λ i. pos (alternation (2 * n + 1) i) *ℤ pos f.scale) (table f 1)
halves_average n f h bounds i =
    let k = 2 * n + 1 in
    let m = values_are_multiples n f h bounds in
    let split = add_mul_z (pos (tent k i)) (pos (alternation k i)) (pos f.scale) in
    sym split ∙ sym (m.same i) ∙ mul_comm_z (table f 1 i) (pos (2 * k))

-- they differ at 1
halves_differ : (n : ℕ) (s : ℕ) → 1 ≤ n → 0 < s →
    pos (tent (2 * n + 1) 1) *ℤ pos s ≡ pos (alternation (2 * n + 1) 1) *ℤ pos s → ⊥
halves_differ n s some s_some same =
    let k = 2 * n + 1 in
    let first = tent_rising k 1 (omega arith) (omega arith) in
    let second = alternation_odd k 1 refl in
    let e = mul_cancel_right_z (pos (tent k 1)) (pos (alternation k 1)) (pos s) same
    (omega arith) in
    omega (arith, ints)

pub demo_not_extreme : (n : ℕ) (f : FunctionData) → 1 ≤ n → IsDemo n f → IsWithinBounds f →
    IsExtreme f → ⊥
demo_not_extreme n f some h bounds extreme =
    let k = 2 * n + 1 in
    let order : f.order * 1 ≡ 2 * k = mul-one f.order ∙ h.order in
    let place : f.place * 1 ≡ k = mul-one f.place ∙ h.place in
    let own = rw (order, place) at (extreme 1 (omega arith)) in
    let scale : k * (f.scale * 1) ≡ f.scale * k = ap (λ s. k * s) (mul-one f.scale)
    ∙ mul_comm k f.scale in
    halves_differ n f.scale some bounds.scale_low
    (own.no_average k (λ i. pos (tent k i) *ℤ pos f.scale)
    (λ i. pos (alternation k i) *ℤ pos f.scale) (omega arith)
    (times_minimal (λ i. pos (tent k i)) (2 * k) k k (k * (f.scale * 1)) f.scale scale
    (tent_minimal k (omega arith)))
    (times_minimal (λ i. pos (alternation k i)) (2 * k) k k (k * (f.scale * 1)) f.scale scale
    (alternation_minimal n))
    (halves_average n f h bounds) 1)

-- ---- the scale

-- s/g divides v if v q is s w, and g is the greatest common divisor of s and q
quotient_divides : (v : ℤ) (q s w g a b : ℕ) → IsGcd s q g → 0 < g → s ≡ a * g → q ≡ b * g →
    v *ℤ pos q ≡ pos (s * w) →
    a ∣ unsigned_abs v
quotient_divides v q s w g a b gcd some s_is q_is e =
    let sizes : unsigned_abs v * q ≡ s * w = sym (unsigned_abs-mul v (pos q)) ∙ ap unsigned_abs e in
    let apart : IsGcd a b 1 =
    gcd_quotients a b g (subst₂ (λ x y. IsGcd x y g) s_is q_is gcd) some in
    let left : unsigned_abs v * q ≡ b * unsigned_abs v * g = ap (λ m. unsigned_abs v * m) q_is
    ∙ omega arith in
    let right : s * w ≡ a * w * g = ap (λ m. m * w) s_is ∙ omega arith in
    let both : b * unsigned_abs v ≡ a * w =
    eq_of_mul-eq-mul_right g some (b * unsigned_abs v) (a * w) (sym left ∙ sizes ∙ right) in
    gauss a b (unsigned_abs v) apart (divides_product a (b * unsigned_abs v) w both)

pub demo_scale_divides : (n : ℕ) (f : FunctionData) → IsDemo n f → IsWithinBounds f →
    f.scale ∣ f.order
demo_scale_divides n f h bounds =
    let q = 2 * (2 * n + 1) in
    let (g, gcd) = gcd_exists f.scale q in
    let (a, s_is) = cofactor g f.scale gcd.0 in
    let (b, q_is) = cofactor g q gcd.1 in
    let g_some : 0 < g = gcd_positive f.scale q g gcd (inl bounds.scale_low) in
    let s_by : f.scale ≡ a * g = s_is ∙ mul_comm g a in
    let q_by : q ≡ b * g = q_is ∙ mul_comm g b in
    let Divided : ℤ → Type 0 = λ v. a ∣ unsigned_abs v in
    let values : All Divided f.value = λ i d below.
    quotient_divides (get_or f.value i d) q f.scale (number_at (2 * n + 1) i) g a b gcd g_some s_by
    q_by
    (ap (λ z. z *ℤ pos q) (get_or_default f.value i d (pos 0) below
    ∙ sym (at_below f.value i below)) ∙ value_at n f i h bounds) in
    let left : All Divided f.left = All-same Divided f.left f.value h.left values in
    let right : All Divided f.right = All-same Divided f.right f.value h.right values in
    let one : a ≡ 1 = bounds.lowest a (divides_product a f.scale g s_by)
    (All-append Divided (f.left ++ f.value) f.right (All-append Divided f.left f.value left values)
    right) in
    let same : f.scale ≡ g = s_by ∙ ap (λ m. m * g) one ∙ one-mul g in
    subst₂ (λ x y. x ∣ y) (sym same) (sym h.order) gcd.1

pub demo_scale_small : (n : ℕ) (f : FunctionData) → IsDemo n f → IsWithinBounds f →
    f.scale ≤ f.order
demo_scale_small n f h bounds =
    let low = bounds.order_low in
    le_of_dvd (omega arith) (demo_scale_divides n f h bounds)
