-- What a violation shows, at points in lowest terms.
use Rattle.std.proofs.Common.{◌≡◌, ◌≢◌, ℕ, zero, suc, ◌+◌, ◌-◌, ◌*◌, ◌<◌, ◌≤◌, ℤ, pos, negsuc, ◌+ℤ◌, ◌*ℤ◌, ◌<ℤ◌, [], ◌∷◌, unsigned_abs, refl, ap, ap₂, sym, ◌∙◌, arith}
use Rattle.std.proofs.Math.Nat.{mul_assoc, mul_comm, mul_right_comm, mul-pos, add-mul, le_of_mul-le-mul_right}
use Rattle.std.proofs.lemmas.Int.{ints}
use Rattle.gj_frac.specs.declared.Frac.{Frac}
use Rattle.gj_frac.specs.Fraction.{IsRatio}
use Rattle.gj_lemmas.proofs.Integers.{mul_add_z, mul_cancel_left_z, mul_lt_mul_left_z, mul_lt_cancel_left_z}
use Rattle.gj_lemmas.proofs.Ring.{by_ring, ring}
use Rattle.gj_shape.specs.FunctionData.{FunctionData, at}
use Rattle.gj_shape.specs.Table.{table}
use Rattle.gj_shape.specs.FirstViolation.{IsOnGrid, IsNegativeOnGrid, IsSuperadditiveOnGrid}
use Rattle.gj_shape.specs.Violation.{IsPoint, value_of, ShowsViolation}
use Rattle.gj_shape.specs.declared.violations.Violation.TheVariants as violation
use Rattle.gj_shape.proofs.TableLemmas.{table_of_order, table_finer}
use Rattle.gj_theory.proofs.TestsFromMinimal.{opposite_on_grid}

-- ---- points in lowest terms

-- the parts of a fraction equal to i/q are not negative
parts_of : (n d : ℤ) (i q : ℕ) → 0 < q → pos 0 <ℤ d → n *ℤ pos q ≡ pos i *ℤ d →
    (n ≡ pos (unsigned_abs n)) × (d ≡ pos (unsigned_abs d)) × (0 < unsigned_abs d)
    × (unsigned_abs n * q ≡ i * unsigned_abs d)
parts_of (pos n) (pos d) i q some positive e =
    (refl, refl, omega (arith, ints), omega (arith, ints, e))
parts_of (negsuc n) (pos d) i zero some positive e = absurd (omega arith)
parts_of (negsuc n) (pos d) i (suc q) some positive e = absurd (omega (arith, ints, e))
parts_of n (negsuc d) i q some positive e = absurd (omega (arith, ints))

-- x is the point n/d in lowest terms, and equal to i/q
pub record IsLowestPoint (x : Frac) (i q n d : ℕ) : Type 0 where
  pub point : IsPoint x n d
  pub equal : n * q ≡ i * d

-- a fraction equal to i/q is a point n/d
pub point_of : (x : Frac) (i q : ℕ) → 0 < q → IsRatio x (pos i) (pos q) →
    (n d : ℕ) × IsLowestPoint x i q n d
point_of x i q some h =
    let parts = parts_of x.num x.den i q some x.lowest.positive h in (
      unsigned_abs x.num,
      unsigned_abs x.den,
      record {
        point = record { numerator_is = parts.0; denominator_is = parts.1; positive = parts.2 };
        equal = parts.3;
      },
    )

-- n/d = i/q with both parts of n/d times e
scaled_first : (n d i q e : ℕ) → n * q ≡ i * d → n * e * q ≡ i * (d * e)
scaled_first n d i q e h = mul_right_comm n e q ∙ ap (λ k. k * e) h ∙ mul_assoc i d e

-- the same with the factor on the other side
scaled_second : (m e j q d : ℕ) → m * q ≡ j * e → m * d * q ≡ j * (d * e)
scaled_second m e j q d h = scaled_first m e j q d h ∙ ap (λ k. j * k) (mul_comm e d)

-- the sum of n/d = i/q and m/e = j/q
scaled_sum : (n d i m e j q : ℕ) → n * q ≡ i * d → m * q ≡ j * e →
    (n * e + m * d) * q ≡ (i + j) * (d * e)
scaled_sum n d i m e j q h k =
    let first = scaled_first n d i q e h in
    let second = scaled_second m e j q d k in
    add-mul (n * e) (m * d) q ∙ ap (λ a. a + m * d * q) first ∙ ap (λ b. i * (d * e) + b) second
    ∙ sym (add-mul i j (d * e))

-- ---- one value at one point

-- two tables at places where the table of the grid that holds both has one entry
pub same_on_both : (f : FunctionData) (h d i k : ℕ) → 0 < h → 0 < d →
    table f (h * d) (k * h) ≡ table f (h * d) (i * d) →
    pos h *ℤ table f d k ≡ pos d *ℤ table f h i
same_on_both f h d i k h_some d_some e =
    sym (table_finer f d h k d_some h_some) ∙ ap (λ n. table f n (k * h)) (mul_comm d h) ∙ e
    ∙ table_finer f h d i h_some d_some

-- so at one point: k/(order d) = i/(order h)
pub same_place : (f : FunctionData) (h d i k : ℕ) → 0 < h → 0 < d → k * h ≡ i * d →
    pos h *ℤ table f d k ≡ pos d *ℤ table f h i
same_place f h d i k h_some d_some e = same_on_both f h d i k h_some d_some (ap (table f (h * d)) e)

-- the value at n/d = i/(order h)
pub value_at_place : (f : FunctionData) (h i n d : ℕ) → 0 < h → 0 < d → n * (f.order * h) ≡ i * d →
    pos h *ℤ value_of f n d ≡ pos d *ℤ table f h i
value_at_place f h i n d h_some d_some e =
    same_place f h d i (n * f.order) h_some d_some (mul_assoc n f.order h ∙ e)

-- the values at n/d = i/(order h) and m/e = j/(order h), and at their sum
pub pair_at_places : (f : FunctionData) (h i j n d m e : ℕ) → 0 < h → 0 < d → 0 < e →
    n * (f.order * h) ≡ i * d → m * (f.order * h) ≡ j * e →
    (pos h *ℤ (value_of f (n * e) (d * e) +ℤ value_of f (m * d) (d * e))
    ≡ pos (d * e) *ℤ (table f h i +ℤ table f h j))
    × (pos h *ℤ value_of f (n * e + m * d) (d * e) ≡ pos (d * e) *ℤ table f h (i + j))
pair_at_places f h i j n d m e h_some d_some e_some x_place y_place =
    let bottom = mul-pos d_some e_some in
    let first = value_at_place f h i (n * e) (d * e) h_some bottom
    (scaled_first n d i (f.order * h) e x_place) in
    let second = value_at_place f h j (m * d) (d * e) h_some bottom
    (scaled_second m e j (f.order * h) d y_place) in (
      mul_add_z (pos h) (value_of f (n * e) (d * e)) (value_of f (m * d) (d * e))
          ∙ ap₂ (λ v w. v +ℤ w) first second
          ∙ sym (mul_add_z (pos (d * e)) (table f h i) (table f h j)),
      value_at_place f h (i + j) (n * e + m * d) (d * e) h_some bottom
          (scaled_sum n d i m e j (f.order * h) x_place y_place),
    )

-- ---- what fails on a grid is shown at points

-- from k x < y, if k x ≡ d x' and so on, to x' < y'
pub below_scaled : (h d : ℕ) (x y x' y' : ℤ) → 0 < h → 0 < d → pos h *ℤ x' ≡ pos d *ℤ x →
    pos h *ℤ y' ≡ pos d *ℤ y →
    x <ℤ y → x' <ℤ y'
below_scaled h d x y x' y' h_some d_some e g less =
    let scaled = mul_lt_mul_left_z x y (pos d) (omega (arith, ints)) less in
    mul_lt_cancel_left_z x' y' (pos h) (omega (arith, ints)) (rw (e, g) scaled)

pub shows_zero : (f : FunctionData) → at f.value 0 ≢ pos 0 → ShowsViolation f violation.Zero
shows_zero f differs = λ e. differs (sym (table_of_order f 0) ∙ ap (table f 1) (omega arith) ∙ e)

pub shows_negative : (f : FunctionData) (h i : ℕ) (x : Frac) → 0 < f.order → 0 < h →
    IsOnGrid f h i x →
    IsNegativeOnGrid f h i → ShowsViolation f (violation.Negative x)
shows_negative f h i x some h_some is negative =
    let (n, d, p) = point_of x i (f.order * h) (mul-pos some h_some) is in
    let value = value_at_place f h i n d h_some p.point.positive p.equal in
    let below = below_scaled h d (table f h i) (pos 0) (value_of f n d)
    (pos 0) h_some p.point.positive value
    (omega (arith, ints)) negative in
    (n, d, record { point = p.point; below = below })

pub shows_superadditive : (f : FunctionData) (h i j : ℕ) (x y : Frac) → 0 < f.order → 0 < h →
    IsOnGrid f h i x →
    IsOnGrid f h j y → IsSuperadditiveOnGrid f h i j →
    ShowsViolation f (violation.Superadditive x y)
shows_superadditive f h i j x y some h_some is_x is_y less =
    let grid = mul-pos some h_some in
    let (n, d, p) = point_of x i (f.order * h) grid is_x in
    let (m, e, r) = point_of y j (f.order * h) grid is_y in
    let places = pair_at_places f h i j n d m e h_some p.point.positive r.point.positive p.equal
    r.equal in
    let below = below_scaled h (d * e) (table f h i +ℤ table f h j) (table f h (i + j))
    (value_of f (n * e) (d * e) +ℤ value_of f (m * d) (d * e))
    (value_of f (n * e + m * d) (d * e)) h_some
    (mul-pos p.point.positive r.point.positive) places.0 places.1 less in
    (n, d, m, e, record { first = p.point; second = r.point; below = below })

-- n/d = i/(order h), so the place opposite to i/(order h) is on the grid of n/d
opposite_place : (n d i j q k h : ℕ) → 0 < h → n * (q * h) ≡ i * d → i + j ≡ (k + q) * h →
    (o : ℕ) × (n * q + o ≡ (k + q) * d) × (o * h ≡ j * d)
opposite_place n d i j q k h some e whole =
    let scaled : i * d + j * d ≡ (k + q) * d * h = omega (arith, ap (λ x. x * d) whole) in
    let first : n * q * h ≡ i * d = mul_assoc n q h ∙ e in
    let low : n * q * h ≤ (k + q) * d * h = omega arith in
    let fits : n * q ≤ (k + q) * d = le_of_mul-le-mul_right low some in
    let o = (k + q) * d - n * q in
    let together : n * q + o ≡ (k + q) * d = omega arith in
    (o, together, omega (arith, ap (λ x. x * h) together))

pub scales_swapped : (h d s : ℕ) → pos h *ℤ pos (s * d) ≡ pos d *ℤ pos (s * h)
scales_swapped h d s = by_ring (pos h ∷ pos d ∷ pos s ∷ []) (search ring depth 20) refl

pub shows_asymmetric : (f : FunctionData) (h i j : ℕ) (x : Frac) → 0 < f.order → 0 < h →
    IsOnGrid f h i x →
    i + j ≡ (f.place + f.order) * h → table f h i +ℤ table f h j ≢ pos (f.scale * h) →
    ShowsViolation f (violation.Asymmetric x)
shows_asymmetric f h i j x some h_some is whole differs =
    let (n, d, p) = point_of x i (f.order * h) (mul-pos some h_some) is in
    let (o, opposite, same) = opposite_place n d i j f.order f.place h h_some p.equal whole in
    let first = value_at_place f h i n d h_some p.point.positive p.equal in
    let second = same_place f h d j o h_some p.point.positive same in
    let both = mul_add_z (pos d) (table f h i) (table f h j)
    ∙ ap₂ (λ v w. v +ℤ w) (sym first) (sym second)
    ∙ sym (mul_add_z (pos h) (value_of f n d) (table f d o)) in
    let differs_there : value_of f n d +ℤ table f d o ≢ pos (f.scale * d) = λ e.
    differs
    (mul_cancel_left_z _ _ (pos d) (both ∙ ap (λ z. pos h *ℤ z) e ∙ scales_swapped h d f.scale)
    (omega (arith, p.point.positive))) in
    let turned = opposite_on_grid f.place f.order d (n * f.order) o opposite in
    (n, d, o, record { point = p.point; opposite = turned; differs = differs_there })
