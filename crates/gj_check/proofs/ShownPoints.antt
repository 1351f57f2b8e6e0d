-- What the values at the points of a violation say of it.
use Rattle.std.proofs.Common.{◌≡◌, ◌≢◌, ℕ, zero, suc, subst₂, ◌+◌, ◌-◌, ◌*◌, ◌/◌, ◌%◌, ◌<◌, ◌≤◌, ◌^◌, ◌↔◌, ℤ, pos, ◌+ℤ◌, ◌-ℤ◌, ◌*ℤ◌, ◌<ℤ◌, unsigned_abs, get_or, [], ◌∷◌, sym, ap, subst, ◌∙◌, arith}
use Rattle.std.specs.Int.{◌∣◌}
use Rattle.std.proofs.Math.Nat.{mul-pos, mul_comm, div-mul_cancel, mul-le-mul_right, le_of_mul-le-mul_right, mul-lt-mul_of_pos_right, add-mod_right}
use Rattle.std.proofs.lemmas.Nat.Gcd.{le_of_dvd}
use Rattle.std.proofs.lemmas.Int.{ints, unsigned_abs-mul}
use Rattle.std.proofs.lemmas.List.Elements.{All-nil, All-head, All-tail}
use Rattle.gj_frac.specs.declared.Frac.{Frac}
use Rattle.gj_frac.specs.Fraction.{IsRatio, SameValue, LessValue, fraction_of, sum_of, numerator, denominator}
use Rattle.gj_frac.specs.Fits.{FitsSum}
use Rattle.gj_lemmas.proofs.Integers.{sub_mul_z}
use Rattle.gj_frac.proofs.OneDenominator.{denominator_divides_each, over_one_denominator}
use Rattle.gj_lemmas.proofs.Quotients.{from_same_remainder}
use Rattle.gj_shape.specs.FunctionData.{FunctionData, IsWithinBounds, at}
use Rattle.gj_shape.specs.Table.{table}
use Rattle.gj_shape.specs.Values.{IsValueAt}
use Rattle.gj_shape.specs.Violation.{IsPoint, value_of, ShowsViolation}
use Rattle.gj_shape.specs.declared.violations.Violation.{Violation}
use Rattle.gj_shape.specs.declared.violations.Violation.TheVariants as violation
use Rattle.gj_shape.proofs.AtLemmas.{at_below}
use Rattle.gj_shape.proofs.LeastDenominator.{denominator_some}
use Rattle.gj_shape.proofs.TableLemmas.{table_of_order}
use Rattle.gj_theory.specs.Cuts.{IsValueOf}
use Rattle.gj_proof.specs.Rules.{IsCoordinate, MeetsPoint, coordinates_of}
use Rattle.gj_check.specs.Coordinates.{AreCoordinates, IsScaledOpposite}
use Rattle.gj_check.proofs.Ratios.{denominator_is, sum_over, less_over, negative_over, one_over}
use Rattle.gj_check.proofs.SamePlaces.{value_over, value_on, values_fit_sum}

-- ---- coordinates as points

-- a coordinate is a point
pub coordinate_point : (x : Frac) → IsCoordinate x →
    IsPoint x (unsigned_abs (numerator x)) (unsigned_abs (denominator x))
coordinate_point x h =
    let low = h.not_negative in
    record {
      numerator_is = omega (arith, ints);
      denominator_is = denominator_is x;
      positive =
          denominator_some x;
    }

-- a coordinate is below 1
coordinate_below : (x : Frac) → IsCoordinate x →
    unsigned_abs (numerator x) < unsigned_abs (denominator x)
coordinate_below x h =
    let low = h.not_negative in
    let high = h.below_one in
    omega (arith, ints)

-- a point, as a fraction
point_is : (x : Frac) (n d : ℕ) → IsPoint x n d → IsRatio x (pos n) (pos d)
point_is x n d p = ap (λ z. z *ℤ pos d) p.numerator_is ∙ sym (ap (λ z. pos n *ℤ z) p.denominator_is)

-- a point, over a multiple of its denominator
point_over : (x : Frac) (n d e : ℕ) → IsPoint x n d → IsRatio x (pos (n * e)) (pos (d * e))
point_over x n d e p =
    let turned : n * (d * e) ≡ n * e * d = omega arith in
    ap (λ z. z *ℤ pos (d * e)) p.numerator_is ∙ ap pos turned
    ∙ sym (ap (λ z. pos (n * e) *ℤ z) p.denominator_is)

-- x is n/c and below 1
pub record StandsAt (x : Frac) (n c : ℕ) : Type 0 where
  pub is : IsRatio x (pos n) (pos c)
  pub below : n < c

factor_some : (d e c : ℕ) → d * e ≡ c → 0 < c → 0 < e
factor_some d zero c whole some = absurd (omega arith)
factor_some d (suc e) c whole some = omega arith

-- a coordinate over a multiple of its denominator
stands_at : (x : Frac) (c : ℕ) → IsCoordinate x → unsigned_abs (denominator x) ∣ c → 0 < c →
    (n : ℕ) × StandsAt x n c
stands_at x c h divides some =
    let n = unsigned_abs (numerator x) in
    let d = unsigned_abs (denominator x) in
    let e = c / d in
    let whole : d * e ≡ c = mul_comm d e ∙ div-mul_cancel d divides in
    let e_some = factor_some d e c whole some in
    let less = mul-lt-mul_of_pos_right (coordinate_below x h) e_some in (
      n * e,
      record {
        is = subst (λ (k : ℕ). IsRatio x (pos (n * e)) (pos k)) whole
            (point_over x n d e (coordinate_point x h));
        below = omega arith;
      },
    )

-- the denominator of one coordinate is small enough, and the coordinate itself
pub one_fine : (x : Frac) → AreCoordinates (x ∷ []) → unsigned_abs (denominator x) ≤ 2 ^ 62
one_fine x h =
    let d = h.common.0 in
    let divides = All-head (λ y. unsigned_abs (denominator y) ∣ d) x [] h.common.3 in
    let within = le_of_dvd h.common.1 divides in
    let fine = h.common.2 in
    omega arith

pub one_within : (x : Frac) → AreCoordinates (x ∷ []) → IsCoordinate x
one_within x h = All-head IsCoordinate x [] h.each

pub one_small : (x : Frac) → AreCoordinates (x ∷ []) → unsigned_abs (numerator x) ≤ 2 ^ 62
one_small x h =
    let below = coordinate_below x (one_within x h) in
    let fine = one_fine x h in
    omega arith

pub coordinate_small : (x : Frac) → IsCoordinate x →
    unsigned_abs (numerator x) ≤ 2 ^ 31 * unsigned_abs (denominator x)
coordinate_small x h = let below = coordinate_below x h in omega arith

-- ---- a negative value

pub negative_shown : (f : FunctionData) (x y : Frac) → IsWithinBounds f → IsCoordinate x →
    IsValueOf f x y →
    (numerator y <ℤ pos 0) ↔ ShowsViolation f (violation.Negative x)
negative_shown f x y l x_is is =
    let at : (n d : ℕ) → IsPoint x n d → (numerator y <ℤ pos 0) ↔ (value_of f n d <ℤ pos 0) =
    λ n d p.
    negative_over y (value_of f n d) (f.scale * d) (mul-pos l.scale_low p.positive)
    (value_on f x y n d l p.positive (point_is x n d p) is) in (
      λ h.
          let p = coordinate_point x x_is in (
            unsigned_abs (numerator x),
            unsigned_abs (denominator x),
            record
                { point = p; below = (at _ _ p).0 h },
          ),
      λ (n, d, h). (at n d h.point).1 h.below,
    )

-- ---- values that do not add up to 1

congruent_by : (j m n a b p : ℕ) → m + j + b * p ≡ n + a * p →
    pos j ≡ (pos n -ℤ pos m) +ℤ (pos a -ℤ pos b) *ℤ pos p
congruent_by j m n a b p e = let parts = sub_mul_z (pos a) (pos b) (pos p) in omega (arith, ints)

-- the value at f - x, at each index that is opposite to x
opposite_value : (f : FunctionData) (x z y : Frac) (n d j : ℕ) → IsWithinBounds f → IsPoint x n d →
    IsScaledOpposite f x z →
    IsValueAt f (numerator z) (unsigned_abs (denominator z)) y →
    (n * f.order + j) % (f.order * d) ≡ (f.place * d) % (f.order * d) →
    IsRatio y (table f d j) (pos (f.scale * d))
opposite_value f x z y n d j l p z_is is opposite =
    let t = pos (f.place * d) -ℤ pos (n * f.order) in
    let read : IsRatio z (pos (d * f.place) -ℤ pos (n * f.order)) (pos d) =
    subst₂ (λ a b. IsRatio z (b *ℤ pos f.place -ℤ a *ℤ pos f.order) b) p.numerator_is
    p.denominator_is z_is in
    let over : IsRatio z t (pos d) =
    subst (λ (k : ℕ). IsRatio z (pos k -ℤ pos (n * f.order)) (pos d)) (mul_comm d f.place) read in
    let period = f.order * d in
    let rests = from_same_remainder (n * f.order + j) (f.place * d) period opposite in
    value_over f (numerator z) t (unsigned_abs (denominator z)) d y l
    (denominator_some z) p.positive
    (over ∙ ap (λ k. t *ℤ k) (denominator_is z)) is j (
      pos ((n * f.order + j) / period) -ℤ pos (f.place * d / period),
      congruent_by j (n * f.order) (f.place * d) ((n * f.order + j) / period)
          (f.place * d / period) period rests,
    )

-- an index that is opposite to a coordinate
opposite_index : (f : FunctionData) (n d : ℕ) → n < d →
    (n * f.order + (f.place * d + (d - n) * f.order)) % (f.order * d)
    ≡ (f.place * d) % (f.order * d)
opposite_index f n d below =
    let parts : n + (d - n) ≡ d = omega arith in
    let whole : n * f.order + (d - n) * f.order ≡ f.order * d =
    omega arith ∙ ap (λ k. k * f.order) parts ∙ mul_comm d f.order in
    let sum : n * f.order + (f.place * d + (d - n) * f.order) ≡ f.place * d + f.order * d =
    omega arith in
    ap (λ k. k % (f.order * d)) sum ∙ add-mod_right (f.place * d) (f.order * d)

pub asymmetric_shown : (f : FunctionData) (x z first second sum : Frac) → IsWithinBounds f →
    IsCoordinate x →
    IsScaledOpposite f x z → IsValueOf f x first →
    IsValueAt f (numerator z) (unsigned_abs (denominator z)) second →
    SameValue (fraction_of sum) (sum_of (fraction_of first) (fraction_of second)) →
    (numerator sum ≢ denominator sum) ↔ ShowsViolation f (violation.Asymmetric x)
asymmetric_shown f x z first second sum l x_is z_is first_is second_is sum_is =
    let at : (n d j : ℕ) → IsPoint x n d →
    (n * f.order + j) % (f.order * d) ≡ (f.place * d) % (f.order * d) →
    (numerator sum ≡ denominator sum) ↔ (value_of f n d +ℤ table f d j ≡ pos (f.scale * d)) =
    λ n d j p opposite.
    one_over sum (value_of f n d +ℤ table f d j) (f.scale * d) (mul-pos l.scale_low p.positive)
    (sum_over first second sum (value_of f n d) (table f d j) (pos (f.scale * d))
    (value_on f x first n d l p.positive (point_is x n d p) first_is)
    (opposite_value f x z second n d j l p z_is second_is opposite) sum_is) in
    let n = unsigned_abs (numerator x) in
    let d = unsigned_abs (denominator x) in
    let j = f.place * d + (d - n) * f.order in
    let p = coordinate_point x x_is in
    let opposite = opposite_index f n d (coordinate_below x x_is) in (
      λ h. (
        n,
        d,
        j,
        record {
          point = p;
          opposite = opposite;
          differs =
              λ e. h ((at n d j p opposite).1 e);
        },
      ),
      λ (n', d', j', h) e. h.differs ((at n' d' j' h.point h.opposite).0 e),
    )

-- the two values can be added
pub asymmetric_fits : (f : FunctionData) (x z first second : Frac) → IsWithinBounds f →
    AreCoordinates (x ∷ []) →
    IsScaledOpposite f x z → IsValueOf f x first →
    IsValueAt f (numerator z) (unsigned_abs (denominator z)) second →
    FitsSum first second
asymmetric_fits f x z first second l x_is z_is first_is second_is =
    let n = unsigned_abs (numerator x) in
    let d = unsigned_abs (denominator x) in
    let j = f.place * d + (d - n) * f.order in
    let within = one_within x x_is in
    let p = coordinate_point x within in
    values_fit_sum f first second (n * f.order) j d l p.positive (one_fine x x_is)
    (value_on f x first n d l p.positive (point_is x n d p) first_is)
    (opposite_value f x z second n d j l p z_is second_is
    (opposite_index f n d (coordinate_below x within)))

-- the denominator of q (f - x) is small enough
pub opposite_fine : (f : FunctionData) (x z : Frac) → AreCoordinates (x ∷ []) →
    IsScaledOpposite f x z →
    unsigned_abs (denominator z) ≤ 2 ^ 62
opposite_fine f x z x_is z_is =
    let within = le_of_dvd (denominator_some x)
    (denominator_divides_each z _ (denominator x) z_is) in
    let fine = one_fine x x_is in
    omega arith

-- ---- values that add up to less than the value at the sum

-- two coordinates over one denominator
pub record StandAt (x y : Frac) (n m c : ℕ) : Type 0 where
  pub some : 0 < c
  pub fine : c ≤ 2 ^ 62
  pub first : StandsAt x n c
  pub second : StandsAt y m c

pub stand_at : (x y : Frac) → AreCoordinates (x ∷ y ∷ []) → (n m c : ℕ) × StandAt x y n m c
stand_at x y h =
    let c = h.common.0 in
    let P : Frac → Type 0 = λ z. unsigned_abs (denominator z) ∣ c in
    let (n, first) = stands_at x c (All-head IsCoordinate x (y ∷ []) h.each)
    (All-head P x (y ∷ []) h.common.3) h.common.1 in
    let (m, second) = stands_at y c
    (All-head IsCoordinate y [] (All-tail IsCoordinate x (y ∷ []) h.each))
    (All-head P y [] (All-tail P x (y ∷ []) h.common.3)) h.common.1 in
    (n, m, c, record { some = h.common.1; fine = h.common.2; first = first; second = second })

pub first_within : (x y : Frac) → AreCoordinates (x ∷ y ∷ []) → IsCoordinate x
first_within x y h = All-head IsCoordinate x (y ∷ []) h.each

pub second_within : (x y : Frac) → AreCoordinates (x ∷ y ∷ []) → IsCoordinate y
second_within x y h = All-head IsCoordinate y [] (All-tail IsCoordinate x (y ∷ []) h.each)

fine_over : (x : Frac) (n c : ℕ) → 0 < c → c ≤ 2 ^ 62 → IsRatio x (pos n) (pos c) →
    unsigned_abs (denominator x) ≤ 2 ^ 62
fine_over x n c some fine is =
    let within = le_of_dvd some (denominator_divides_each x (pos n) (pos c) is) in
    omega arith

pub first_fine : (x y : Frac) → AreCoordinates (x ∷ y ∷ []) → unsigned_abs (denominator x) ≤ 2 ^ 62
first_fine x y h = let (n, m, c, s) = stand_at x y h in fine_over x n c s.some s.fine s.first.is

pub second_fine : (x y : Frac) → AreCoordinates (x ∷ y ∷ []) → unsigned_abs (denominator y) ≤ 2 ^ 62
second_fine x y h = let (n, m, c, s) = stand_at x y h in fine_over y m c s.some s.fine s.second.is

-- two coordinates can be added
pub coordinates_fit_sum : (x y : Frac) → AreCoordinates (x ∷ y ∷ []) → FitsSum x y
coordinates_fit_sum x y h =
    let (n, m, c, s) = stand_at x y h in
    let some = s.some in
    let fine = s.fine in
    let first = s.first.below in
    let second = s.second.below in
    (over_one_denominator x y (pos n) (pos m) (pos c) s.first.is s.second.is (omega arith)
    (omega arith) (omega arith)
    (omega arith)).0

-- what the sum of two coordinates is
pub sum_fine : (x y z : Frac) → AreCoordinates (x ∷ y ∷ []) →
    SameValue (fraction_of z) (sum_of (fraction_of x) (fraction_of y)) →
    unsigned_abs (denominator z) ≤ 2 ^ 62
sum_fine x y z h z_is =
    let (n, m, c, s) = stand_at x y h in
    fine_over z (n + m) c s.some s.fine
    (sum_over x y z (pos n) (pos m) (pos c) s.first.is s.second.is z_is)

pub sum_small : (x y z : Frac) → AreCoordinates (x ∷ y ∷ []) →
    SameValue (fraction_of z) (sum_of (fraction_of x) (fraction_of y)) →
    unsigned_abs (numerator z) ≤ 2 ^ 31 * unsigned_abs (denominator z)
sum_small x y z h z_is =
    let (n, m, c, s) = stand_at x y h in
    let first = s.first.below in
    let second = s.second.below in
    let is = sum_over x y z (pos n) (pos m) (pos c) s.first.is s.second.is z_is in
    let sizes : unsigned_abs (numerator z) * c ≡ (n + m) * unsigned_abs (denominator z) =
    sym (unsigned_abs-mul (numerator z) (pos c)) ∙ ap unsigned_abs is
    ∙ unsigned_abs-mul (pos (n + m)) (denominator z) in
    let less : (n + m) * unsigned_abs (denominator z) ≤ (2 * c) * unsigned_abs (denominator z) =
    mul-le-mul_right (unsigned_abs (denominator z)) (let k : n + m ≤ 2 * c = omega arith in k) in
    let twice : unsigned_abs (numerator z) * c ≤ (2 * unsigned_abs (denominator z)) * c =
    omega arith in
    let within = le_of_mul-le-mul_right twice s.some in
    omega arith

-- the two values can be added
pub values_fit : (f : FunctionData) (x y first second : Frac) → IsWithinBounds f →
    AreCoordinates (x ∷ y ∷ []) →
    IsValueOf f x first → IsValueOf f y second → FitsSum first second
values_fit f x y first second l h first_is second_is =
    let (n, m, c, s) = stand_at x y h in
    values_fit_sum f first second (n * f.order) (m * f.order) c l s.some s.fine
    (value_on f x first n c l s.some s.first.is first_is)
    (value_on f y second m c l s.some s.second.is second_is)

pub superadditive_shown : (f : FunctionData) (x y z first second third sum : Frac) →
    IsWithinBounds f → IsCoordinate x →
    IsCoordinate y → SameValue (fraction_of z) (sum_of (fraction_of x) (fraction_of y)) →
    IsValueOf f x first →
    IsValueOf f y second → IsValueOf f z third →
    SameValue (fraction_of sum) (sum_of (fraction_of first) (fraction_of second)) →
    LessValue (fraction_of sum) (fraction_of third) ↔ ShowsViolation f (violation.Superadditive x y)
superadditive_shown f x y z first second third sum l x_is y_is z_is first_is second_is third_is
    sum_is =
    let at : (n d m e : ℕ) → IsPoint x n d → IsPoint y m e →
    LessValue (fraction_of sum) (fraction_of third)
    ↔ ((value_of f (n * e) (d * e) +ℤ value_of f (m * d) (d * e))
    <ℤ value_of f (n * e + m * d) (d * e)) =
    λ n d m e p r.
    let c = d * e in
    let some = mul-pos p.positive r.positive in
    let x_over : IsRatio x (pos (n * e)) (pos c) = point_over x n d e p in
    let y_over : IsRatio y (pos (m * d)) (pos c) =
    subst (λ (k : ℕ). IsRatio y (pos (m * d)) (pos k)) (mul_comm e d) (point_over y m e d r) in
    let z_over : IsRatio z (pos (n * e + m * d)) (pos c) =
    sum_over x y z (pos (n * e)) (pos (m * d)) (pos c) x_over y_over z_is in
    less_over sum third (value_of f (n * e) c +ℤ value_of f (m * d) c)
    (value_of f (n * e + m * d) c) (f.scale * c)
    (mul-pos l.scale_low some)
    (sum_over first second sum (value_of f (n * e) c) (value_of f (m * d) c) (pos (f.scale * c))
    (value_on f x first (n * e) c l some x_over first_is)
    (value_on f y second (m * d) c l some y_over second_is) sum_is)
    (value_on f z third (n * e + m * d) c l some z_over third_is) in
    let p = coordinate_point x x_is in
    let r = coordinate_point y y_is in (
      λ h. (
        unsigned_abs (numerator x),
        unsigned_abs (denominator x),
        unsigned_abs (numerator y),
        unsigned_abs (denominator y),
        record { first = p; second = r; below = (at _ _ _ _ p r).0 h },
      ),
      λ (n, d, m, e, h). (at n d m e h.first h.second).1 h.below,
    )

-- ---- the rule as a whole

-- a violation with its coordinates
pub point_read : (f : FunctionData) (v w : Violation) → v ≡ w →
    (AreCoordinates (coordinates_of w) × ShowsViolation f w) ↔ MeetsPoint f v
point_read f v w e = rw e (
  (λ h. record { coordinates = h.0.each; common = h.0.common; shown = h.1 }),
  (λ h. (record { each = h.coordinates; common = h.common }, h.shown)),
)

-- a value at 0 that is not 0
pub zero_read : (f : FunctionData) (v : Violation) (n : ℤ) → IsWithinBounds f → v ≡ violation.Zero →
    n ≡ get_or f.value 0 (pos 0) →
    (n ≢ pos 0) ↔ MeetsPoint f v
zero_read f v n l e n_is =
    let len = l.value_length in
    let some = l.order_low in
    let origin : 0 * f.order ≡ 0 = omega arith in
    let value : value_of f 0 1 ≡ at f.value 0 = ap (table f 1) origin ∙ table_of_order f 0 in
    let same = at_below f.value 0 (omega arith) in
    let rule = point_read f v violation.Zero e in (
      λ h. rule.0 (
        record {
          each = All-nil IsCoordinate;
          common = (1, omega arith, omega arith, All-nil (λ x. unsigned_abs (denominator x) ∣ 1));
        },
        λ z. h (omega (arith, ints)),
      ),
      λ h z. (rule.1 h).1 (omega (arith, ints)),
    )
