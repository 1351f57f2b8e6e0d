-- The points of a violation on the grid are points that the rules of the checker take.
use Rattle.std.proofs.Common.{◌≡◌, ℕ, ◌*◌, ◌<◌, ◌≤◌, ◌^◌, ℤ, pos, ◌*ℤ◌, ◌<ℤ◌, ◌≤ℤ◌, [], ◌∷◌, All, unsigned_abs, sym, ap, subst, ◌∙◌, arith}
use Rattle.std.specs.Int.{◌∣◌}
use Rattle.std.proofs.lemmas.Int.{ints}
use Rattle.std.proofs.lemmas.List.Elements.{All-nil, All-cons}
use Rattle.gj_frac.specs.declared.Frac.{Frac}
use Rattle.gj_frac.specs.Fraction.{IsRatio, numerator, denominator}
use Rattle.gj_lemmas.proofs.Divisors.{whole_multiple}
use Rattle.gj_lemmas.proofs.Integers.{mul_le_cancel_right_z, mul_lt_cancel_right_z, mul_lt_mul_right_z, mul_nonnegative_z, mul_comm_z, pos_abs_z}
use Rattle.gj_shape.specs.FunctionData.{FunctionData}
use Rattle.gj_shape.specs.Violation.{ShowsViolation}
use Rattle.gj_shape.specs.declared.violations.Violation.{Violation}
use Rattle.gj_shape.specs.declared.violations.Violation.TheVariants as violation
use Rattle.gj_theory.specs.GridPoints.{IsAtGridPoints}
use Rattle.gj_proof.specs.Rules.{IsCoordinate, MeetsPoint}

-- a multiple i/n with i below n is a coordinate
coordinate : (n i : ℕ) (x : Frac) → i < n → IsRatio x (pos i) (pos n) → IsCoordinate x
coordinate n i x below is =
    let some : pos 0 <ℤ pos n = omega (arith, ints) in
    let bottom = x.lowest.positive in
    let bottom_le : pos 0 ≤ℤ denominator x = omega (arith, ints) in
    let index : pos 0 ≤ℤ pos i = omega (arith, ints) in
    let before : pos i <ℤ pos n = omega (arith, ints) in
    let product = mul_nonnegative_z (pos i) (denominator x) index bottom_le in
    let zero : pos 0 *ℤ pos n ≡ pos 0 = omega (arith, ints) in
    let less = mul_lt_mul_right_z (pos i) (pos n) (denominator x) bottom before in
    let turned = mul_comm_z (pos n) (denominator x) in
    record {
      not_negative = mul_le_cancel_right_z (pos 0) (numerator x) (pos n) some
          (subst (λ (z : ℤ). z ≤ℤ (numerator x *ℤ pos n)) (sym zero)
          (subst (λ (z : ℤ). pos 0 ≤ℤ z) (sym is) product));
      below_one = mul_lt_cancel_right_z (numerator x) (denominator x) (pos n) some
          (subst (λ (z : ℤ). z <ℤ (denominator x *ℤ pos n)) (sym is)
          (subst (λ (z : ℤ). (pos i *ℤ denominator x) <ℤ z) turned less));
    }

-- its denominator divides n
divides : (n i : ℕ) (x : Frac) → IsRatio x (pos i) (pos n) → unsigned_abs (denominator x) ∣ n
divides n i x is =
    let bottom = x.lowest.positive in
    let bottom_le : pos 0 ≤ℤ denominator x = omega (arith, ints) in
    let whole : pos n *ℤ numerator x ≡ pos i *ℤ pos (unsigned_abs (denominator x)) =
    mul_comm_z (pos n) (numerator x) ∙ is
    ∙ ap (λ z. pos i *ℤ z) (sym (pos_abs_z (denominator x) bottom_le)) in
    whole_multiple (numerator x) (pos i) (unsigned_abs (denominator x)) n x.lowest.coprime whole

all_one : (P : Frac → Type 0) (x : Frac) → P x → All P (x ∷ [])
all_one P x h = All-cons P x [] h (All-nil P)

all_two : (P : Frac → Type 0) (x y : Frac) → P x → P y → All P (x ∷ y ∷ [])
all_two P x y h k = All-cons P x (y ∷ []) h (all_one P y k)

-- a violation that is shown at points of a grid of order at most 2^62 meets the rule `point`
pub meets_point : (f : FunctionData) (v : Violation) (h : ℕ) → f.order * h ≤ 2 ^ 62 →
    IsAtGridPoints f h v → ShowsViolation f v → MeetsPoint f v
meets_point f violation.Zero h fine g s = record {
  coordinates = All-nil IsCoordinate;
  common = (1, omega arith, omega arith, All-nil (λ x. unsigned_abs (denominator x) ∣ 1));
  shown = s;
}
meets_point f (violation.Negative x) h fine (i, below, is) s = record {
  coordinates = all_one IsCoordinate x (coordinate (f.order * h) i x below is);
  common = (
    f.order * h,
    omega arith,
    fine,
    all_one
        (λ z. unsigned_abs (denominator z) ∣ f.order * h) x (divides (f.order * h) i x is),
  );
  shown = s;
}
meets_point f (violation.Asymmetric x) h fine (i, below, is) s = record {
  coordinates = all_one IsCoordinate x (coordinate (f.order * h) i x below is);
  common = (
    f.order * h,
    omega arith,
    fine,
    all_one
        (λ z. unsigned_abs (denominator z) ∣ f.order * h) x (divides (f.order * h) i x is),
  );
  shown = s;
}
meets_point f (violation.Superadditive x y) h fine ((i, below, is), (j, less, at_j)) s = record {
  coordinates = all_two IsCoordinate x y (coordinate (f.order * h) i x below is)
      (coordinate (f.order * h) j y less at_j);
  common = (
    f.order * h,
    omega arith,
    fine,
    all_two (λ z. unsigned_abs (denominator z) ∣ f.order * h) x y (divides (f.order * h) i x is)
        (divides (f.order * h) j y at_j),
  );
  shown = s;
}
