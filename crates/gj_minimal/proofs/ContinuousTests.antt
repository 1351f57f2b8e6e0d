-- The limits of a continuous function are values, so the tests at grid points are those between
-- them.
use Rattle.std.proofs.Common.{◌≡◌, ℕ, ◌+◌, ◌-◌, ◌%◌, ◌<◌, ℤ, pos, ◌+ℤ◌, ◌≤ℤ◌, List, ap, sym, subst, ◌∙◌, arith}
use Rattle.std.proofs.Math.Nat.{add-mod_right}
use Rattle.gj_shape.specs.FunctionData.{FunctionData, IsWithinBounds, IsContinuous, at}
use Rattle.gj_theory.specs.EarlierTests.{PassesValues, PassesSigns, PassesMirrors, PassesSymmetry}
use Rattle.gj_theory.proofs.Everywhere.{everywhere, symmetric_everywhere}

pub signs_of_continuous : (f : FunctionData) → IsWithinBounds f → IsContinuous f → PassesValues f →
    PassesSigns f
signs_of_continuous f limits continuous h =
    let some : 0 < f.order = let low = limits.order_low in omega arith in
    let all = everywhere (λ z. pos 0 ≤ℤ z) f.value f.order limits.value_length some h.nonnegative in
    record {
      values = h;
      after = λ i below. subst (λ (xs : List ℤ). pos 0 ≤ℤ at xs i) (sym continuous.1) (all i);
      before = λ i below. subst (λ (xs : List ℤ). pos 0 ≤ℤ at xs (i + 1)) (sym continuous.0)
          (all (i + 1));
    }

pub symmetry_of_continuous : (f : FunctionData) → IsWithinBounds f → IsContinuous f →
    PassesMirrors f → PassesSymmetry f
symmetry_of_continuous f limits continuous h =
    let some : 0 < f.order = let low = limits.order_low in omega arith in
    let all = symmetric_everywhere f.value f.order f.place f.scale limits.value_length some
    h.symmetric in
    record {
      mirrors = h;
      between = λ i below.
          let whole : i + 1 + (f.place + (f.order - (i + 1))) ≡ f.place + f.order = omega arith in
          let opposite = ap (λ k. k % f.order) whole ∙ add-mod_right f.place f.order in (
            with_limits f.right f.left f.value i (f.place + (f.order - i)) f.scale continuous.1
                continuous.0 (h.symmetric i below),
            with_limits f.left f.right f.value (i + 1) (f.place + (f.order - (i + 1))) f.scale
                continuous.0 continuous.1
                (all (i + 1) (f.place + (f.order - (i + 1))) opposite),
          );
    }
  where
    with_limits : (xs ys values : List ℤ) (i j s : ℕ) → xs ≡ values → ys ≡ values →
        at values i +ℤ at values j ≡ pos s →
        at xs i +ℤ at ys j ≡ pos s
    with_limits xs ys values i j s first second h = rw (first, second) h
