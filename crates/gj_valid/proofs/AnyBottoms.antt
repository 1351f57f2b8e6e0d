-- Points over any bottoms, and a function's values at them, over one bottom.
use Rattle.std.proofs.Common.{◌≡◌, ℕ, ◌+◌, ◌*◌, ◌%◌, ◌<◌, List, [], ◌∷◌, map, ℤ, pos, unsigned_abs, ◌+ℤ◌, ◌*ℤ◌, ◌<ℤ◌, refl, sym, subst, ap, ap₂, ◌∙◌, arith}
use Rattle.std.specs.Prelude.{sum}
use Rattle.std.specs.List.{All}
use Rattle.std.proofs.Math.Nat.{mul-pos}
use Rattle.std.proofs.lemmas.Int.{ints}
use Rattle.std.proofs.lemmas.List.Elements.{All-head, All-tail}
use Rattle.gj_lemmas.proofs.Integers.{mul_positive_z, abs_positive_z}
use Rattle.gj_frac.specs.Fraction.{Fraction, SameValue, sum_of}
use Rattle.gj_theory.proofs.Weights.{sum_cons}
use Rattle.gj_valid.specs.ValidFunctions.{over, IsNonnegative, total_of}
use Rattle.gj_valid.proofs.PartFunctions.{sum_of_values, IsPartFunction, at_parts}
use Rattle.gj_valid.proofs.OverOneBottom.{Is, is_over, sum_is, same_sums_of, same_trans, values_positive}
use Rattle.gj_valid.proofs.FunctionTables.{sum_scaled}
use Rattle.gj_valid.proofs.SamePoints.{parts_are}

-- the values at n/d and at (n e)/(d e)
values_scaled : (v : ℕ → ℕ → Fraction) (d e : ℕ) (tops : List ℕ) → 0 < d → 0 < e →
    IsPartFunction v →
    SameValue (sum_of_values v (e * d) (map (λ n. n * e) tops)) (sum_of_values v d tops)
values_scaled v d e [] d_some e_some h = refl
values_scaled v d e (n ∷ tops) d_some e_some h =
    same_sums_of (v (n * e) (e * d)) (sum_of_values v (e * d) (map (λ n. n * e) tops)) (v n d)
    (sum_of_values v d tops)
    (h.positive n d d_some) (values_positive v d tops (λ n. h.positive n d d_some))
    (h.at_points (n * e) (e * d) n d (mul-pos e_some d_some) d_some
    (ap₂ (λ i j. i % j) (omega arith) (omega arith)))
    (values_scaled v d e tops d_some e_some h)

-- the same points, and the values at them, over one bottom
pub record HasOneBottom (v : Fraction → Fraction) (points : List Fraction) : Type 0 where
  pub d : ℕ
  pub tops : List ℕ
  pub some : 0 < d
  pub bottom_some : pos 0 <ℤ (total_of points).bottom
  pub whole : Is (total_of points) (pos (sum tops)) d
  pub positive : pos 0 <ℤ (total_of (map v points)).bottom
  pub same : SameValue (total_of (map v points)) (sum_of_values (at_parts v) d tops)

next_point : (v : Fraction → Fraction) (n e : ℕ) (points : List Fraction) →
    IsPartFunction (at_parts v) → 0 < e → HasOneBottom v points →
    HasOneBottom v (over n e ∷ points)
next_point v n e points h e_some r =
    let d_some : 0 < e * r.d = mul-pos e_some r.some in
    let scaled = map (λ n. n * e) r.tops in
    let here = h.positive n e e_some in
    let there = values_positive (at_parts v) r.d r.tops (λ n. h.positive n r.d r.some) in
    let finer = values_positive (at_parts v) (e * r.d) scaled
    (λ n. h.positive n (e * r.d) d_some) in
    record {
      d = e * r.d;
      tops = n * r.d ∷ scaled;
      some = d_some;
      bottom_some = mul_positive_z (pos e) (total_of points).bottom
          (omega (arith, ints)) r.bottom_some;
      whole = subst (λ (z : ℤ). Is (sum_of (over n e) (total_of points)) z (e * r.d))
          (numbers n r.d e (sum r.tops) (sum (n * r.d ∷ scaled))
          (sum_cons (n * r.d) scaled ∙ ap (λ l. n * r.d + l) (sum_scaled e r.tops)))
          (sum_is (over n e) (total_of points) (pos (n * r.d)) (pos e *ℤ pos (sum r.tops)) (e * r.d)
          (first n e r.d)
          (is_over (total_of points) (pos (sum r.tops)) r.d e (e * r.d) r.whole refl));
      positive = mul_positive_z (v (over n e)).bottom
          (total_of (map v points)).bottom here r.positive;
      same = same_sums_of (v (over n e)) (total_of (map v points)) (v (over (n * r.d) (e * r.d)))
          (sum_of_values (at_parts v) (e * r.d) scaled)
          (h.positive (n * r.d) (e * r.d) d_some) finer
          (h.at_points n e (n * r.d) (e * r.d) e_some d_some
          (ap (λ i. i % (e * (e * r.d))) (omega arith)))
          (same_trans (total_of (map v points)) (sum_of_values (at_parts v) r.d r.tops)
          (sum_of_values (at_parts v) (e * r.d) scaled) there finer
          r.same (sym (values_scaled (at_parts v) r.d e r.tops r.some e_some h)));
    }
  where
    first : (n e d : ℕ) → Is (over n e) (pos (n * d)) (e * d)
    first n e d = let whole : n * (e * d) ≡ n * d * e = omega arith in ap pos whole

    numbers : (n d e l w : ℕ) → w ≡ n * d + l * e → pos (n * d) +ℤ pos e *ℤ pos l ≡ pos w
    numbers n d e l w is = let whole : n * d + e * l ≡ w = omega arith in ap pos whole

pub over_one_bottom : (v : Fraction → Fraction) (points : List Fraction) →
    IsPartFunction (at_parts v) → All IsNonnegative points →
    HasOneBottom v points
over_one_bottom v [] h all = record {
  d = 1;
  tops = [];
  some = omega arith;
  bottom_some = omega (arith, ints);
  whole = refl;
  positive = omega (arith, ints);
  same = refl;
}
over_one_bottom v (x ∷ points) h all =
    let low = All-head IsNonnegative x points all in
    subst (λ (y : Fraction). HasOneBottom v (y ∷ points)) (parts_are x low)
    (next_point v (unsigned_abs x.top) (unsigned_abs x.bottom) points h
    (abs_positive_z x.bottom low.1)
    (over_one_bottom v points h (All-tail IsNonnegative x points all)))
