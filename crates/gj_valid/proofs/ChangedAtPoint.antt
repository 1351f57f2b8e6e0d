-- A valid function with a lighter sum of values at points that add up to a point lies above
-- another.
use Rattle.std.proofs.Common.{◌≡◌, ℕ, ◌+◌, ◌*◌, ◌%◌, ◌<◌, ◌⊎◌, inl, inr, ⊎_elim, eqb, cond, List, [], ◌∷◌, ◌++◌, map, ℤ, pos, ◌+ℤ◌, ◌≤ℤ◌, ◌<ℤ◌, refl, sym, subst, ap, ap₂, ◌∙◌, arith}
use Rattle.std.specs.Prelude.{sum}
use Rattle.std.proofs.Math.Nat.{mul-pos, mul_comm}
use Rattle.std.proofs.lemmas.Bool.{cond-true, cond-false}
use Rattle.std.proofs.lemmas.Bool.Decides.{eqb_tells}
use Rattle.std.proofs.lemmas.Int.{ints}
use Rattle.gj_frac.specs.Fraction.{Fraction, SameValue, LessValue, AtMostValue}
use Rattle.gj_shape.specs.Valid.{weight}
use Rattle.gj_theory.proofs.Weights.{sum_cons, sum_append, weight_append, same_sums, weight_nonnegative, StandFor}
use Rattle.gj_valid.proofs.PartFunctions.{SamePlace, nothing, one, sum_of_values, IsPartFunction, IsValidPart, IsMinimalPart}
use Rattle.gj_valid.proofs.OverOneBottom.{Is, is_along, most_from_numbers, most_to_numbers, nothing_is, one_is, values_positive, values_are}
use Rattle.gj_valid.proofs.FunctionTables.{HasTable, has_table, at_place, scaled_rest, cancel_rest, sum_scaled, weight_of_map}

-- a valid function that is nowhere above v, and below it at n/d
pub record HasLower (v : ℕ → ℕ → Fraction) (k q : ℕ) : Type 0 where
  pub u : ℕ → ℕ → Fraction
  pub n : ℕ
  pub d : ℕ
  pub some : 0 < d
  pub valid : IsValidPart u k q
  pub at_most : (i e : ℕ) → 0 < e → AtMostValue (u i e) (v i e)
  pub below : LessValue (u n d) (v n d)

pub not_lower : (v : ℕ → ℕ → Fraction) (k q : ℕ) → IsMinimalPart v k q → HasLower v k q → ⊥
not_lower v k q h l =
    let same = h.none_below l.u l.valid l.at_most l.n l.d l.some in
    let below = l.below in
    omega (arith, ints)

-- ---- points

pub same_point_sym : (n d m e : ℕ) → SamePlace n d m e → SamePlace m e n d
same_point_sym n d m e same = ap (λ i. m * d % i) (mul_comm e d) ∙ sym same
    ∙ ap (λ i. n * e % i) (mul_comm d e)

pub same_point_trans : (n d m e l h : ℕ) → 0 < e → SamePlace n d m e → SamePlace m e l h →
    SamePlace n d l h
same_point_trans n d m e l h some first second =
    cancel_rest (n * h) (l * d) (d * h) e some
    (ap₂ (λ i j. i % j) (omega arith) (omega arith) ∙ scaled_rest (n * e) (m * d) (d * e) h first
    ∙ ap₂ (λ i j. i % j) (omega arith) (omega arith) ∙ scaled_rest (m * h) (l * e) (e * h) d second
    ∙ ap₂ (λ i j. i % j) (omega arith) (omega arith))

-- ---- a function that is changed at one point

-- the function v with the value w at the points that are a/g
abbrev pub changed : (ℕ → ℕ → Fraction) → ℕ → ℕ → Fraction → ℕ → ℕ → Fraction
changed v a g w n e = cond (eqb ((n * g) % (e * g)) ((a * e) % (e * g))) w (v n e)

changed_tells : (v : ℕ → ℕ → Fraction) (a g : ℕ) (w : Fraction) (n e : ℕ) →
    (SamePlace n e a g × (changed v a g w n e ≡ w))
    ⊎ ((SamePlace n e a g → ⊥) × (changed v a g w n e ≡ v n e))
changed_tells v a g w n e =
    ⊎_elim (λ at. inl (
      at.1,
      cond-true (eqb ((n * g) % (e * g)) ((a * e) % (e * g))) w
          (v n e) at.0,
    ))
    (λ off. inr (off.1, cond-false (eqb ((n * g) % (e * g)) ((a * e) % (e * g))) w (v n e) off.0))
    (eqb_tells ((n * g) % (e * g)) ((a * e) % (e * g)))

changed_is_function : (v : ℕ → ℕ → Fraction) (a g : ℕ) (w : Fraction) → 0 < g → pos 0 <ℤ w.bottom →
    IsPartFunction v →
    IsPartFunction (changed v a g w)
changed_is_function v a g w g_some w_some h = record {
  positive = λ n e some.
      ⊎_elim (λ at. subst (λ (x : Fraction). pos 0 <ℤ x.bottom) (sym at.1) w_some)
      (λ off. subst (λ (x : Fraction). pos 0 <ℤ x.bottom) (sym off.1) (h.positive n e some))
      (changed_tells v a g w n e);
  at_points = λ n d m e d_some e_some same.
      ⊎_elim
      (λ at. ⊎_elim
      (λ at'. subst (λ (x : Fraction). SameValue x (changed v a g w m e)) (sym at.1)
      (subst (λ (x : Fraction). SameValue w x) (sym at'.1) refl))
      (λ off'. absurd (off'.0
      (same_point_trans m e n d a g d_some (same_point_sym n d m e same) at.0)))
      (changed_tells v a g w m e))
      (λ off. ⊎_elim
      (λ at'. absurd (off.0 (same_point_trans n d m e a g e_some same at'.0)))
      (λ off'. subst (λ (x : Fraction). SameValue x (changed v a g w m e)) (sym off.1)
      (subst (λ (x : Fraction). SameValue (v n d) x) (sym off'.1)
      (h.at_points n d m e d_some e_some same)))
      (changed_tells v a g w m e))
      (changed_tells v a g w n d);
}

-- ---- points for which lighter points stand

-- what stands for each place times p stands for all
stand_for_multiples : (t u : ℕ → ℤ) (n p : ℕ) (ys : List ℕ) →
    ((y : ℕ) → StandFor t n (y * p) (u y)) →
    StandFor t n (sum ys * p) (weight u ys)
stand_for_multiples t u n p [] each = ([], ap (λ i. i % n) (omega arith), refl)
stand_for_multiples t u n p (y ∷ ys) each =
    let (first, first_sum, first_weight) = each y in
    let (rest, rest_sum, rest_weight) = stand_for_multiples t u n p ys each in
    let product : y * p + sum ys * p ≡ (y + sum ys) * p = omega arith in (
      first ++ rest,
      ap (λ i. i % n) (sum_append first rest)
          ∙ same_sums (sum first) (y * p) (sum rest) (sum ys * p) n first_sum rest_sum
          ∙ ap (λ i. i % n) (product ∙ ap (λ s. s * p) (sym (sum_cons y ys))),
      weight_append t first rest ∙ ap₂ (λ v w. v +ℤ w) first_weight rest_weight,
    )

-- the numbers of the changed function over one bottom
abbrev changed_numbers : (ℕ → ℤ) → ℕ → ℕ → ℕ → ℕ → ℤ → ℕ → ℤ
changed_numbers t q a g e w y = cond (eqb ((y * g) % (e * g)) ((a * e) % (e * g))) w
    (t (y * (q * g)))

numbers_tell : (t : ℕ → ℤ) (q a g e : ℕ) (w : ℤ) (y : ℕ) →
    (SamePlace y e a g × (changed_numbers t q a g e w y ≡ w))
    ⊎ ((SamePlace y e a g → ⊥) × (changed_numbers t q a g e w y ≡ t (y * (q * g))))
numbers_tell t q a g e w y =
    ⊎_elim (λ at. inl (
      at.1,
      cond-true (eqb ((y * g) % (e * g)) ((a * e) % (e * g))) w
          (t (y * (q * g))) at.0,
    ))
    (λ off. inr (
      off.1,
      cond-false (eqb ((y * g) % (e * g)) ((a * e) % (e * g))) w
          (t (y * (q * g))) off.0,
    ))
    (eqb_tells ((y * g) % (e * g)) ((a * e) % (e * g)))

-- the table on the grid that holds the points over g and those over e
record Both (v : ℕ → ℕ → Fraction) (k q g e : ℕ) : Type 0 where
  table : HasTable v k q (g * e)
  over_g : (x : ℕ) → Is (v x g) (table.t (x * (q * e))) table.c
  over_e : (y : ℕ) → Is (v y e) (table.t (y * (q * g))) table.c

both : (v : ℕ → ℕ → Fraction) (k q g e : ℕ) → 0 < q → 0 < g → 0 < e → IsValidPart v k q →
    Both v k q g e
both v k q g e q_some g_some e_some h =
    let r = has_table v k q (g * e) q_some (mul-pos g_some e_some) h in
    let grid : 0 < q * (g * e) = mul-pos q_some (mul-pos g_some e_some) in
    record {
      table = r;
      over_g = λ x.
          at_place v x g (x * (q * e)) (q * (g * e)) r.c (r.t (x * (q * e))) g_some grid h.function
          (omega arith) (r.is (x * (q * e)));
      over_e = λ y.
          at_place v y e (y * (q * g)) (q * (g * e)) r.c (r.t (y * (q * g))) e_some grid h.function
          (omega arith) (r.is (y * (q * g)));
    }

stands : (t : ℕ → ℤ) (q a g e : ℕ) (xs : List ℕ) (y : ℕ) → sum xs % g ≡ a % g →
    StandFor t (q * (g * e)) (y * (q * g))
    (changed_numbers t q a g e (weight (λ x. t (x * (q * e))) xs) y)
stands t q a g e xs y place =
    let w = weight (λ x. t (x * (q * e))) xs in
    ⊎_elim
    (λ at. (
      map (λ x. x * (q * e)) xs,
      ap₂ (λ i j. i % j) (sum_scaled (q * e) xs) (omega arith)
          ∙ scaled_rest (sum xs) a g (q * e) place
          ∙ ap₂ (λ i j. i % j) (omega arith) (omega arith)
          ∙ sym (scaled_rest (y * g) (a * e) (e * g) q at.0)
          ∙ ap₂ (λ i j. i % j) (omega arith) (omega arith),
      weight_of_map t (λ x. x * (q * e)) xs ∙ sym at.1,
    ))
    (λ off. (
      y * (q * g) ∷ [],
      ap (λ j. j % (q * (g * e))) (sum_cons (y * (q * g)) [] ∙ omega arith),
      omega (arith, ints, off.1),
    ))
    (numbers_tell t q a g e w y)

changed_is : (v : ℕ → ℕ → Fraction) (t : ℕ → ℤ) (q a g e c : ℕ) (x : Fraction) (w : ℤ) (y : ℕ) →
    Is x w c → Is (v y e) (t (y * (q * g))) c →
    Is (changed v a g x y e) (changed_numbers t q a g e w y) c
changed_is v t q a g e c x w y is_w is_v =
    ⊎_elim
    (λ at. ⊎_elim
    (λ at'. subst (λ (z : Fraction). Is z (changed_numbers t q a g e w y) c) (sym at.1)
    (subst (λ (n : ℤ). Is x n c) (sym at'.1) is_w))
    (λ off'. absurd (off'.0 at.0))
    (numbers_tell t q a g e w y))
    (λ off. ⊎_elim
    (λ at'. absurd (off.0 at'.0))
    (λ off'. subst (λ (z : Fraction). Is z (changed_numbers t q a g e w y) c) (sym off.1)
    (subst (λ (n : ℤ). Is (v y e) n c) (sym off'.1) is_v))
    (numbers_tell t q a g e w y))
    (changed_tells v a g x y e)

changed_valid : (v : ℕ → ℕ → Fraction) (k q a g : ℕ) (xs : List ℕ) → 0 < q → 0 < g →
    IsValidPart v k q → sum xs % g ≡ a % g →
    IsValidPart (changed v a g (sum_of_values v g xs)) k q
changed_valid v k q a g xs q_some g_some h place =
    let x = sum_of_values v g xs in
    let x_some = values_positive v g xs (λ n. h.function.positive n g g_some) in
    let function = changed_is_function v a g x g_some x_some h.function in
    let x_is = λ (e : ℕ) (b : Both v k q g e). values_are v
    (λ n. b.table.t (n * (q * e))) g b.table.c xs b.over_g in
    record {
      function = function;
      nonnegative = λ n e some.
          ⊎_elim
          (λ at. subst (λ (z : Fraction). AtMostValue nothing z) (sym at.1)
          (let b = both v k q g e q_some g_some some h in
          most_from_numbers nothing x (pos 0) (weight (λ n. b.table.t (n * (q * e))) xs) b.table.c
          (omega (arith, ints)) x_some b.table.some
          (nothing_is b.table.c) (x_is e b)
          (weight_nonnegative (λ n. b.table.t (n * (q * e))) xs
          (λ n. b.table.valid.nonnegative (n * (q * e))))))
          (λ off. subst (λ (z : Fraction). AtMostValue nothing z) (sym off.1)
          (h.nonnegative n e some))
          (changed_tells v a g x n e);
      at_solutions = λ e ys some solution.
          let b = both v k q g e q_some g_some some h in
          let w = weight (λ n. b.table.t (n * (q * e))) xs in
          let numbers = changed_numbers b.table.t q a g e w in
          let (zs, zs_sum, zs_weight) = stand_for_multiples b.table.t numbers (q * (g * e))
          (q * g) ys
          (λ y. stands b.table.t q a g e xs y place) in
          let whole : sum zs % (q * (g * e)) ≡ (k * (g * e)) % (q * (g * e)) =
          zs_sum ∙ ap₂ (λ i j. i % j) (omega arith) (omega arith)
          ∙ scaled_rest (sum ys * q) (k * e) (e * q) g solution
          ∙ ap₂ (λ i j. i % j) (omega arith) (omega arith) in
          most_from_numbers one (sum_of_values (changed v a g x) e ys) (pos b.table.c)
          (weight numbers ys) b.table.c (omega (arith, ints))
          (values_positive (changed v a g x) e ys (λ y. function.positive y e some)) b.table.some
          (one_is b.table.c)
          (values_are (changed v a g x) numbers e b.table.c ys
          (λ y. changed_is v b.table.t q a g e b.table.c x w y (x_is e b) (b.over_e y)))
          (subst (λ (z : ℤ). pos b.table.c ≤ℤ z) zs_weight (b.table.valid.at_solutions zs whole));
    }

-- points over g that add up to a/g and weigh less than it
pub lighter_points : (v : ℕ → ℕ → Fraction) (k q a g : ℕ) (xs : List ℕ) → 0 < q → 0 < g →
    IsValidPart v k q → sum xs % g ≡ a % g →
    LessValue (sum_of_values v g xs) (v a g) → HasLower v k q
lighter_points v k q a g xs q_some g_some h place less =
    let x = sum_of_values v g xs in
    let x_some = values_positive v g xs (λ n. h.function.positive n g g_some) in
    record {
      u = changed v a g x;
      n = a;
      d = g;
      some = g_some;
      valid = changed_valid v k q a g xs q_some g_some h place;
      at_most = λ n e some.
          ⊎_elim
          (λ at. subst (λ (z : Fraction). AtMostValue z (v n e)) (sym at.1)
          (let b = both v k q g e q_some g_some some h in
          let c = b.table.c in
          let w = weight (λ n. b.table.t (n * (q * e))) xs in
          let z = b.table.t (a * (q * e)) in
          let x_is = values_are v (λ n. b.table.t (n * (q * e))) g c xs b.over_g in
          most_from_numbers x (v n e) w z c x_some (h.function.positive n e some) b.table.some x_is
          (is_along (v n e) (v a g) z c (h.function.positive a g g_some)
          (h.function.at_points n e a g some g_some at.0) (b.over_g a))
          (most_to_numbers x (v a g) w z c x_some (h.function.positive a g g_some) b.table.some x_is
          (b.over_g a)
          (omega (arith, ints, less)))))
          (λ off. subst (λ (z : Fraction). AtMostValue z (v n e)) (sym off.1) (omega (arith, ints)))
          (changed_tells v a g x n e);
      below = ⊎_elim (λ at. subst (λ (z : Fraction). LessValue z (v a g)) (sym at.1) less)
          (λ off. absurd (off.0 refl))
          (changed_tells v a g x a g);
    }
