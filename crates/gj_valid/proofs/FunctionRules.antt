-- The functions that are minimal among the valid ones are those that meet the rules.
use Rattle.std.proofs.Common.{◌≡◌, ℕ, ◌+◌, ◌*◌, ◌%◌, ◌<◌, map, ℤ, pos, ◌+ℤ◌, ◌*ℤ◌, ◌≤ℤ◌, ◌<ℤ◌, refl, sym, subst, ap, ap₂, ◌∙◌, arith}
use Rattle.std.specs.Prelude.{sum}
use Rattle.std.proofs.Math.Nat.{mul-pos, mul_comm, zero-mul}
use Rattle.std.proofs.lemmas.Int.{ints}
use Rattle.gj_lemmas.proofs.Integers.{mul_positive_z}
use Rattle.gj_frac.specs.Fraction.{Fraction, sum_of}
use Rattle.gj_shape.specs.Table.{IsMinimalTable}
use Rattle.gj_shape.specs.Valid.{weight}
use Rattle.gj_theory.proofs.ValidTables.{minimal_is_valid, minimal_among}
use Rattle.gj_valid.proofs.PartFunctions.{nothing, one, sum_of_values, IsPartFunction, IsValidPart, IsMinimalPart, HasRules}
use Rattle.gj_valid.proofs.OverOneBottom.{Is, is_over, is_along, one_number, same_over, same_numbers, sum_is, most_from_numbers, most_to_numbers, nothing_is, one_is, values_positive, values_are}
use Rattle.gj_valid.proofs.FunctionTables.{has_table, HasEntries, has_entries, at_place, on_grid, scaled_rest, sum_scaled, weight_of_map}
use Rattle.gj_valid.proofs.MinimalFunctions.{multiple_valid}
use Rattle.gj_valid.proofs.ChangedOnGrid.{tables_are_minimal}

both_positive : (v : ℕ → ℕ → Fraction) (n m d : ℕ) → 0 < d → IsPartFunction v →
    pos 0 <ℤ (sum_of (v n d) (v m d)).bottom
both_positive v n m d some h = mul_positive_z (v n d).bottom (v m d).bottom (h.positive n d some)
    (h.positive m d some)

-- ---- from the rules

-- by the rules the tables are minimal
rules_table : (v : ℕ → ℕ → Fraction) (k q m : ℕ) → 0 < q → 0 < m → HasRules v k q →
    (e : HasEntries v q m) →
    IsMinimalTable e.t (q * m) (k * m) e.c
rules_table v k q m q_some m_some h e =
    let n = q * m in
    let n_some : 0 < n = mul-pos q_some m_some in
    let positive = λ (i : ℕ). h.function.positive i n n_some in
    record {
      has_period = e.has_period;
      zero_at_zero =
          one_number (v 0 n) (e.t 0) (pos 0) e.c (positive 0) (e.is 0)
          (at_place v 0 n 0 1 e.c (pos 0) n_some (omega arith) h.function (omega arith)
          (is_along (v 0 1) nothing (pos 0) e.c (omega (arith, ints)) h.zero_at_zero
          (nothing_is e.c)));
      nonnegative = λ i.
          most_to_numbers nothing (v i n) (pos 0) (e.t i) e.c (omega (arith, ints))
          (positive i) e.some (nothing_is e.c) (e.is i)
          (h.nonnegative i n n_some);
      subadditive = λ i j.
          most_to_numbers (v (i + j) n) (sum_of (v i n) (v j n)) (e.t (i + j)) (e.t i +ℤ e.t j) e.c
          (positive (i + j))
          (both_positive v i j n n_some h.function) e.some (e.is (i + j))
          (sum_is (v i n) (v j n) (e.t i) (e.t j) e.c (e.is i) (e.is j))
          (h.subadditive i j n n_some);
      symmetric = λ i j opposite.
          same_numbers (sum_of (v i n) (v j n)) one (e.t i +ℤ e.t j) (pos e.c) e.c
          (both_positive v i j n n_some h.function)
          (omega (arith, ints))
          (h.symmetric i j n n_some (scaled_rest (i + j) (k * m) n q opposite
          ∙ ap (λ l. l % (n * q)) (omega arith)))
          (sum_is (v i n) (v j n) (e.t i) (e.t j) e.c (e.is i) (e.is j)) (one_is e.c);
    }

rules_valid : (v : ℕ → ℕ → Fraction) (k q : ℕ) → 0 < q → HasRules v k q → IsValidPart v k q
rules_valid v k q q_some h = record {
  function = h.function;
  nonnegative = h.nonnegative;
  at_solutions = λ d tops some solution.
      let e = has_entries v q d q_some some h.function in
      let valid = minimal_is_valid e.t (q * d) (k * d) e.c (rules_table v k q d q_some some h e) in
      let places = map (λ n. n * q) tops in
      let sum_is : sum places ≡ sum tops * q = sum_scaled q tops in
      let least = valid.at_solutions places
      (ap₂ (λ i j. i % j) sum_is (omega arith) ∙ solution ∙ ap (λ j. k * d % j) (omega arith)) in
      most_from_numbers one (sum_of_values v d tops) (pos e.c) (weight (λ n. e.t (n * q)) tops) e.c
      (omega (arith, ints))
      (values_positive v d tops (λ n. h.function.positive n d some)) e.some (one_is e.c)
      (values_are v (λ n. e.t (n * q)) d e.c tops
      (λ n. on_grid v q n d e.c (e.t (n * q)) q_some some h.function (e.is (n * q))))
      (subst (λ (w : ℤ). pos e.c ≤ℤ w) (weight_of_map e.t (λ n. n * q) tops) least);
}

pub rules_among : (v : ℕ → ℕ → Fraction) (k q : ℕ) → 0 < q → HasRules v k q → IsMinimalPart v k q
rules_among v k q q_some h = record {
  valid = rules_valid v k q q_some h;
  none_below = λ u valid below n d some.
      let grid : 0 < q * d = mul-pos q_some some in
      let e = has_entries v q d q_some some h.function in
      let r = has_table u k q d q_some some valid in
      let b = r.c * e.c in
      let b_some : 0 < b = mul-pos r.some e.some in
      let u_is = λ (i : ℕ). is_over (u i (q * d)) (r.t i) r.c e.c b (r.is i) (mul_comm r.c e.c) in
      let v_is = λ (i : ℕ). is_over (v i (q * d)) (e.t i) e.c r.c b (e.is i) refl in
      let minimal = minimal_among e.t (q * d) (k * d) e.c grid
      (rules_table v k q d q_some some h e) in
      let equal = minimal.none_below r.c (λ i. pos e.c *ℤ r.t i) (record {
        some = r.some;
        valid = multiple_valid r.t (q * d) (k * d) r.c e.c b r.valid (mul_comm r.c e.c);
        at_most = λ i.
            most_to_numbers (u i (q * d)) (v i (q * d)) (pos e.c *ℤ r.t i) (pos r.c *ℤ e.t i) b
            (valid.function.positive i (q * d) grid)
            (h.function.positive i (q * d) grid) b_some (u_is i) (v_is i) (below i (q * d) grid);
      }) (n * q) in
      same_over (u n d) (v n d) (pos e.c *ℤ r.t (n * q)) b b_some
      (on_grid u q n d b (pos e.c *ℤ r.t (n * q)) q_some some valid.function (u_is (n * q)))
      (subst (λ (z : ℤ). Is (v n d) z b) (sym equal)
      (on_grid v q n d b (pos r.c *ℤ e.t (n * q)) q_some some h.function (v_is (n * q))));
}

-- ---- to the rules

pub rules_only : (v : ℕ → ℕ → Fraction) (k q : ℕ) → 0 < q → IsMinimalPart v k q → HasRules v k q
rules_only v k q q_some h =
    let function = h.valid.function in
    record {
      function = function;
      zero_at_zero =
          let r = has_table v k q 1 q_some (omega arith) h.valid in
          let minimal = tables_are_minimal v k q 1 q_some (omega arith) h r in
          same_over (v 0 1) nothing (pos 0) r.c r.some
          (subst (λ (z : ℤ). Is (v 0 1) z r.c) (ap r.t (zero-mul q) ∙ minimal.zero_at_zero)
          (on_grid v q 0 1 r.c (r.t (0 * q)) q_some (omega arith) function (r.is (0 * q))))
          (nothing_is r.c);
      nonnegative = h.valid.nonnegative;
      subadditive = λ n m d some.
          let r = has_table v k q d q_some some h.valid in
          let minimal = tables_are_minimal v k q d q_some some h r in
          let is = λ (i : ℕ). on_grid v q i d r.c (r.t (i * q)) q_some some function
          (r.is (i * q)) in
          let split : n * q + m * q ≡ (n + m) * q = omega arith in
          most_from_numbers (v (n + m) d) (sum_of (v n d) (v m d)) (r.t ((n + m) * q))
          (r.t (n * q) +ℤ r.t (m * q)) r.c
          (function.positive (n + m) d some) (both_positive v n m d some function) r.some
          (is (n + m))
          (sum_is (v n d) (v m d) (r.t (n * q)) (r.t (m * q)) r.c (is n) (is m))
          (subst (λ (i : ℕ). r.t i ≤ℤ (r.t (n * q) +ℤ r.t (m * q))) split
          (minimal.subadditive (n * q) (m * q)));
      symmetric = λ n m d some opposite.
          let r = has_table v k q d q_some some h.valid in
          let minimal = tables_are_minimal v k q d q_some some h r in
          let is = λ (i : ℕ). on_grid v q i d r.c (r.t (i * q)) q_some some function
          (r.is (i * q)) in
          let whole = minimal.symmetric (n * q) (m * q)
          (ap₂ (λ i j. i % j) (omega arith) (omega arith) ∙ opposite
          ∙ ap (λ j. k * d % j) (omega arith)) in
          same_over (sum_of (v n d) (v m d)) one (pos r.c) r.c r.some
          (subst (λ (z : ℤ). Is (sum_of (v n d) (v m d)) z r.c) whole
          (sum_is (v n d) (v m d) (r.t (n * q)) (r.t (m * q)) r.c (is n) (is m)))
          (one_is r.c);
    }
