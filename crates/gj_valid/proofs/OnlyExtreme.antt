-- A continuous function that is extreme among the valid functions on all fractions is extreme.
use Rattle.std.proofs.Common.{◌≡◌, ℕ, ◌+◌, ◌-◌, ◌*◌, ◌/◌, ◌%◌, ◌<◌, ⊎_elim, [], ◌∷◌, ℤ, pos, ◌+ℤ◌, ◌-ℤ◌, ◌*ℤ◌, ◌<ℤ◌, refl, sym, subst, ap, ap₂, ◌∙◌, mul_assoc, arith}
use Rattle.std.specs.Prelude.{sum}
use Rattle.std.proofs.Math.Nat.{mul-pos, mul_comm, mod-lt}
use Rattle.std.proofs.lemmas.Int.{ints}
use Rattle.gj_lemmas.proofs.Integers.{mul_positive_z, same_or_apart_z, mul_cancel_left_z, mul_cancel_right_z}
use Rattle.gj_lemmas.proofs.Ratios.{ratio_difference}
use Rattle.gj_lemmas.proofs.Ring.{by_ring, ring}
use Rattle.gj_frac.specs.Fraction.{Fraction, sum_of, difference_of, AtMostValue}
use Rattle.gj_shape.specs.Extreme.{IsExtreme}
use Rattle.gj_shape.specs.FunctionData.{FunctionData, IsWithinBounds, IsContinuous}
use Rattle.gj_shape.specs.Table.{table, IsMinimalTable}
use Rattle.gj_shape.specs.Valid.{weight}
use Rattle.gj_shape.specs.Violation.{value_of}
use Rattle.gj_shape.proofs.TableLemmas.{table_finer}
use Rattle.gj_theory.specs.Filling.{filling}
use Rattle.gj_theory.specs.Halves.{AreDifferentHalves}
use Rattle.gj_theory.proofs.Fillings.{filling_at, filling_at_multiple, filling_period, parts_at, filling_minimal, function_finer_halves}
use Rattle.gj_theory.proofs.ValidTables.{minimal_is_valid}
use Rattle.gj_theory.proofs.Weights.{weight_le}
use Rattle.gj_valid.proofs.PartFunctions.{nothing, one, sum_of_values, IsPartFunction, IsValidPart, IsMinimalPart, IsExtremePart, part_of}
use Rattle.gj_valid.proofs.OverOneBottom.{Is, over_one, is_over, is_along, same_over, same_numbers, sum_is, most_from_numbers, most_to_numbers, nothing_is, one_is, values_positive, values_are}
use Rattle.gj_valid.proofs.FunctionTables.{has_table, on_grid, scaled_rest, by_tables, Agree, tables_valid}
use Rattle.gj_valid.proofs.OnlyMinimal.{only_minimal}

-- ---- what a valid function below leaves of twice the function

difference_is : (x y : Fraction) (n m : ℤ) (c : ℕ) → Is x n c → Is y m c →
    Is (difference_of x y) (n -ℤ m) c
difference_is x y n m c is is' = ratio_difference x.top x.bottom y.top y.bottom n m (pos c) is is'

-- twice v less u
abbrev left_over : (ℕ → ℕ → Fraction) → (ℕ → ℕ → Fraction) → ℕ → ℕ → Fraction
left_over v u n d = difference_of (sum_of (v n d) (v n d)) (u n d)

left_over_is : (v u : ℕ → ℕ → Fraction) (n d c : ℕ) (x y : ℤ) → Is (v n d) x c → Is (u n d) y c →
    Is (left_over v u n d) (x +ℤ x -ℤ y) c
left_over_is v u n d c x y v_is u_is =
    difference_is (sum_of (v n d) (v n d)) (u n d) (x +ℤ x) y c
    (sum_is (v n d) (v n d) x x c v_is v_is) u_is

left_over_positive : (v u : ℕ → ℕ → Fraction) (n d : ℕ) → 0 < d → IsPartFunction v →
    IsPartFunction u → pos 0 <ℤ (left_over v u n d).bottom
left_over_positive v u n d some v_function u_function =
    mul_positive_z ((v n d).bottom *ℤ (v n d).bottom) (u n d).bottom
    (mul_positive_z (v n d).bottom (v n d).bottom (v_function.positive n d some)
    (v_function.positive n d some))
    (u_function.positive n d some)

left_over_valid : (v u : ℕ → ℕ → Fraction) (k q : ℕ) → 0 < q → IsValidPart v k q →
    IsValidPart u k q →
    ((n d : ℕ) → 0 < d → AtMostValue (u n d) (v n d)) → IsValidPart (left_over v u) k q
left_over_valid v u k q q_some v_valid u_valid below =
    let v_some = λ (n d : ℕ). v_valid.function.positive n d in
    let u_some = λ (n d : ℕ). u_valid.function.positive n d in
    let b_some = λ (n d : ℕ) (some : 0 < d). left_over_positive v u n d some v_valid.function
    u_valid.function in
    record {
      function = record {
        positive = b_some;
        at_points = λ n d m e d_some e_some same.
            let o = over_one (v m e) (u m e) (v_some m e e_some) (u_some m e e_some) in
            same_over (left_over v u n d) (left_over v u m e) (o.n +ℤ o.n -ℤ o.m) o.c o.some
            (left_over_is v u n d o.c o.n o.m
            (is_along (v n d) (v m e) o.n o.c (v_some m e e_some)
            (v_valid.function.at_points n d m e d_some e_some same) o.x_is)
            (is_along (u n d) (u m e) o.m o.c (u_some m e e_some)
            (u_valid.function.at_points n d m e d_some e_some same) o.y_is))
            (left_over_is v u m e o.c o.n o.m o.x_is o.y_is);
      };
      nonnegative = λ n d some.
          let o = over_one (v n d) (u n d) (v_some n d some) (u_some n d some) in
          let low = most_to_numbers nothing (v n d) (pos 0) o.n o.c (omega (arith, ints))
          (v_some n d some) o.some (nothing_is o.c) o.x_is
          (v_valid.nonnegative n d some) in
          let less = most_to_numbers (u n d) (v n d) o.m o.n o.c (u_some n d some)
          (v_some n d some) o.some o.y_is o.x_is
          (below n d some) in
          most_from_numbers nothing (left_over v u n d) (pos 0) (o.n +ℤ o.n -ℤ o.m) o.c
          (omega (arith, ints)) (b_some n d some) o.some
          (nothing_is o.c) (left_over_is v u n d o.c o.n o.m o.x_is o.y_is)
          (omega (arith, ints, low, less));
      at_solutions = λ d tops some solution.
          let h = has_table v k q d q_some some v_valid in
          let l = has_table u k q d q_some some u_valid in
          let c = l.c * h.c in
          let c_some : 0 < c = mul-pos l.some h.some in
          let x = λ (n : ℕ). pos l.c *ℤ h.t (n * q) in
          let y = λ (n : ℕ). pos h.c *ℤ l.t (n * q) in
          let x_is = λ (n : ℕ).
          is_over (v n d) (h.t (n * q)) h.c l.c c
          (on_grid v q n d h.c (h.t (n * q)) q_some some v_valid.function (h.is (n * q)))
          refl in
          let y_is = λ (n : ℕ).
          is_over (u n d) (l.t (n * q)) l.c h.c c
          (on_grid u q n d l.c (l.t (n * q)) q_some some u_valid.function (l.is (n * q)))
          (mul_comm l.c h.c) in
          let above = weight_le x (λ n. x n +ℤ x n -ℤ y n) tops
          (λ n. let less = most_to_numbers (u n d) (v n d) (y n) (x n) c (u_some n d some)
          (v_some n d some) c_some (y_is n) (x_is n)
          (below n d some) in
          omega (arith, ints, less)) in
          let least = most_to_numbers one (sum_of_values v d tops) (pos c) (weight x tops) c
          (omega (arith, ints))
          (values_positive v d tops (λ n. v_some n d some)) c_some (one_is c)
          (values_are v x d c tops x_is)
          (v_valid.at_solutions d tops some solution) in
          most_from_numbers one (sum_of_values (left_over v u) d tops) (pos c)
          (weight (λ n. x n +ℤ x n -ℤ y n) tops) c
          (omega (arith, ints)) (values_positive (left_over v u) d tops (λ n. b_some n d some))
          c_some (one_is c)
          (values_are (left_over v u) (λ n. x n +ℤ x n -ℤ y n) d c tops
          (λ n. left_over_is v u n d c (x n) (y n) (x_is n) (y_is n)))
          (omega (arith, ints, above, least));
    }

pub extreme_is_minimal : (v : ℕ → ℕ → Fraction) (k q : ℕ) → 0 < q → IsExtremePart v k q →
    IsMinimalPart v k q
extreme_is_minimal v k q q_some h = record {
  valid = h.valid;
  none_below = λ u valid below n d some.
      let v_some = h.valid.function.positive n d some in
      let u_some = valid.function.positive n d some in
      let b_some = left_over_positive v u n d some h.valid.function valid.function in
      let o = over_one (v n d) (u n d) v_some u_some in
      let b_is = left_over_is v u n d o.c o.n o.m o.x_is o.y_is in
      let same = h.no_average u (left_over v u) valid
      (left_over_valid v u k q q_some h.valid valid below)
      (λ i e e_some.
      let p = over_one (v i e) (u i e) (h.valid.function.positive i e e_some)
      (valid.function.positive i e e_some) in
      same_over (sum_of (u i e) (left_over v u i e)) (sum_of (v i e) (v i e))
      (p.n +ℤ p.n) p.c p.some
      (subst (λ (z : ℤ). Is (sum_of (u i e) (left_over v u i e)) z p.c) (whole p.n p.m)
      (sum_is (u i e) (left_over v u i e) p.m (p.n +ℤ p.n -ℤ p.m) p.c p.y_is
      (left_over_is v u i e p.c p.n p.m p.x_is p.y_is)))
      (sum_is (v i e) (v i e) p.n p.n p.c p.x_is p.x_is))
      n d some in
      let numbers = same_numbers (u n d) (left_over v u n d) o.m
      (o.n +ℤ o.n -ℤ o.m) o.c u_some b_some same o.y_is b_is in
      same_over (u n d) (v n d) o.n o.c o.some
      (subst (λ (z : ℤ). Is (u n d) z o.c) (equal o.n o.m numbers) o.y_is) o.x_is;
}
  where
    whole : (n m : ℤ) → m +ℤ (n +ℤ n -ℤ m) ≡ n +ℤ n
    whole n m = omega (arith, ints)

    equal : (n m : ℤ) → m ≡ n +ℤ n -ℤ m → m ≡ n
    equal n m e = omega (arith, ints)

-- ---- the filling of a table on all fractions

filling_finer : (t : ℕ → ℤ) (d e i : ℕ) → 0 < d → 0 < e →
    filling t (d * e) (i * e) ≡ pos e *ℤ filling t d i
filling_finer t d e i d_some e_some =
    let a = i / d in
    let r = i % d in
    let u = d - r in
    let whole : u + r ≡ d = let low = mod-lt i d_some in omega arith in
    let place : i ≡ a * d + r = parts_at i d in
    filling_at t (d * e) (i * e) a (u * e) (r * e) (mul-pos d_some e_some)
    (ap (λ j. j * e) place ∙ spread a d r e) (scaled u r d e whole)
    ∙ by_ring (pos u ∷ pos r ∷ pos e ∷ t a ∷ t (a + 1) ∷ []) (search ring depth 30) refl
    ∙ ap (λ z. pos e *ℤ z) (sym (filling_at t d i a u r d_some place whole))
  where
    spread : (a d r e : ℕ) → (a * d + r) * e ≡ a * (d * e) + r * e
    spread a d r e = omega arith

    scaled : (u r d e : ℕ) → u + r ≡ d → u * e + r * e ≡ d * e
    scaled u r d e whole = omega (arith, ap (λ x. x * e) whole)

fillings_agree : (t : ℕ → ℤ) (n : ℕ) → ((i : ℕ) → t (i + n) ≡ t i) → Agree (filling t) n
fillings_agree t n period = record {
  finer = λ d e i d_some e_some. filling_finer t d e i d_some e_some;
  has_period = λ d i some. filling_period t n d some period i;
}

-- f is one point over each bottom
coarser_place : (v : ℕ → ℕ → Fraction) (k q m : ℕ) → IsValidPart v (k * m) (q * m) →
    IsValidPart v k q
coarser_place v k q m h = record {
  function = h.function;
  nonnegative = h.nonnegative;
  at_solutions = λ d tops some solution.
      h.at_solutions d tops some
      (ap₂ (λ i j. i % j) (omega arith) (omega arith)
      ∙ scaled_rest (sum tops * q) (k * d) (d * q) m solution
      ∙ ap₂ (λ i j. i % j) (omega arith) (omega arith));
}

filled_valid : (t : ℕ → ℤ) (k q m s : ℕ) → 0 < q → 0 < m → 0 < s →
    IsMinimalTable t (q * m) (k * m) s →
    IsValidPart (by_tables (filling t) (q * m) s) k q
filled_valid t k q m s q_some m_some s_some h =
    coarser_place (by_tables (filling t) (q * m) s) k q m
    (tables_valid (filling t) (k * m) (q * m) s s_some (fillings_agree t (q * m) h.has_period)
    (λ d some. minimal_is_valid (filling t d) (q * m * d) (k * m * d) (s * d)
    (filling_minimal t (q * m) (k * m) s d (mul-pos q_some m_some) some h)))

-- the value of the function as an entry on a grid that is finer than its own
finer_value : (f : FunctionData) (n d m : ℕ) → 0 < d → 0 < m →
    Is (part_of f n d) (table f (m * d) (n * (f.order * m))) (f.scale * (m * d))
finer_value f n d m d_some m_some =
    by_ring (value_of f n d ∷ pos f.scale ∷ pos m ∷ pos d ∷ []) (search ring depth 30) refl
    ∙ ap (λ z. z *ℤ pos (f.scale * d))
    (sym (table_finer f d m (n * f.order) d_some m_some)
    ∙ ap₂ (table f) (mul_comm d m) (mul_assoc n f.order m))

twice : (z : ℤ) (c : ℕ) → pos c *ℤ z +ℤ pos c *ℤ z ≡ pos (2 * c) *ℤ z
twice z c = by_ring (z ∷ pos c ∷ []) (search ring depth 20) refl

-- different halves on one grid give different halves on all fractions
halves_deny_function : (f : FunctionData) (m c : ℕ) (a b : ℕ → ℤ) → IsWithinBounds f →
    IsContinuous f → 0 < m →
    AreDifferentHalves (table f m) (f.order * m) (f.place * m) (f.scale * m) c a b →
    IsExtremePart (part_of f) f.place f.order → ⊥
halves_deny_function f m c a b l continuous m_some h extreme =
    let order : 0 < f.order = let low = l.order_low in omega arith in
    let scale : 0 < f.scale = let low = l.scale_low in omega arith in
    let n = f.order * m in
    let n_some : 0 < n = mul-pos order m_some in
    let s = c * (f.scale * m) in
    let s_some : 0 < s = mul-pos h.factor (mul-pos scale m_some) in
    let first = by_tables (filling a) n s in
    let second = by_tables (filling b) n s in
    let same = extreme.no_average first second
    (filled_valid a f.place f.order m s order m_some s_some h.first)
    (filled_valid b f.place f.order m s order m_some s_some h.second)
    (λ i d some.
    let finer = function_finer_halves f m d c a b l continuous m_some some h in
    let z = table f (m * d) (i * n) in
    let f_is = is_over (part_of f i d) z (f.scale * (m * d)) c (s * d)
    (finer_value f i d m some m_some) (omega arith) in
    same_over (sum_of (first i d) (second i d)) (sum_of (part_of f i d) (part_of f i d))
    (pos c *ℤ z +ℤ pos c *ℤ z) (s * d) (mul-pos s_some some)
    (subst (λ (w : ℤ). Is (sum_of (first i d) (second i d)) w (s * d))
    (finer.average (i * n) ∙ sym (twice z c))
    (sum_is (first i d) (second i d) (filling a d (i * n)) (filling b d (i * n)) (s * d) refl refl))
    (sum_is (part_of f i d) (part_of f i d) (pos c *ℤ z) (pos c *ℤ z) (s * d) f_is f_is))
    h.index n n_some in
    let bottom : 0 < s * n = mul-pos s_some n_some in
    let entries : filling a n (h.index * n) ≡ filling b n (h.index * n) =
    mul_cancel_right_z (filling a n (h.index * n)) (filling b n (h.index * n)) (pos (s * n)) same
    (omega (arith, bottom)) in
    h.different
    (mul_cancel_left_z (a h.index) (b h.index) (pos n)
    (sym (filling_at_multiple a n h.index n_some) ∙ entries
    ∙ filling_at_multiple b n h.index n_some) (omega (arith, n_some)))

pub only_extreme : (f : FunctionData) → IsWithinBounds f → IsContinuous f →
    IsExtremePart (part_of f) f.place f.order →
    IsExtreme f
only_extreme f l continuous h m some = record {
  minimal = only_minimal f l
      (extreme_is_minimal (part_of f) f.place f.order (let low = l.order_low in omega arith) h) m
      some;
  no_average = λ c a b c_some first second average i.
      ⊎_elim (λ e. e)
      (λ differs. absurd (halves_deny_function f m c a b l continuous some (record {
        factor = c_some;
        first = first;
        second = second;
        average = average;
        index = i;
        different = differs;
      }) h))
      (same_or_apart_z (a i) (b i));
}
