-- A valid table below that of a minimal function on a grid gives a valid function below: the
-- function itself off the grid.
use Rattle.std.proofs.Common.{◌≡◌, ℕ, ◌+◌, ◌*◌, ◌/◌, ◌%◌, ◌<◌, ◌⊎◌, inl, inr, ⊎_elim, eqb, cond, List, [], ◌∷◌, ℤ, pos, ◌+ℤ◌, ◌*ℤ◌, ◌≤ℤ◌, ◌<ℤ◌, refl, sym, subst, ap, ap₂, ◌∙◌, arith}
use Rattle.std.specs.Prelude.{sum}
use Rattle.std.proofs.Math.Nat.{mul-pos, mul_comm, div-add-mod', mul-mod_left, eq_of_mul-eq-mul_right}
use Rattle.std.proofs.lemmas.Bool.{cond-true, cond-false}
use Rattle.std.proofs.lemmas.Bool.Decides.{eqb_tells}
use Rattle.std.proofs.lemmas.Int.{ints, by_lt_z}
use Rattle.gj_lemmas.proofs.Integers.{mul_add_z, mul_le_mul_left_z}
use Rattle.gj_lemmas.proofs.Quotients.{same_at_remainder, same_remainder, from_same_remainder}
use Rattle.gj_lemmas.proofs.Ring.{by_ring, ring}
use Rattle.gj_frac.specs.Fraction.{Fraction, SameValue, LessValue, AtMostValue}
use Rattle.gj_shape.specs.Table.{IsMinimalTable}
use Rattle.gj_shape.specs.Valid.{weight, IsDominated}
use Rattle.gj_theory.proofs.ValidTables.{asymmetry_dominated}
use Rattle.gj_theory.proofs.Weights.{sum_cons}
use Rattle.gj_lemmas.proofs.Integers.{same_or_apart_z}
use Rattle.gj_valid.proofs.PartFunctions.{SamePlace, nothing, one, sum_of_values, IsPartFunction, IsMinimalPart}
use Rattle.gj_valid.proofs.OverOneBottom.{Is, is_scaled, is_over, one_number, most_from_numbers, less_from_numbers, nothing_is, one_is, values_positive, values_are}
use Rattle.gj_valid.proofs.FunctionTables.{HasTable, has_table, at_place, scaled_rest, cancel_rest}
use Rattle.gj_valid.proofs.ChangedAtPoint.{HasLower, not_lower, lighter_points, same_point_sym}

-- ---- the tables of a minimal function are 0 at 0 and subadditive

table_zero : (v : ℕ → ℕ → Fraction) (k q m : ℕ) → 0 < q → 0 < m → IsMinimalPart v k q →
    (h : HasTable v k q m) → h.t 0 ≡ pos 0
table_zero v k q m q_some m_some minimal h =
    let n = q * m in
    let n_some : 0 < n = mul-pos q_some m_some in
    let low = h.valid.nonnegative 0 in
    by_lt_z (pos 0) (h.t 0)
    (λ l. absurd (not_lower v k q minimal
    (lighter_points v k q 0 n [] q_some n_some minimal.valid refl
    (less_from_numbers nothing (v 0 n) (pos 0) (h.t 0) h.c (omega (arith, ints))
    (minimal.valid.function.positive 0 n n_some) h.some
    (nothing_is h.c) (h.is 0) l))))
    (λ l. omega (arith, ints))

table_below : (v : ℕ → ℕ → Fraction) (k q m : ℕ) → 0 < q → 0 < m → IsMinimalPart v k q →
    (h : HasTable v k q m) →
    (i j : ℕ) → h.t (i + j) ≤ℤ (h.t i +ℤ h.t j)
table_below v k q m q_some m_some minimal h i j =
    let n = q * m in
    let n_some : 0 < n = mul-pos q_some m_some in
    let positive = λ (i : ℕ). minimal.valid.function.positive i n n_some in
    by_lt_z (h.t i +ℤ h.t j) (h.t (i + j))
    (λ l. absurd (not_lower v k q minimal
    (lighter_points v k q (i + j) n (i ∷ j ∷ []) q_some n_some minimal.valid
    (ap (λ l. l % n) (sum_cons i (j ∷ []) ∙ ap (λ l. i + l) (sum_cons j []) ∙ omega arith))
    (less_from_numbers (sum_of_values v n (i ∷ j ∷ [])) (v (i + j) n) (weight h.t (i ∷ j ∷ []))
    (h.t (i + j)) h.c
    (values_positive v n (i ∷ j ∷ []) positive) (positive (i + j)) h.some
    (values_are v h.t n h.c (i ∷ j ∷ []) h.is) (h.is (i + j))
    (omega (arith, ints, l))))))
    (λ l. l)

-- ---- points on a grid

-- the function v with u i/s at each point i/n
abbrev spread : (ℕ → ℕ → Fraction) → ℕ → (ℕ → ℤ) → ℕ → ℕ → ℕ → Fraction
spread v n u s x e = cond (eqb (x * n % e) 0) (record { top = u (x * n / e); bottom = pos s })
    (v x e)

spread_tells : (v : ℕ → ℕ → Fraction) (n : ℕ) (u : ℕ → ℤ) (s x e : ℕ) →
    ((i : ℕ) × (x * n ≡ i * e) × (spread v n u s x e ≡ record { top = u i; bottom = pos s }))
    ⊎ (((i : ℕ) → x * n ≡ i * e → ⊥) × (spread v n u s x e ≡ v x e))
spread_tells v n u s x e =
    ⊎_elim
    (λ at. inl (
      x * n / e,
      (let split = div-add-mod' (x * n) e in let rest = at.1 in omega arith),
      cond-true (eqb (x * n % e) 0) (record { top = u (x * n / e); bottom = pos s }) (v x e) at.0,
    ))
    (λ off. inr (
      λ i place. off.1 (ap (λ j. j % e) place ∙ mul-mod_left i e),
      cond-false (eqb (x * n % e) 0) (record { top = u (x * n / e); bottom = pos s }) (v x e) off.0,
    ))
    (eqb_tells (x * n % e) 0)

-- a point on the grid and one that differs by a whole number
grid_step : (x d y e n i : ℕ) → 0 < d → SamePlace x d y e → x * n ≡ i * d →
    (a : ℕ) × (b : ℕ) × (i * e + a * n * e ≡ y * n + b * n * e)
grid_step x d y e n i some same place =
    let a = y * d / (d * e) in
    let b = x * e / (d * e) in
    let whole : x * e + a * (d * e) ≡ y * d + b * (d * e) =
    from_same_remainder (x * e) (y * d) (d * e) same in
    let first : x * n * e ≡ i * d * e = ap (λ z. z * e) place in
    let scaled : (x * e + a * (d * e)) * n ≡ (y * d + b * (d * e)) * n = ap (λ z. z * n) whole in
    (a, b, eq_of_mul-eq-mul_right d some (i * e + a * n * e) (y * n + b * n * e) (omega arith))

grid_along : (x d y e n i : ℕ) → 0 < d → SamePlace x d y e → x * n ≡ i * d →
    (j : ℕ) × (y * n ≡ j * e)
grid_along x d y e n i some same place =
    let (a, b, whole) = grid_step x d y e n i some same place in
    let rest : y * n % e ≡ 0 = same_remainder (y * n) (i * e) (b * n) (a * n) e (sym whole)
    ∙ mul-mod_left i e in
    (y * n / e, let split = div-add-mod' (y * n) e in omega arith)

grid_same : (x d y e n i j : ℕ) → 0 < d → 0 < e → SamePlace x d y e → x * n ≡ i * d →
    y * n ≡ j * e → i % n ≡ j % n
grid_same x d y e n i j some e_some same place other =
    let (a, b, whole) = grid_step x d y e n i some same place in
    same_remainder i j a b n (eq_of_mul-eq-mul_right e e_some (i + a * n) (j + b * n) (omega arith))

spread_is_function : (v : ℕ → ℕ → Fraction) (n : ℕ) (u : ℕ → ℤ) (s : ℕ) → 0 < s →
    ((i : ℕ) → u (i + n) ≡ u i) → IsPartFunction v →
    IsPartFunction (spread v n u s)
spread_is_function v n u s some period h = record {
  positive = λ x e e_some.
      ⊎_elim (λ at. let (i, place, is) = at in
      subst (λ (z : Fraction). pos 0 <ℤ z.bottom) (sym is) (omega (arith, ints)))
      (λ off. subst (λ (z : Fraction). pos 0 <ℤ z.bottom) (sym off.1) (h.positive x e e_some))
      (spread_tells v n u s x e);
  at_points = λ x d y e d_some e_some same.
      ⊎_elim
      (λ at. let (i, place, is) = at in
      ⊎_elim
      (λ at'. let (j, place', is') = at' in
      let equal = same_at_remainder u n period i j
      (grid_same x d y e n i j d_some e_some same place place') in
      subst (λ (z : Fraction). SameValue z (spread v n u s y e)) (sym is)
      (subst (λ (z : Fraction). SameValue (record { top = u i; bottom = pos s }) z) (sym is')
      (ap (λ w. w *ℤ pos s) equal)))
      (λ off'. absurd (let (j, place') = grid_along x d y e n i d_some same place in
      off'.0 j place'))
      (spread_tells v n u s y e))
      (λ off. ⊎_elim
      (λ at'. let (j, place', is') = at' in
      absurd (let (i, place) = grid_along y e x d n j e_some (same_point_sym x d y e same) place' in
      off.0 i place))
      (λ off'. subst (λ (z : Fraction). SameValue z (spread v n u s y e)) (sym off.1)
      (subst (λ (z : Fraction). SameValue (v x d) z) (sym off'.1)
      (h.at_points x d y e d_some e_some same)))
      (spread_tells v n u s y e))
      (spread_tells v n u s x d);
}

-- ---- the values at points over e, those on the grid and those off it

-- the number of one value over s c: by the table u on the grid, by the finer table t off it
record Number (x : Fraction) (u t : ℕ → ℤ) (n s c e y : ℕ) : Type 0 where
  z : ℤ
  is : Is x z (s * c)
  from : ((i : ℕ) × (y * n ≡ i * e) × (z ≡ pos c *ℤ u i)) ⊎ (z ≡ pos s *ℤ t (y * n))

number : (v : ℕ → ℕ → Fraction) (u t : ℕ → ℤ) (n s c e y : ℕ) → Is (v y e) (t (y * n)) c →
    Number (spread v n u s y e) u t n s c e y
number v u t n s c e y v_is =
    ⊎_elim
    (λ at. let (i, place, same) = at in record {
      z = pos c *ℤ u i;
      is = subst (λ (x : Fraction). Is x (pos c *ℤ u i) (s * c)) (sym same)
          (by_ring (u i ∷ pos s ∷ pos c ∷ []) (search ring depth 20) refl);
      from = inl (i, place, refl);
    })
    (λ off. record {
      z = pos s *ℤ t (y * n);
      is = subst (λ (x : Fraction). Is x (pos s *ℤ t (y * n)) (s * c)) (sym off.1)
          (is_scaled (v y e) (t (y * n)) c s v_is);
      from = inr refl;
    })
    (spread_tells v n u s y e)

-- the places of those on the grid, and the sum of the others
record Split (u t : ℕ → ℤ) (n s c e : ℕ) (w : ℤ) (ys : List ℕ) : Type 0 where
  places : List ℕ
  rest : ℕ
  whole : sum places * e + rest ≡ sum ys * n
  most : (pos c *ℤ weight u places +ℤ pos s *ℤ t rest) ≤ℤ w

split_on : (u t : ℕ → ℤ) (n s c e : ℕ) (w z : ℤ) (y i : ℕ) (ys : List ℕ) → y * n ≡ i * e →
    z ≡ pos c *ℤ u i → Split u t n s c e w ys →
    Split u t n s c e (z +ℤ w) (y ∷ ys)
split_on u t n s c e w z y i ys place is r =
    let total = mul_add_z (pos c) (u i) (weight u r.places) in
    let most = r.most in
    record {
      places = i ∷ r.places;
      rest = r.rest;
      whole = ap (λ l. l * e + r.rest) (sum_cons i r.places)
          ∙ split_sum i (sum r.places) e r.rest y (sum ys) n place r.whole
          ∙ ap (λ l. l * n) (sym (sum_cons y ys));
      most = omega (arith, ints);
    }
  where
    split_sum : (i p e r y l n : ℕ) → y * n ≡ i * e → p * e + r ≡ l * n →
        (i + p) * e + r ≡ (y + l) * n
    split_sum i p e r y l n place whole = omega arith

split_off : (u t : ℕ → ℤ) (n s c e : ℕ) (w z : ℤ) (y : ℕ) (ys : List ℕ) →
    ((i j : ℕ) → t (i + j) ≤ℤ (t i +ℤ t j)) →
    z ≡ pos s *ℤ t (y * n) → Split u t n s c e w ys → Split u t n s c e (z +ℤ w) (y ∷ ys)
split_off u t n s c e w z y ys below is r =
    let step = mul_le_mul_left_z (t (y * n + r.rest)) (t (y * n) +ℤ t r.rest) (pos s)
    (omega (arith, ints)) (below (y * n) r.rest) in
    let total = mul_add_z (pos s) (t (y * n)) (t r.rest) in
    let most = r.most in
    record {
      places = r.places;
      rest = y * n + r.rest;
      whole = split_sum (sum r.places * e) r.rest y (sum ys) n r.whole
          ∙ ap (λ l. l * n) (sym (sum_cons y ys));
      most = omega (arith, ints);
    }
  where
    split_sum : (p r y l n : ℕ) → p + r ≡ l * n → p + (y * n + r) ≡ (y + l) * n
    split_sum p r y l n whole = omega arith

split : (v : ℕ → ℕ → Fraction) (u t : ℕ → ℤ) (n s c e : ℕ) (ys : List ℕ) → t 0 ≡ pos 0 →
    ((i j : ℕ) → t (i + j) ≤ℤ (t i +ℤ t j)) →
    (each : (y : ℕ) → Number (spread v n u s y e) u t n s c e y) →
    Split u t n s c e (weight (λ y. (each y).z) ys) ys
split v u t n s c e [] none below each = record {
  places = [];
  rest = 0;
  whole = omega arith;
  most = let here : pos s *ℤ t 0 ≡ pos s *ℤ pos 0 = ap (λ z. pos s *ℤ z) none in
      omega (arith, ints);
}
split v u t n s c e (y ∷ ys) none below each =
    let r = split v u t n s c e ys none below each in
    ⊎_elim
    (λ on. let (i, place, is) = on in
    split_on u t n s c e (weight (λ y. (each y).z) ys) (each y).z y i ys place is r)
    (λ off. split_off u t n s c e (weight (λ y. (each y).z) ys) (each y).z y ys below off r)
    (each y).from

-- the rest is on the grid too, if all add up to a point on it
rest_on_grid : (p r n e k : ℕ) → 0 < e → (p * e + r) % (n * e) ≡ (k * e) % (n * e) →
    (w : ℕ) × (r ≡ w * e) × ((w + p) % n ≡ k % n)
rest_on_grid p r n e k some same =
    let x = k * e / (n * e) in
    let y = (p * e + r) / (n * e) in
    let whole : p * e + r + x * (n * e) ≡ k * e + y * (n * e) =
    from_same_remainder (p * e + r) (k * e) (n * e) same in
    let none : r % e ≡ 0 = same_remainder r (k * e) (p + x * n) (y * n) e (omega arith)
    ∙ mul-mod_left k e in
    let is : r ≡ r / e * e = let parts = div-add-mod' r e in omega arith in
    let w = r / e in (
      w,
      is,
      cancel_rest (w + p) k n e some
          (ap (λ i. i % (n * e)) (let product : (w + p) * e ≡ w * e + p * e = omega arith in
          omega arith) ∙ same),
    )

enough : (c b s : ℕ) (l t w u z : ℤ) → (pos c *ℤ l +ℤ pos (b * s) *ℤ t) ≤ℤ z →
    pos s *ℤ t ≡ pos c *ℤ w → u ≤ℤ (pos b *ℤ w) →
    pos (b * s) ≤ℤ (u +ℤ l) → pos (b * s * c) ≤ℤ z
enough c b s l t w u z most same below least =
    let first : pos (b * s) *ℤ t ≡ pos b *ℤ (pos s *ℤ t) =
    by_ring (pos b ∷ pos s ∷ t ∷ []) (search ring depth 20) refl in
    let second : pos b *ℤ (pos s *ℤ t) ≡ pos b *ℤ (pos c *ℤ w) = ap (λ x. pos b *ℤ x) same in
    let third : pos b *ℤ (pos c *ℤ w) ≡ pos c *ℤ (pos b *ℤ w) =
    by_ring (pos b ∷ pos c ∷ w ∷ []) (search ring depth 20) refl in
    let fourth = mul_le_mul_left_z u (pos b *ℤ w) (pos c) (omega (arith, ints)) below in
    let fifth = mul_le_mul_left_z (pos (b * s)) (u +ℤ l) (pos c) (omega (arith, ints)) least in
    let sixth = mul_add_z (pos c) u l in
    let last : pos (b * s * c) ≡ pos c *ℤ pos (b * s) =
    by_ring (pos b ∷ pos c ∷ pos s ∷ []) (search ring depth 20) refl in
    rw last (omega (arith, ints, most, first, second, third, fourth, fifth, sixth))

-- an entry of the table of a finer grid at a place of the coarser one
finer_entry : (v : ℕ → ℕ → Fraction) (k q m e w r : ℕ) → 0 < q → 0 < m → 0 < e → IsPartFunction v →
    (h : HasTable v k q m) →
    (f : HasTable v k q (m * e)) → r ≡ w * e → pos h.c *ℤ f.t r ≡ pos f.c *ℤ h.t w
finer_entry v k q m e w r q_some m_some some function h f rest_is =
    let n = q * m in
    let n_some : 0 < n = mul-pos q_some m_some in
    let grid : 0 < q * (m * e) = mul-pos q_some (mul-pos m_some some) in
    let place : w * (q * (m * e)) ≡ w * e * (q * m) = omega arith in
    let coarse = is_over (v w n) (h.t w) h.c f.c (f.c * h.c) (h.is w) refl in
    let fine = is_over (v w n) (f.t (w * e)) f.c h.c (f.c * h.c)
    (at_place v w n (w * e) (q * (m * e)) f.c (f.t (w * e)) n_some grid function place
    (f.is (w * e))) (mul_comm f.c h.c) in
    ap (λ i. pos h.c *ℤ f.t i) rest_is
    ∙ one_number (v w n) (pos h.c *ℤ f.t (w * e)) (pos f.c *ℤ h.t w) (f.c * h.c)
    (function.positive w n n_some) fine coarse

-- a solution over e on the finer grid
scaled_solution : (l e k q m a : ℕ) → a ≡ l * (q * m) → SamePlace l e k q →
    a % (q * m * e) ≡ (k * m * e) % (q * m * e)
scaled_solution l e k q m a whole solution =
    ap₂ (λ i j. i % j) (whole ∙ omega arith) (omega arith)
    ∙ scaled_rest (l * q) (k * e) (e * q) m solution
    ∙ ap₂ (λ i j. i % j) (omega arith) (omega arith)

one_place_more : (w : ℕ) (places : List ℕ) (n k : ℕ) → (w + sum places) % n ≡ k % n →
    sum (w ∷ places) % n ≡ k % n
one_place_more w places n k place = ap (λ i. i % n) (sum_cons w places) ∙ place

-- ---- a valid table below gives a valid function below

spread_at_solutions : (v : ℕ → ℕ → Fraction) (k q m : ℕ) → 0 < q → 0 < m → IsMinimalPart v k q →
    (h : HasTable v k q m) →
    (l : IsDominated h.t (q * m) (k * m) h.c) → (e : ℕ) (ys : List ℕ) → 0 < e →
    SamePlace (sum ys) e k q →
    AtMostValue one (sum_of_values (spread v (q * m) l.1 (l.0 * h.c)) e ys)
spread_at_solutions v k q m q_some m_some minimal h l e ys some solution =
    let n = q * m in
    let n_some : 0 < n = mul-pos q_some m_some in
    let s = l.0 * h.c in
    let s_some : 0 < s = mul-pos l.3.some h.some in
    let finer_some : 0 < m * e = mul-pos m_some some in
    let grid : 0 < q * (m * e) = mul-pos q_some finer_some in
    let f = has_table v k q (m * e) q_some finer_some minimal.valid in
    let function = spread_is_function v n l.1 s s_some l.3.valid.has_period
    minimal.valid.function in
    let each = λ (y : ℕ).
    number v l.1 f.t n s f.c e y
    (at_place v y e (y * n) (q * (m * e)) f.c (f.t (y * n)) some grid minimal.valid.function
    (omega arith) (f.is (y * n))) in
    let r = split v l.1 f.t n s f.c e ys (table_zero v k q (m * e) q_some finer_some minimal f)
    (table_below v k q (m * e) q_some finer_some minimal f) each in
    let all = scaled_solution (sum ys) e k q m (sum r.places * e + r.rest) r.whole solution in
    let (w, rest_is, place) = rest_on_grid (sum r.places) r.rest n e (k * m) some all in
    let same = finer_entry v k q m e w r.rest q_some m_some some minimal.valid.function h f
    rest_is in
    let least = l.3.valid.at_solutions (w ∷ r.places) (one_place_more w r.places n (k * m) place) in
    let number_of = λ (y : ℕ). (each y).z in
    most_from_numbers one (sum_of_values (spread v n l.1 s) e ys) (pos (s * f.c))
    (weight number_of ys) (s * f.c) (omega (arith, ints))
    (values_positive (spread v n l.1 s) e ys (λ y. function.positive y e some))
    (mul-pos s_some f.some) (one_is (s * f.c))
    (values_are (spread v n l.1 s) number_of e (s * f.c) ys (λ y. (each y).is))
    (enough f.c l.0 h.c (weight l.1 r.places) (f.t r.rest) (h.t w) (l.1 w)
    (weight number_of ys) r.most same (l.3.at_most w) least)

dominated_is_lower : (v : ℕ → ℕ → Fraction) (k q m : ℕ) → 0 < q → 0 < m → IsMinimalPart v k q →
    (h : HasTable v k q m) →
    IsDominated h.t (q * m) (k * m) h.c → HasLower v k q
dominated_is_lower v k q m q_some m_some minimal h l =
    let n = q * m in
    let n_some : 0 < n = mul-pos q_some m_some in
    let s = l.0 * h.c in
    let s_some : 0 < s = mul-pos l.3.some h.some in
    let valid = minimal.valid in
    record {
      u = spread v n l.1 s;
      n = l.2;
      d = n;
      some = n_some;
      valid = record {
        function = spread_is_function v n l.1 s s_some l.3.valid.has_period valid.function;
        nonnegative = λ x e some.
            ⊎_elim
            (λ at. let (i, place, is) = at in
            subst (λ (z : Fraction). AtMostValue nothing z) (sym is)
            (let low = l.3.valid.nonnegative i in omega (arith, ints)))
            (λ off. subst (λ (z : Fraction). AtMostValue nothing z) (sym off.1)
            (valid.nonnegative x e some))
            (spread_tells v n l.1 s x e);
        at_solutions = spread_at_solutions v k q m q_some m_some minimal h l;
      };
      at_most = λ x e some.
          ⊎_elim
          (λ at. let (i, place, is) = at in
          subst (λ (z : Fraction). AtMostValue z (v x e)) (sym is)
          (most_from_numbers (record { top = l.1 i; bottom = pos s }) (v x e) (l.1 i)
          (pos l.0 *ℤ h.t i) s (omega (arith, ints))
          (valid.function.positive x e some) s_some refl
          (is_scaled (v x e) (h.t i) h.c l.0
          (at_place v x e i n h.c (h.t i) some n_some valid.function place (h.is i)))
          (l.3.at_most i)))
          (λ off. subst (λ (z : Fraction). AtMostValue z (v x e)) (sym off.1) (omega (arith, ints)))
          (spread_tells v n l.1 s x e);
      below = ⊎_elim
          (λ at. let (i, place, is) = at in
          subst (λ (z : Fraction). LessValue z (v l.2 n)) (sym is)
          (let same : l.2 ≡ i = eq_of_mul-eq-mul_right n n_some l.2 i place in
          subst (λ (j : ℕ). LessValue (record { top = l.1 j; bottom = pos s }) (v l.2 n)) same
          (less_from_numbers (record { top = l.1 l.2; bottom = pos s }) (v l.2 n) (l.1 l.2)
          (pos l.0 *ℤ h.t l.2) s
          (omega (arith, ints)) (valid.function.positive l.2 n n_some) s_some refl
          (is_scaled (v l.2 n) (h.t l.2) h.c l.0 (h.is l.2)) l.4)))
          (λ off. absurd (off.0 l.2 refl))
          (spread_tells v n l.1 s l.2 n);
    }

-- the tables of a function that is minimal among the valid functions are minimal
pub tables_are_minimal : (v : ℕ → ℕ → Fraction) (k q m : ℕ) → 0 < q → 0 < m → IsMinimalPart v k q →
    (h : HasTable v k q m) →
    IsMinimalTable h.t (q * m) (k * m) h.c
tables_are_minimal v k q m q_some m_some minimal h = record {
  has_period = h.valid.has_period;
  zero_at_zero = table_zero v k q m q_some m_some minimal h;
  nonnegative = h.valid.nonnegative;
  subadditive = table_below v k q m q_some m_some minimal h;
  symmetric = λ i j opposite.
      ⊎_elim (λ e. e)
      (λ differs. absurd (not_lower v k q minimal
      (dominated_is_lower v k q m q_some m_some minimal h
      (asymmetry_dominated h.t (q * m) (k * m) h.c i j (mul-pos q_some m_some) h.valid opposite
      differs))))
      (same_or_apart_z (h.t i +ℤ h.t j) (pos h.c));
}
