-- The table of a valid function on a grid is valid, over some scale; the function that data tell is
-- valid if its tables are.
use Rattle.std.proofs.Common.{◌≡◌, ℕ, ◌+◌, ◌*◌, ◌/◌, ◌%◌, ◌<◌, List, [], ◌∷◌, map, ℤ, pos, ◌+ℤ◌, ◌*ℤ◌, ◌≤ℤ◌, refl, sym, subst, ap, ap₂, ◌∙◌, arith}
use Rattle.std.specs.Prelude.{sum}
use Rattle.std.proofs.Math.Nat.{add-mod_right, eq_of_mul-eq-mul_right, mod-lt, mod-mod, mul-pos, mul_comm, zero-mul}
use Rattle.std.proofs.lemmas.Int.{ints}
use Rattle.gj_lemmas.proofs.Quotients.{same_at_remainder, same_remainder, from_same_remainder}
use Rattle.gj_lemmas.proofs.Ring.{by_ring, ring}
use Rattle.gj_frac.specs.Fraction.{Fraction}
use Rattle.gj_shape.specs.FunctionData.{FunctionData, IsWithinBounds}
use Rattle.gj_shape.specs.Table.{table}
use Rattle.gj_shape.specs.Valid.{weight, IsValidTable}
use Rattle.gj_shape.proofs.TableLemmas.{table_period, table_finer}
use Rattle.gj_theory.proofs.Weights.{sum_cons}
use Rattle.gj_valid.proofs.PartFunctions.{nothing, one, sum_of_values, IsPartFunction, IsValidPart, part_of}
use Rattle.gj_valid.proofs.OverOneBottom.{Is, is_along, most_to_numbers, most_from_numbers, nothing_is, one_is, values_positive, values_are, have_bottom}

-- ---- rests

pub scaled_rest : (a b n e : ℕ) → a % n ≡ b % n → (a * e) % (n * e) ≡ (b * e) % (n * e)
scaled_rest a b n e same =
    same_remainder (a * e) (b * e) (b / n) (a / n) (n * e)
    (omega (arith, ap (λ x. x * e) (from_same_remainder a b n same)))

pub cancel_rest : (a b n e : ℕ) → 0 < e → (a * e) % (n * e) ≡ (b * e) % (n * e) → a % n ≡ b % n
cancel_rest a b n e some same =
    let x = b * e / (n * e) in
    let y = a * e / (n * e) in
    let whole : a * e + x * (n * e) ≡ b * e + y * (n * e) =
    from_same_remainder (a * e) (b * e) (n * e) same in
    same_remainder a b x y n (eq_of_mul-eq-mul_right e some (a + x * n) (b + y * n) (omega arith))

-- ---- lists

pub sum_scaled : (e : ℕ) (xs : List ℕ) → sum (map (λ x. x * e) xs) ≡ sum xs * e
sum_scaled e [] = sym (zero-mul e)
sum_scaled e (x ∷ xs) =
    let rest = sum_scaled e xs in
    let first = sum_cons x xs in
    let scaled = sum_cons (x * e) (map (λ x. x * e) xs) in
    let product : (x + sum xs) * e ≡ x * e + sum xs * e = omega arith in
    scaled ∙ ap (λ s. x * e + s) rest ∙ sym product ∙ ap (λ s. s * e) (sym first)

pub weight_of_map : (t : ℕ → ℤ) (g : ℕ → ℕ) (xs : List ℕ) →
    weight t (map g xs) ≡ weight (λ x. t (g x)) xs
weight_of_map t g [] = refl
weight_of_map t g (x ∷ xs) = ap (λ w. t (g x) +ℤ w) (weight_of_map t g xs)

-- ---- the table of a function

-- the values of a valid function on the grid of order q m are the entries of a valid table over c
pub record HasTable (v : ℕ → ℕ → Fraction) (k q m : ℕ) : Type 0 where
  pub c : ℕ
  pub t : ℕ → ℤ
  pub some : 0 < c
  pub is : (i : ℕ) → Is (v i (q * m)) (t i) c
  pub valid : IsValidTable t (q * m) (k * m) c

-- n/d = i/e
pub at_place : (v : ℕ → ℕ → Fraction) (n d i e c : ℕ) (z : ℤ) → 0 < d → 0 < e → IsPartFunction v →
    n * e ≡ i * d → Is (v i e) z c →
    Is (v n d) z c
at_place v n d i e c z d_some e_some h place is =
    is_along (v n d) (v i e) z c (h.positive i e e_some)
    (h.at_points n d i e d_some e_some (ap (λ j. j % (d * e)) place)) is

-- the same point as a multiple of 1/(q d)
pub on_grid : (v : ℕ → ℕ → Fraction) (q n d c : ℕ) (z : ℤ) → 0 < q → 0 < d → IsPartFunction v →
    Is (v (n * q) (q * d)) z c → Is (v n d) z c
on_grid v q n d c z q_some d_some h is =
    at_place v n d (n * q) (q * d) c z d_some (mul-pos q_some d_some) h (omega arith) is

-- entries over c that are the values of a valid function and have the grid's period are a valid
-- table
pub entries_valid : (v : ℕ → ℕ → Fraction) (k q m c : ℕ) (t : ℕ → ℤ) → 0 < q → 0 < m → 0 < c →
    IsValidPart v k q →
    ((i : ℕ) → t (i + q * m) ≡ t i) → ((i : ℕ) → Is (v i (q * m)) (t i) c) →
    IsValidTable t (q * m) (k * m) c
entries_valid v k q m c t q_some m_some some h period is =
    let n = q * m in
    let n_some : 0 < n = mul-pos q_some m_some in
    let positive = λ (i : ℕ). h.function.positive i n n_some in
    record {
      has_period = period;
      nonnegative = λ i.
          most_to_numbers nothing (v i n) (pos 0) (t i) c (omega (arith, ints)) (positive i) some
          (nothing_is c) (is i)
          (h.nonnegative i n n_some);
      at_solutions = λ places solution.
          most_to_numbers one (sum_of_values v n places) (pos c) (weight t places) c
          (omega (arith, ints))
          (values_positive v n places positive) some (one_is c) (values_are v t n c places is)
          (h.at_solutions n places n_some
          (scaled_rest (sum places) (k * m) n q solution ∙ ap (λ i. i % (n * q)) (omega arith)));
    }

-- the same for any function
pub record HasEntries (v : ℕ → ℕ → Fraction) (q m : ℕ) : Type 0 where
  pub c : ℕ
  pub t : ℕ → ℤ
  pub some : 0 < c
  pub is : (i : ℕ) → Is (v i (q * m)) (t i) c
  pub has_period : (i : ℕ) → t (i + q * m) ≡ t i

pub has_entries : (v : ℕ → ℕ → Fraction) (q m : ℕ) → 0 < q → 0 < m → IsPartFunction v →
    HasEntries v q m
has_entries v q m q_some m_some h =
    let n = q * m in
    let n_some : 0 < n = mul-pos q_some m_some in
    let positive = λ (i : ℕ). h.positive i n n_some in
    let b = have_bottom (λ i. v i n) n positive in
    record {
      c = b.c;
      t = λ i. b.t (i % n);
      some = b.some;
      is = λ i.
          is_along (v i n) (v (i % n) n) (b.t (i % n)) b.c (positive (i % n))
          (h.at_points i n (i % n) n n_some n_some (scaled_rest i (i % n) n n (sym (mod-mod i n))))
          (b.is (i % n) (mod-lt i n_some));
      has_period = λ i. ap b.t (add-mod_right i n);
    }

pub has_table : (v : ℕ → ℕ → Fraction) (k q m : ℕ) → 0 < q → 0 < m → IsValidPart v k q →
    HasTable v k q m
has_table v k q m q_some m_some h =
    let e = has_entries v q m q_some m_some h.function in
    record {
      c = e.c;
      t = e.t;
      some = e.some;
      is = e.is;
      valid = entries_valid v k q m e.c e.t q_some m_some e.some h e.has_period e.is;
    }

-- ---- functions by tables that agree

-- the function whose table on the grid of order q d is T d over s d
abbrev pub by_tables : (ℕ → ℕ → ℤ) → ℕ → ℕ → ℕ → ℕ → Fraction
by_tables T q s n d = record { top = T d (n * q); bottom = pos (s * d) }

-- tables of period q d that have the same values where they share points
pub record Agree (T : ℕ → ℕ → ℤ) (q : ℕ) : Type 0 where
  pub finer : (d e i : ℕ) → 0 < d → 0 < e → T (d * e) (i * e) ≡ pos e *ℤ T d i
  pub has_period : (d i : ℕ) → 0 < d → T d (i + q * d) ≡ T d i

cross_scaled : (x : ℤ) (s d : ℕ) → x *ℤ pos (s * d) ≡ pos s *ℤ (pos d *ℤ x)
cross_scaled x s d = by_ring (x ∷ pos s ∷ pos d ∷ []) (search ring depth 20) refl

pub tables_function : (T : ℕ → ℕ → ℤ) (q s : ℕ) → 0 < s → Agree T q →
    IsPartFunction (by_tables T q s)
tables_function T q s s_some h = record {
  positive = λ n d some. let bottom : 0 < s * d = mul-pos s_some some in omega (arith, ints);
  at_points = λ n d m e d_some e_some same.
      let rests : (n * q * e) % (q * (e * d)) ≡ (m * q * d) % (q * (e * d)) =
      ap₂ (λ i k. i % k) (omega arith) (omega arith) ∙ scaled_rest (n * e) (m * d) (d * e) q same
      ∙ ap₂ (λ i k. i % k) (omega arith) (omega arith) in
      let entries = same_at_remainder (T (e * d)) (q * (e * d))
      (λ i. h.has_period (e * d) i (mul-pos e_some d_some)) (n * q * e) (m * q * d) rests in
      let same_values : pos e *ℤ T d (n * q) ≡ pos d *ℤ T e (m * q) =
      sym (h.finer d e (n * q) d_some e_some) ∙ ap (λ g. T g (n * q * e)) (mul_comm d e) ∙ entries
      ∙ h.finer e d (m * q) e_some d_some in
      cross_scaled (T d (n * q)) s e ∙ ap (λ z. pos s *ℤ z) same_values
      ∙ sym (cross_scaled (T e (m * q)) s d);
}

pub tables_valid : (T : ℕ → ℕ → ℤ) (k q s : ℕ) → 0 < s → Agree T q →
    ((d : ℕ) → 0 < d → IsValidTable (T d) (q * d) (k * d) (s * d)) →
    IsValidPart (by_tables T q s) k q
tables_valid T k q s s_some agree h =
    let function = tables_function T q s s_some agree in
    record {
      function = function;
      nonnegative = λ n d some.
          most_from_numbers nothing (by_tables T q s n d) (pos 0) (T d (n * q)) (s * d)
          (omega (arith, ints))
          (function.positive n d some) (mul-pos s_some some) (nothing_is (s * d)) refl
          ((h d some).nonnegative (n * q));
      at_solutions = λ d tops some solution.
          let places = map (λ n. n * q) tops in
          let sum_is : sum places ≡ sum tops * q = sum_scaled q tops in
          let least = (h d some).at_solutions places
          (ap₂ (λ i j. i % j) sum_is (omega arith) ∙ solution
          ∙ ap (λ j. k * d % j) (omega arith)) in
          most_from_numbers one (sum_of_values (by_tables T q s) d tops) (pos (s * d))
          (weight (λ n. T d (n * q)) tops) (s * d)
          (omega (arith, ints))
          (values_positive (by_tables T q s) d tops (λ n. function.positive n d some))
          (mul-pos s_some some)
          (one_is (s * d)) (values_are (by_tables T q s) (λ n. T d (n * q)) d (s * d) tops
          (λ n. refl))
          (subst (λ (w : ℤ). pos (s * d) ≤ℤ w) (weight_of_map (T d) (λ n. n * q) tops) least);
    }

-- ---- the function that data tell

pub agree_on_grids : (f : FunctionData) → IsWithinBounds f → Agree (table f) f.order
agree_on_grids f l = record {
  finer = λ d e i d_some e_some. table_finer f d e i d_some e_some;
  has_period = λ d i some. table_period f d i some l;
}

pub function_is : (f : FunctionData) → IsWithinBounds f → IsPartFunction (part_of f)
function_is f l = tables_function (table f) f.order f.scale (let low = l.scale_low in omega arith)
    (agree_on_grids f l)

pub function_valid : (f : FunctionData) → IsWithinBounds f →
    ((m : ℕ) → 0 < m → IsValidTable (table f m) (f.order * m) (f.place * m) (f.scale * m)) →
    IsValidPart (part_of f) f.place f.order
function_valid f l h =
    tables_valid (table f) f.place f.order f.scale (let low = l.scale_low in omega arith)
    (agree_on_grids f l) h

-- its value at a multiple of 1/(order d) is the table's entry
pub function_on_grid : (f : FunctionData) (i d : ℕ) → 0 < f.order → 0 < d →
    Is (part_of f i (f.order * d)) (table f d i) (f.scale * d)
function_on_grid f i d o_some d_some =
    ap (λ z. z *ℤ pos (f.scale * d)) (ap (λ n. table f n (i * f.order)) (mul_comm f.order d)
    ∙ table_finer f d f.order i d_some o_some)
    ∙ by_ring (table f d i ∷ pos f.scale ∷ pos f.order ∷ pos d ∷ []) (search ring depth 30) refl
