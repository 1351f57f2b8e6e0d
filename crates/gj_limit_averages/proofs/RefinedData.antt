-- A function on a finer grid, as data: its tables are those of the function.
use Rattle.std.proofs.Common.{◌≡◌, ℕ, zero, suc, ◌+◌, ◌-◌, ◌*◌, ◌/◌, ◌%◌, ◌<◌, ℤ, pos, ◌+ℤ◌, ◌*ℤ◌, List, [], ◌∷◌, length, map, refl, sym, ap, ap₂, subst, ◌∙◌, mul-pos, mul_assoc, arith}
use Rattle.std.specs.List.{range_with_len}
use Rattle.std.proofs.Math.Nat.{mod-lt, mod-mod, div-add-mod', mul-le-mul_left, mul-lt-mul_of_pos_right}
use Rattle.std.proofs.lemmas.List.FromFn.{get_or-map-range_with_len, length-map-range_with_len}
use Rattle.gj_lemmas.proofs.Quotients.{same_at_remainder}
use Rattle.gj_lemmas.proofs.Ring.{by_ring, ring}
use Rattle.gj_shape.specs.FunctionData.{FunctionData, IsPiecewise, at, function_over}
use Rattle.gj_shape.specs.Refinement.{refined, entry_or_value}
use Rattle.gj_shape.specs.Table.{table, IsMinimal, IsMinimalTable}
use Rattle.gj_shape.proofs.AtLemmas.{at_below, at_remainder}
use Rattle.gj_shape.proofs.TableLemmas.{at_plus_order, entry_between, entry_period, period_of_parts, table_parts, table_at, table_between, table_finer}
use Rattle.gj_shape.proofs.ValueLemmas.{entry_of_values}
use Rattle.gj_theory.proofs.Continuous.{same_minimal_table}
use Rattle.gj_jumps.specs.LimitSystem.{Limits}
use Rattle.gj_limit_grids.specs.Grids.{limits_on}
use Rattle.gj_limit_grids.proofs.Refined.{between, right_on_line, left_on_line}
use Rattle.gj_limit_averages.proofs.Corners.{own_limits, same_limits}

-- ---- data from numbers of one period

-- the first n of the numbers
abbrev pub first_of : ℕ → (ℕ → ℤ) → List ℤ
first_of n w = map w (range_with_len 0 n)

pub first_length : (n : ℕ) (w : ℕ → ℤ) → length (first_of n w) ≡ n
first_length n w = length-map-range_with_len w 0 n

pub at_first : (n : ℕ) (w : ℕ → ℤ) (i : ℕ) → i < n → at (first_of n w) i ≡ w i
at_first n w i below =
    at_below (first_of n w) i (omega (arith, first_length n w))
    ∙ get_or-map-range_with_len w 0 n i i (pos 0) below (omega arith)

-- entries of a list of length n that are the numbers below n are so everywhere
pub at_everywhere : (xs : List ℤ) (n : ℕ) (w : ℕ → ℤ) → length xs ≡ n → 0 < n →
    ((i : ℕ) → w (i + n) ≡ w i) → ((i : ℕ) → i < n → at xs i ≡ w i) → (i : ℕ) → at xs i ≡ w i
at_everywhere xs n w len some period h i =
    sym (at_remainder xs i) ∙ ap (λ k. at xs (i % k)) len ∙ h (i % n) (mod-lt i some)
    ∙ same_at_remainder w n period (i % n) i (mod-mod i n)

-- numbers of period n
pub record HavePeriod (w : Limits ℤ) (n : ℕ) : Type 0 where
  pub left : (i : ℕ) → w.left (i + n) ≡ w.left i
  pub value : (i : ℕ) → w.value (i + n) ≡ w.value i
  pub right : (i : ℕ) → w.right (i + n) ≡ w.right i

-- the function with these numbers
abbrev pub data_of : ℕ → ℕ → ℕ → Limits ℤ → FunctionData
data_of n k s w = function_over n k s (first_of n w.left) (first_of n w.value) (first_of n w.right)

pub limits_of_data : (n k s : ℕ) (w : Limits ℤ) → 0 < n → HavePeriod w n →
    own_limits (data_of n k s w) ≡ w
limits_of_data n k s w some h =
    same_limits (own_limits (data_of n k s w)) w
    (at_everywhere (first_of n w.left) n w.left (first_length n w.left) some h.left
    (at_first n w.left))
    (at_everywhere (first_of n w.value) n w.value (first_length n w.value) some h.value
    (at_first n w.value))
    (at_everywhere (first_of n w.right) n w.right (first_length n w.right) some h.right
    (at_first n w.right))

-- a function on the grid of order m times f's, over c times its scale there, has pieces
pub pieces_on_grid : (f : FunctionData) (m c : ℕ) (g : FunctionData) → IsPiecewise f → 0 < m →
    0 < c → g.order ≡ f.order * m → g.place ≡ f.place * m → g.scale ≡ c * (f.scale * m) →
    length g.left ≡ g.order → length g.value ≡ g.order → length g.right ≡ g.order → IsPiecewise g
pieces_on_grid f m c g l m_some c_some order place scale left value right =
    let grown = mul-le-mul_left f.order m_some in
    let order_low = l.order_low in
    record {
      order_low = omega arith;
      place_low = omega (arith, mul-pos l.place_low m_some);
      place_high = omega (arith, mul-lt-mul_of_pos_right l.place_high m_some);
      scale_low = omega (arith, mul-pos c_some (mul-pos l.scale_low m_some));
      left_length = left;
      value_length = value;
      right_length = right;
    }

-- ---- the numbers of a function on a finer grid

refined_entry_period : (f : FunctionData) (xs : List ℤ) (m a r : ℕ) → IsPiecewise f →
    length xs ≡ f.order → entry_or_value f xs m (a + f.order) r ≡ entry_or_value f xs m a r
refined_entry_period f xs m a zero h e = ap (λ z. pos m *ℤ z) (at_plus_order xs a f.order e)
refined_entry_period f xs m a (suc r) h e = entry_period f m a (suc r) h

refined_period : (f : FunctionData) (xs : List ℤ) (m i : ℕ) → 0 < m → IsPiecewise f →
    length xs ≡ f.order → refined f xs m (i + f.order * m) ≡ refined f xs m i
refined_period f xs m i some h e =
    period_of_parts (entry_or_value f xs m) f.order m i some
    (λ a r. refined_entry_period f xs m a r h e)

pub period_on : (f : FunctionData) (m : ℕ) → 0 < m → IsPiecewise f →
    HavePeriod (limits_on f m) (f.order * m)
period_on f m some h = record {
  left = λ i. refined_period f f.left m i some h h.left_length;
  value = λ i. refined_period f f.value m i some h h.value_length;
  right = λ i. refined_period f f.right m i some h h.right_length;
}

-- ---- the function on a finer grid as data

abbrev pub data_on : FunctionData → ℕ → FunctionData
data_on f t = data_of (f.order * t) (f.place * t) (f.scale * t) (limits_on f t)

pub data_on_limits : (f : FunctionData) (t : ℕ) → 0 < t → IsPiecewise f →
    own_limits (data_on f t) ≡ limits_on f t
data_on_limits f t some h =
    let low = h.order_low in
    let any : 0 < f.order = omega arith in
    limits_of_data (f.order * t) (f.place * t) (f.scale * t) (limits_on f t) (mul-pos any some)
    (period_on f t some h)

-- a finer grid of it has the values of f there
data_at_points : (f : FunctionData) (t m a : ℕ) → 0 < t → 0 < m → IsPiecewise f →
    table (data_on f t) m (a * m) ≡ table f (t * m) (a * m)
unfolding table
data_at_points f t m a t_some m_some h =
    table_at (data_on f t) m a m_some
    ∙ ap (λ z. pos m *ℤ z) (ap (λ v. v.value a) (data_on_limits f t t_some h)
    ∙ entry_of_values f t (a / t) (a % t))
    ∙ sym (table_finer f t m a t_some m_some)

steps_z : (u r w c : ℕ) (x y : ℤ) →
    pos u *ℤ (pos (w + 1) *ℤ x +ℤ pos c *ℤ y) +ℤ pos r *ℤ (pos w *ℤ x +ℤ pos (c + 1) *ℤ y)
    ≡ pos (w * (u + r) + u) *ℤ x +ℤ pos (c * (u + r) + r) *ℤ y
steps_z u r w c x y = by_ring (pos u ∷ pos r ∷ pos w ∷ pos c ∷ x ∷ y ∷ []) (search ring depth 30)
    refl

-- r steps of m from the point with c steps of t on a piece
data_inside : (f : FunctionData) (t m a c w u r : ℕ) → IsPiecewise f → c + 1 + w ≡ t → u + r ≡ m →
    0 < u → 0 < r →
    table (data_on f t) m ((a * t + c) * m + r) ≡ table f (t * m) ((a * t + c) * m + r)
data_inside f t m a c w u r h whole sum u_some r_some =
    let i = a * t + c in
    let g = data_on f t in
    let same = data_on_limits f t (omega arith) h in
    let steps : t * m ≡ c * m + m + w * m = ap (λ n. n * m) (sym whole) ∙ omega arith in
    let place : (a * t + c) * m + r ≡ a * (t * m) + (c * m + r) = omega (arith, mul_assoc a t m) in
    let left_over : t * m - (c * m + r) ≡ w * m + u = omega arith in
    table_between g m i r r_some (omega arith)
    ∙ ap₂ (λ x y. pos (m - r) *ℤ x +ℤ pos r *ℤ y)
    (ap (λ v. v.right i) same ∙ (right_on_line f t i a c refl (omega arith)).is (w + 1)
    (omega arith))
    (ap (λ v. v.left (i + 1)) same
    ∙ (left_on_line f t (i + 1) a (c + 1) (omega arith) (omega arith) (omega arith)).is w
    (omega arith))
    ∙ ap (λ n. pos n *ℤ between f a (w + 1) c +ℤ pos r *ℤ between f a w (c + 1))
    (let e : m - r ≡ u = omega arith in e)
    ∙ steps_z u r w c (at f.right a) (at f.left (a + 1))
    ∙ ap₂ (λ p q. pos (w * p + u) *ℤ at f.right a +ℤ pos (c * q + r) *ℤ at f.left (a + 1)) sum sum
    ∙ ap (λ n. pos n *ℤ at f.right a +ℤ pos (c * m + r) *ℤ at f.left (a + 1)) (sym left_over)
    ∙ sym (entry_between f (t * m) a (c * m + r) (omega arith))
    ∙ sym (table_parts f (t * m) ((a * t + c) * m + r) a (c * m + r) place (omega arith))

data_by_parts : (f : FunctionData) (t m i r : ℕ) → 0 < t → r < m → IsPiecewise f →
    table (data_on f t) m (i * m + r) ≡ table f (t * m) (i * m + r)
data_by_parts f t m i zero some below h =
    let e : i * m ≡ i * m + 0 = omega arith in
    subst (λ j. table (data_on f t) m j ≡ table f (t * m) j) e
    (data_at_points f t m i some (omega arith) h)
data_by_parts f t m i (suc r) some below h =
    let inner = mod-lt i some in
    let e : i / t * t + i % t ≡ i = div-add-mod' i t in
    subst (λ j. table (data_on f t) m (j * m + suc r) ≡ table f (t * m) (j * m + suc r)) e
    (data_inside f t m (i / t) (i % t) (t - (i % t + 1)) (m - suc r) (suc r) h
    (omega arith) (omega arith) (omega arith) (omega arith))

pub data_on_tables : (f : FunctionData) (t m i : ℕ) → 0 < t → 0 < m → IsPiecewise f →
    table (data_on f t) m i ≡ table f (t * m) i
data_on_tables f t m i t_some m_some h =
    subst (λ j. table (data_on f t) m j ≡ table f (t * m) j) (div-add-mod' i m)
    (data_by_parts f t m (i / m) (i % m) t_some (mod-lt i m_some) h)

-- it is minimal if the function is
pub data_on_minimal : (f : FunctionData) (t : ℕ) → 0 < t → IsPiecewise f → IsMinimal f →
    IsMinimal (data_on f t)
data_on_minimal f t t_some l h m m_some =
    same_minimal_table (table f (t * m)) (table (data_on f t) m) (f.order * t * m) (f.place * t * m)
    (f.scale * t * m)
    (λ i. data_on_tables f t m i t_some m_some l)
    (by_sizes (mul_assoc f.order t m) (mul_assoc f.place t m) (mul_assoc f.scale t m)
    (h (t * m) (mul-pos t_some m_some)))
  where
    by_sizes : {n n' k k' s s' : ℕ} → n ≡ n' → k ≡ k' → s ≡ s' →
        IsMinimalTable (table f (t * m)) n' k' s' → IsMinimalTable (table f (t * m)) n k s
    by_sizes e g k minimal = rw (e, g, k) minimal
