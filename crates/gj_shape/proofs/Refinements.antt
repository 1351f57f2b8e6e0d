-- A function on a finer grid.
use Rattle.std.proofs.Common.{◌≡◌, ℕ, zero, suc, ◌+◌, ◌-◌, ◌*◌, ◌/◌, ◌%◌, ◌<◌, ◌≤◌, ◌^◌, ◌⊎◌, ⊎_elim, ℤ, pos, ◌+ℤ◌, ◌*ℤ◌, List, [], ◌∷◌, length, All, unsigned_abs, refl, sym, ap, ap₂, subst, ◌∙◌, arith}
use Rattle.std.proofs.Math.Nat.{eq-zero-or-pos, mul-le-mul_right, mul-le-mul_left, mul-lt-mul_of_pos_right, mul-pos, mod-lt, mod-mod, div-add-mod'}
use Rattle.std.proofs.lemmas.Int.{unsigned_abs-mul}
use Rattle.gj_frac.specs.declared.Frac.{Frac}
use Rattle.gj_lemmas.proofs.Integers.{abs_add_z, first_only_z, second_only_z}
use Rattle.gj_lemmas.proofs.Quotients.{same_at_remainder, next_place_low, next_place_high}
use Rattle.gj_lemmas.proofs.Ring.{by_ring, ring}
use Rattle.gj_shape.specs.FunctionData.{FunctionData, IsWithinBounds, at}
use Rattle.gj_shape.specs.Table.{table}
use Rattle.gj_shape.specs.Given.{IsSmall, IsOrder, IsPlace, IsGivenBy}
use Rattle.gj_shape.specs.Refinement.{entry_or_value, refined, AreRefined, IsRefinement}
use Rattle.gj_shape.proofs.AtLemmas.{at_left_small, at_value_small, at_right_small}
use Rattle.gj_shape.proofs.GivenFractions.{all_small, list_is_at}
use Rattle.gj_shape.proofs.InOrder.{all_from_in_order}
use Rattle.gj_shape.proofs.LeastDenominator.{Divides}
use Rattle.gj_shape.proofs.TableLemmas.{at_plus_order, entry_period, pieces_of, entry_between, period_of_parts, table_parts, table_at, table_between, table_finer}
use Rattle.gj_shape.proofs.ValueLemmas.{entry_of_values}

-- ---- a refined list

entry_or_value_period : (f : FunctionData) (xs : List ℤ) (m a r : ℕ) → IsWithinBounds f →
    length xs ≡ f.order →
    entry_or_value f xs m (a + f.order) r ≡ entry_or_value f xs m a r
entry_or_value_period f xs m a zero h e = ap (λ z. pos m *ℤ z) (at_plus_order xs a f.order e)
entry_or_value_period f xs m a (suc r) h e = entry_period f m a (suc r) (pieces_of h)

-- it goes by the remainder of the index
refined_remainder : (f : FunctionData) (xs : List ℤ) (m i : ℕ) → 0 < m → IsWithinBounds f →
    length xs ≡ f.order →
    refined f xs m (i % (f.order * m)) ≡ refined f xs m i
refined_remainder f xs m i some h e =
    let n = f.order * m in
    same_at_remainder (refined f xs m) n
    (λ j. period_of_parts (entry_or_value f xs m) f.order m j some
    (λ a r. entry_or_value_period f xs m a r h e))
    (i % n) i (mod-mod i n)

-- m times a number of at most k is at most m k
pub product_small : (m k : ℕ) (x : ℤ) → unsigned_abs x ≤ k → unsigned_abs (pos m *ℤ x) ≤ m * k
product_small m k x h =
    let size = unsigned_abs-mul (pos m) x in
    let scaled = mul-le-mul_left m h in
    omega arith

entry_small : (f : FunctionData) (xs : List ℤ) (m a r : ℕ) → IsWithinBounds f →
    ((i : ℕ) → unsigned_abs (at xs i) ≤ 2 ^ 20 * f.scale) → r < m →
    unsigned_abs (entry_or_value f xs m a r) ≤ m * (2 ^ 20 * f.scale)
entry_small f xs m a zero h small below = product_small m _ (at xs a) (small a)
entry_small f xs m a (suc r) h small below =
    let k = 2 ^ 20 * f.scale in
    let x = pos (m - suc r) *ℤ at f.right a in
    let y = pos (suc r) *ℤ at f.left (a + 1) in
    let first : unsigned_abs x ≤ (m - suc r) * k =
    product_small (m - suc r) k (at f.right a) (at_right_small f a h) in
    let second : unsigned_abs y ≤ suc r * k =
    product_small (suc r) k (at f.left (a + 1)) (at_left_small f (a + 1) h) in
    let parts : (m - suc r) * k + suc r * k ≡ m * k = let w : m ≡ m - suc r + suc r = omega arith in
    sym (ap (λ n. n * k) w ∙ omega arith) in
    let sum = abs_add_z x y in
    omega arith

refined_small : (f : FunctionData) (xs : List ℤ) (m i : ℕ) → 0 < m → IsWithinBounds f →
    ((j : ℕ) → unsigned_abs (at xs j) ≤ 2 ^ 20 * f.scale) →
    unsigned_abs (refined f xs m i) ≤ 2 ^ 20 * (f.scale * m)
refined_small f xs m i some h small =
    let size = entry_small f xs m (i / m) (i % m) h small (mod-lt i some) in
    let turned : m * (2 ^ 20 * f.scale) ≡ 2 ^ 20 * (f.scale * m) = omega arith in
    omega arith

-- the table on the grid of order m is at most 2^20 over the scale times m
pub table_small : (f : FunctionData) (m i : ℕ) → 0 < m → IsWithinBounds f →
    unsigned_abs (table f m i) ≤ 2 ^ 20 * (f.scale * m)
unfolding table
table_small f m i some h =
    subst (λ z. unsigned_abs z ≤ 2 ^ 20 * (f.scale * m)) (entry_of_values f m (i / m) (i % m))
    (refined_small f f.value m i some h (λ j. at_value_small f j h))

-- the refined lists of a function are small
pub refined_all_small : (f : FunctionData) (m : ℕ) (l v r : List Frac) → 0 < m → IsWithinBounds f →
    AreRefined f m l v r →
    All IsSmall l × All IsSmall v × All IsSmall r
refined_all_small f m l v r m_some h are =
    let some : 0 < f.scale * m = mul-pos h.scale_low m_some in (
      all_small _ _ l some (λ i. refined_small f f.left m i m_some h (λ j. at_left_small f j h))
          are.left_is,
      all_small _ _ v some (λ i. refined_small f f.value m i m_some h (λ j. at_value_small f j h))
          are.value_is,
      all_small _ _ r some (λ i. refined_small f f.right m i m_some h (λ j. at_right_small f j h))
          are.right_is,
    )

-- ---- the same values

-- the values between a/order and (a + 1)/order at c steps of t, from the limits there
abbrev between : FunctionData → ℕ → ℕ → ℕ → ℤ
between f t a c = pos (t - c) *ℤ at f.right a +ℤ pos c *ℤ at f.left (a + 1)

right_entry : (f : FunctionData) (t a c : ℕ) → entry_or_value f f.right t a c ≡ between f t a c
right_entry f t a zero =
    first_only_z t (at f.right a) (at f.left (a + 1))
    ∙ ap (λ n. pos n *ℤ at f.right a +ℤ pos 0 *ℤ at f.left (a + 1)) (omega arith)
right_entry f t a (suc c) = refl

left_entry : (f : FunctionData) (t a c : ℕ) → 0 < c →
    entry_or_value f f.left t a c ≡ between f t a c
left_entry f t a zero some = absurd (omega arith)
left_entry f t a (suc c) some = refl

-- the right limit at a grid point of the refined function
right_is_between : (f : FunctionData) (t i : ℕ) →
    refined f f.right t i ≡ between f t (i / t) (i % t)
right_is_between f t i = right_entry f t (i / t) (i % t)

at_next_low : (f : FunctionData) (t i : ℕ) → i % t + 1 < t →
    refined f f.left t (i + 1) ≡ between f t (i / t) (i % t + 1)
at_next_low f t i low =
    let next = next_place_low i t low in
    ap₂ (entry_or_value f f.left t) next.0 next.1 ∙ left_entry f t (i / t) (i % t + 1) (omega arith)

at_next_high : (f : FunctionData) (t i : ℕ) → i % t + 1 ≡ t →
    refined f f.left t (i + 1) ≡ between f t (i / t) (i % t + 1)
at_next_high f t i high =
    let next = next_place_high i t high in
    let none : 0 ≡ t - (i % t + 1) = omega arith in
    ap₂ (entry_or_value f f.left t) next.0 next.1
    ∙ second_only_z t (at f.right (i / t)) (at f.left (i / t + 1))
    ∙ ap₂ (λ m n. pos m *ℤ at f.right (i / t) +ℤ pos n *ℤ at f.left (i / t + 1)) none (sym high)

next_cases : (c t : ℕ) → c < t → (c + 1 < t) ⊎ (c + 1 ≡ t)
next_cases c t h = grind arith

-- the left limit at the next grid point of the refined function
left_is_between : (f : FunctionData) (t i : ℕ) → 0 < t →
    refined f f.left t (i + 1) ≡ between f t (i / t) (i % t + 1)
left_is_between f t i some =
    ⊎_elim (at_next_low f t i) (at_next_high f t i) (next_cases (i % t) t (mod-lt i some))

finer_z : (u r w c : ℕ) (x y : ℤ) →
    pos u *ℤ (pos (w + 1) *ℤ x +ℤ pos c *ℤ y) +ℤ pos r *ℤ (pos w *ℤ x +ℤ pos (c + 1) *ℤ y)
    ≡ pos (w * (u + r) + u) *ℤ x +ℤ pos (c * (u + r) + r) *ℤ y
finer_z u r w c x y = by_ring (pos u ∷ pos r ∷ pos w ∷ pos c ∷ x ∷ y ∷ [])
    (search ring depth 30) refl

-- between two grid points of the refined function, r steps of m on
between_finer : (f : FunctionData) (t m a c r : ℕ) → c < t → r < m →
    pos (m - r) *ℤ between f t a c +ℤ pos r *ℤ between f t a (c + 1)
    ≡ between f (t * m) a (c * m + r)
between_finer f t m a c r c_below r_below =
    let u = m - r in
    let w = t - (c + 1) in
    let m_is : m ≡ u + r = omega arith in
    let t_is : t ≡ w + c + 1 = omega arith in
    let first : t - c ≡ w + 1 = omega arith in
    let count : t * m ≡ w * m + c * m + m = ap (λ n. n * m) t_is ∙ omega arith in
    let high : t * m - (c * m + r) ≡ w * m + u = omega arith in
    let x = at f.right a in
    let y = at f.left (a + 1) in
    ap (λ n. pos u *ℤ (pos n *ℤ x +ℤ pos c *ℤ y) +ℤ pos r *ℤ (pos w *ℤ x +ℤ pos (c + 1) *ℤ y)) first
    ∙ finer_z u r w c x y
    ∙ ap₂ (λ p q. pos (w * p + u) *ℤ x +ℤ pos (c * q + r) *ℤ y) (sym m_is) (sym m_is)
    ∙ ap (λ n. pos n *ℤ x +ℤ pos (c * m + r) *ℤ y) (sym high)

-- what each list of the refined function is over the scale of f
record AreLists (f g : FunctionData) (t : ℕ) : Type 0 where
  left_is : (i : ℕ) → at g.left i *ℤ pos (f.scale * t) ≡ refined f f.left t i *ℤ pos g.scale
  value_is : (i : ℕ) → at g.value i *ℤ pos (f.scale * t) ≡ refined f f.value t i *ℤ pos g.scale
  right_is : (i : ℕ) → at g.right i *ℤ pos (f.scale * t) ≡ refined f f.right t i *ℤ pos g.scale

left_side_z : (k t m : ℕ) (x : ℤ) →
    pos m *ℤ x *ℤ pos (k * (t * m)) ≡ x *ℤ pos (k * t) *ℤ pos (m * m)
left_side_z k t m x = by_ring (pos k ∷ pos t ∷ pos m ∷ x ∷ []) (search ring depth 20) refl

right_side_z : (s m : ℕ) (x : ℤ) → x *ℤ pos s *ℤ pos (m * m) ≡ pos m *ℤ x *ℤ pos (s * m)
right_side_z s m x = by_ring (pos s ∷ pos m ∷ x ∷ []) (search ring depth 20) refl

two_left_z : (k t m u r : ℕ) (x y : ℤ) →
    (pos u *ℤ x +ℤ pos r *ℤ y) *ℤ pos (k * (t * m))
    ≡ (pos u *ℤ (x *ℤ pos (k * t)) +ℤ pos r *ℤ (y *ℤ pos (k * t))) *ℤ pos m
two_left_z k t m u r x y = by_ring (pos k ∷ pos t ∷ pos m ∷ pos u ∷ pos r ∷ x ∷ y ∷ [])
    (search ring depth 30) refl

two_right_z : (s m u r : ℕ) (x y : ℤ) →
    (pos u *ℤ (x *ℤ pos s) +ℤ pos r *ℤ (y *ℤ pos s)) *ℤ pos m ≡ (pos u *ℤ x +ℤ pos r *ℤ y) *ℤ pos
    (s * m)
two_right_z s m u r x y = by_ring (pos s ∷ pos m ∷ pos u ∷ pos r ∷ x ∷ y ∷ [])
    (search ring depth 30) refl

-- at the grid points of the refined function
same_at_points : (f g : FunctionData) (t m a : ℕ) → 0 < t → 0 < m → AreLists f g t →
    table g m (a * m) *ℤ pos (f.scale * (t * m)) ≡ table f (t * m) (a * m) *ℤ pos (g.scale * m)
unfolding table
same_at_points f g t m a t_some m_some lists =
    let v = refined f f.value t a in
    let is_table : v ≡ table f t a = entry_of_values f t (a / t) (a % t) in
    ap (λ z. z *ℤ pos (f.scale * (t * m))) (table_at g m a m_some)
    ∙ left_side_z f.scale t m (at g.value a)
    ∙ ap (λ z. z *ℤ pos (m * m)) (lists.value_is a) ∙ right_side_z g.scale m v
    ∙ ap (λ z. pos m *ℤ z *ℤ pos (g.scale * m)) is_table
    ∙ ap (λ z. z *ℤ pos (g.scale * m)) (sym (table_finer f t m a t_some m_some))

-- and between them
same_between : (f g : FunctionData) (t m a r : ℕ) → 0 < t → 0 < r → r < m → AreLists f g t →
    table g m (a * m + r) *ℤ pos (f.scale * (t * m)) ≡ table f (t * m) (a * m + r) *ℤ pos
    (g.scale * m)
same_between f g t m a r t_some r_some below lists =
    let x = refined f f.right t a in
    let y = refined f f.left t (a + 1) in
    let c = a % t in
    let c_below : c < t = mod-lt a t_some in
    let split = ap (λ n. n * m) (sym (div-add-mod' a t)) in
    let place : a * m + r ≡ a / t * (t * m) + (c * m + r) = omega arith in
    let next = mul-le-mul_right m c_below in
    let small : c * m + r < t * m = omega arith in
    let whole : pos (m - r) *ℤ x +ℤ pos r *ℤ y ≡ table f (t * m) (a * m + r) =
    ap₂ (λ p q. pos (m - r) *ℤ p +ℤ pos r *ℤ q) (right_is_between f t a)
    (left_is_between f t a t_some)
    ∙ between_finer f t m (a / t) c r c_below below
    ∙ sym (entry_between f (t * m) (a / t) (c * m + r) (omega arith))
    ∙ sym (table_parts f (t * m) (a * m + r) (a / t) (c * m + r) place small) in
    ap (λ z. z *ℤ pos (f.scale * (t * m))) (table_between g m a r r_some below)
    ∙ two_left_z f.scale t m (m - r) r (at g.right a) (at g.left (a + 1))
    ∙ ap₂ (λ p q. (pos (m - r) *ℤ p +ℤ pos r *ℤ q) *ℤ pos m) (lists.right_is a)
    (lists.left_is (a + 1))
    ∙ two_right_z g.scale m (m - r) r x y
    ∙ ap (λ z. z *ℤ pos (g.scale * m)) whole

same_everywhere : (f g : FunctionData) (t m i : ℕ) → 0 < t → 0 < m → AreLists f g t →
    table g m i *ℤ pos (f.scale * (t * m)) ≡ table f (t * m) i *ℤ pos (g.scale * m)
same_everywhere f g t m i t_some m_some lists =
    let P : ℕ → Type 0 = λ j. table g m j *ℤ pos (f.scale * (t * m))
    ≡ table f (t * m) j *ℤ pos (g.scale * m) in
    let split = div-add-mod' i m in
    ⊎_elim
    (λ e. subst P (let h : i / m * m ≡ i = omega arith in h)
    (same_at_points f g t m (i / m) t_some m_some lists))
    (λ some. subst P split
    (same_between f g t m (i / m) (i % m) t_some some (mod-lt i m_some) lists))
    (eq-zero-or-pos (i % m))

-- the function that the refined lists give is the refinement
pub refinement_from_given : (f g : FunctionData) (t : ℕ) (l v r : List Frac) → 0 < t →
    IsWithinBounds f → AreRefined f t l v r →
    IsGivenBy (f.order * t) (f.place * t) l v r g → IsRefinement f t g
refinement_from_given f g t l v r t_some h are given =
    let n = f.order * t in
    let low = h.order_low in
    let q_some : 0 < f.order = omega arith in
    let some : 0 < n = mul-pos q_some t_some in
    let common = all_from_in_order (Divides g.scale) l v r (are.lengths.1 ∙ sym are.lengths.0)
    (are.lengths.2 ∙ sym are.lengths.0) given.common in
    let lists : AreLists f g t = record {
      left_is = list_is_at g.scale g.left l _ _ n given.left_is are.lengths.0 some common.0
          are.left_is
          (λ i. refined_remainder f f.left t i t_some h h.left_length);
      value_is = list_is_at g.scale g.value v _ _ n given.value_is are.lengths.1 some common.1
          are.value_is
          (λ i. refined_remainder f f.value t i t_some h h.value_length);
      right_is = list_is_at g.scale g.right r _ _ n given.right_is are.lengths.2 some common.2
          are.right_is
          (λ i. refined_remainder f f.right t i t_some h h.right_length);
    } in
    record {
      order = given.order;
      place = given.place;
      same_values = λ m i m_some. same_everywhere f g t m i t_some m_some lists;
    }

-- ---- the new order and place

-- if t is above the quotient, the order is too high
pub order_too_high : (q t : ℕ) → 0 < q → 1000 / q < t → 1000 < q * t
order_too_high q t some above =
    let split = div-add-mod' 1000 q in
    let rest = mod-lt 1000 some in
    let scaled = mul-le-mul_left q above in
    omega arith

-- the order and the place are within the limits if it is not
pub order_fits : (q k t : ℕ) → IsOrder q → IsPlace q k → 0 < t → t ≤ 1000 / q →
    IsOrder (q * t) × IsPlace (q * t) (k * t)
order_fits q k t order place some below =
    let split = div-add-mod' 1000 q in
    let scaled = mul-le-mul_left q below in
    let low = mul-le-mul_left q some in
    let q_low = order.0 in
    let place_low = mul-pos place.0 some in
    let place_high = mul-lt-mul_of_pos_right place.1 some in
    ((omega arith, omega arith), (omega arith, omega arith))
