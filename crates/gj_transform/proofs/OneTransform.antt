-- A function has one transform of each kind: functions with the same values on every grid are
-- equal.
use Rattle.std.proofs.Common.{◌≡◌, ℕ, zero, suc, ◌+◌, ◌-◌, ◌*◌, ◌<◌, ◌≤◌, ℤ, pos, ◌+ℤ◌, ◌-ℤ◌, ◌*ℤ◌, [], ◌∷◌, refl, sym, ap, ap₂, ◌∙◌, mul-pos, arith}
use Rattle.std.proofs.Math.Nat.{eq_of_mul-eq-mul_right, mul_comm}
use Rattle.std.proofs.lemmas.Int.{ints}
use Rattle.gj_lemmas.proofs.Integers.{mul_assoc_z, mul_cancel_right_z, sub_mul_z}
use Rattle.gj_lemmas.proofs.Ratios.{ratio_along}
use Rattle.gj_lemmas.proofs.Ring.{by_ring, ring}
use Rattle.gj_shape.specs.FunctionData.{FunctionData, IsWithinBounds, at}
use Rattle.gj_shape.specs.Table.{table}
use Rattle.gj_shape.proofs.AlikeFunctions.{alike_are_same, continuous_alike}
use Rattle.gj_shape.proofs.TableLemmas.{table_of_order, table_between, at_plus_order}
use Rattle.gj_transform.specs.Transforms.{HaveSameValue, IsTimesOf, IsMirrorOf, IsRestrictionOf}
use Rattle.gj_transform.proofs.TimesTables.{times_entries}
use Rattle.gj_transform.proofs.MirrorTables.{mirror_entries}

-- ---- the same values on every grid

abbrev AgreeOnGrids : FunctionData → FunctionData → Type 0
AgreeOnGrids f g = (m i : ℕ) → 0 < m → HaveSameValue f m i g m i

-- two limits from the values at the third parts between them
first_limit_z : (r l : ℤ) → pos 2 *ℤ (pos 2 *ℤ r +ℤ pos 1 *ℤ l) -ℤ (pos 1 *ℤ r +ℤ pos 2 *ℤ l)
    ≡ pos 3 *ℤ r
first_limit_z r l = omega (arith, ints)

last_limit_z : (r l : ℤ) → pos 2 *ℤ (pos 1 *ℤ r +ℤ pos 2 *ℤ l) -ℤ (pos 2 *ℤ r +ℤ pos 1 *ℤ l)
    ≡ pos 3 *ℤ l
last_limit_z r l = omega (arith, ints)

-- x and y are equal over s and t, if 3 x is 2 a - b and 3 y is 2 c - d, and a and b are over s what
-- c and d are over t
same_limit : (x y a b c d : ℤ) (s t : ℕ) → pos 2 *ℤ a -ℤ b ≡ pos 3 *ℤ x →
    pos 2 *ℤ c -ℤ d ≡ pos 3 *ℤ y →
    a *ℤ pos (t * 3) ≡ c *ℤ pos (s * 3) → b *ℤ pos (t * 3) ≡ d *ℤ pos (s * 3) →
    x *ℤ pos t ≡ y *ℤ pos s
same_limit x y a b c d s t x_is y_is first second =
    mul_cancel_right_z (x *ℤ pos t) (y *ℤ pos s) (pos 9)
    (thrice x t ∙ ap (λ z. z *ℤ pos (t * 3)) (sym x_is) ∙ split a b (t * 3)
    ∙ ap₂ (λ u v. pos 2 *ℤ u -ℤ v) first second
    ∙ sym (split c d (s * 3)) ∙ ap (λ z. z *ℤ pos (s * 3)) y_is ∙ sym (thrice y s))
    (omega arith)
  where
    thrice : (x : ℤ) (t : ℕ) → x *ℤ pos t *ℤ pos 9 ≡ (pos 3 *ℤ x) *ℤ pos (t * 3)
    thrice x t = by_ring (x ∷ pos t ∷ []) (search ring depth 20) refl

    split : (a b : ℤ) (n : ℕ) → (pos 2 *ℤ a -ℤ b) *ℤ pos n ≡ pos 2 *ℤ (a *ℤ pos n) -ℤ b *ℤ pos n
    split a b n = sub_mul_z (pos 2 *ℤ a) b (pos n)
        ∙ ap (λ z. z -ℤ b *ℤ pos n) (mul_assoc_z (pos 2) a (pos n))

third_after : (f : FunctionData) (a : ℕ) →
    table f 3 (a * 3 + 1) ≡ pos 2 *ℤ at f.right a +ℤ pos 1 *ℤ at f.left (a + 1)
third_after f a = table_between f 3 a 1 (omega arith) (omega arith)

third_before : (f : FunctionData) (a : ℕ) →
    table f 3 (a * 3 + 2) ≡ pos 1 *ℤ at f.right a +ℤ pos 2 *ℤ at f.left (a + 1)
third_before f a = table_between f 3 a 2 (omega arith) (omega arith)

same_right : (f g : FunctionData) (a : ℕ) → AgreeOnGrids f g →
    at f.right a *ℤ pos g.scale ≡ at g.right a *ℤ pos f.scale
same_right f g a agree =
    same_limit (at f.right a) (at g.right a) (table f 3 (a * 3 + 1)) (table f 3 (a * 3 + 2))
    (table g 3 (a * 3 + 1)) (table g 3 (a * 3 + 2))
    f.scale g.scale (of f) (of g) (agree 3 (a * 3 + 1) (omega arith))
    (agree 3 (a * 3 + 2) (omega arith))
  where
    of : (h : FunctionData) → pos 2 *ℤ table h 3 (a * 3 + 1) -ℤ table h 3 (a * 3 + 2)
        ≡ pos 3 *ℤ at h.right a
    of h = ap₂ (λ x y. pos 2 *ℤ x -ℤ y) (third_after h a) (third_before h a)
        ∙ first_limit_z (at h.right a) (at h.left (a + 1))

same_left : (f g : FunctionData) (a : ℕ) → AgreeOnGrids f g →
    at f.left (a + 1) *ℤ pos g.scale ≡ at g.left (a + 1) *ℤ pos f.scale
same_left f g a agree =
    same_limit (at f.left (a + 1)) (at g.left (a + 1)) (table f 3 (a * 3 + 2))
    (table f 3 (a * 3 + 1)) (table g 3 (a * 3 + 2))
    (table g 3 (a * 3 + 1)) f.scale g.scale (of f) (of g) (agree 3 (a * 3 + 2) (omega arith))
    (agree 3 (a * 3 + 1) (omega arith))
  where
    of : (h : FunctionData) → pos 2 *ℤ table h 3 (a * 3 + 2) -ℤ table h 3 (a * 3 + 1)
        ≡ pos 3 *ℤ at h.left (a + 1)
    of h = ap₂ (λ x y. pos 2 *ℤ x -ℤ y) (third_before h a) (third_after h a)
        ∙ last_limit_z (at h.right a) (at h.left (a + 1))

same_value : (f g : FunctionData) (a : ℕ) → AgreeOnGrids f g →
    at f.value a *ℤ pos g.scale ≡ at g.value a *ℤ pos f.scale
same_value f g a agree =
    let one : (n : ℕ) → n ≡ n * 1 = λ n. omega arith in
    ap₂ (λ x (n : ℕ). x *ℤ pos n) (sym (table_of_order f a)) (one g.scale) ∙ agree 1 a (omega arith)
    ∙ ap₂ (λ x (n : ℕ). x *ℤ pos n) (table_of_order g a) (sym (one f.scale))

-- functions with one order and place that have the same values on every grid are equal
pub agreeing_are_same : (f g : FunctionData) → IsWithinBounds f → IsWithinBounds g →
    f.order ≡ g.order → f.place ≡ g.place →
    AgreeOnGrids f g → f ≡ g
agreeing_are_same f g l h order place agree =
    alike_are_same f g l h (record {
      order = order;
      place = place;
      left = λ i below. before i;
      value = λ i below. same_value f g i agree;
      right = λ i below. same_right f g i agree;
    })
  where
    before : (i : ℕ) → at f.left i *ℤ pos g.scale ≡ at g.left i *ℤ pos f.scale
    before i =
        let low = l.order_low in
        let last = i + f.order - 1 in
        let next : last + 1 ≡ i + f.order = omega arith in
        let next_g : last + 1 ≡ i + g.order = next ∙ ap (λ q. i + q) order in
        ap (λ x. x *ℤ pos g.scale)
        (sym (ap (at f.left) next ∙ at_plus_order f.left i f.order l.left_length))
        ∙ same_left f g last agree
        ∙ ap (λ x. x *ℤ pos f.scale)
        (ap (at g.left) next_g ∙ at_plus_order g.left i g.order h.left_length)

-- ---- transforms

-- what is n/d over both scales
pub over_both : (x y n : ℤ) (d s t : ℕ) → 0 < d → x *ℤ pos d ≡ n *ℤ pos s →
    y *ℤ pos d ≡ n *ℤ pos t → x *ℤ pos t ≡ y *ℤ pos s
over_both x y n d s t some first second =
    ratio_along x (pos s) n (pos d) y (pos t) (omega arith) first (sym second)

pub one_times : (f g h : FunctionData) (n j : ℕ) → IsWithinBounds f → IsWithinBounds g →
    IsWithinBounds h → 0 < n →
    IsTimesOf f n j g → IsTimesOf f n j h → g ≡ h
one_times f g h n j in_f in_g in_h some r t =
    let low = in_f.scale_low in
    agreeing_are_same g h in_g in_h (r.order ∙ sym t.order) (r.place ∙ sym t.place)
    (λ m i m_some. over_both (table g m i) (table h m i) (table f m i) (f.scale * m) (g.scale * m)
    (h.scale * m) (mul-pos (omega arith) m_some)
    (times_entries f g n j m i some m_some r) (times_entries f h n j m i some m_some t))

pub one_mirror : (f g h : FunctionData) → IsWithinBounds f → IsWithinBounds g → IsWithinBounds h →
    IsMirrorOf f g → IsMirrorOf f h → g ≡ h
one_mirror f g h in_f in_g in_h r t =
    let low = in_f.scale_low in
    let order = in_f.order_low in
    let place : g.place ≡ h.place = let e = r.place ∙ sym t.place in omega arith in
    agreeing_are_same g h in_g in_h (r.order ∙ sym t.order) place
    (λ m i m_some.
    let long : 0 < f.order * m = mul-pos (omega arith) m_some in
    let c = f.order * m - 1 in
    let next : c + 1 ≡ f.order * m = omega arith in
    over_both (table g m i) (table h m i) (table f m (i * c)) (f.scale * m) (g.scale * m)
    (h.scale * m) (mul-pos (omega arith) m_some)
    (mirror_entries f g m c i m_some next r) (mirror_entries f h m c i m_some next t))

pub one_restriction : (f g h : FunctionData) (d : ℕ) → IsWithinBounds f → IsWithinBounds g →
    IsWithinBounds h →
    IsRestrictionOf f d g → IsRestrictionOf f d h → g ≡ h
one_restriction f g h d in_f in_g in_h r t =
    let low = in_f.scale_low in
    let order_low = in_f.order_low in
    let g_low = in_g.order_low in
    let g_order = r.order in
    let d_some : 0 < d = omega arith in
    let steps : r.step ≡ t.step =
    eq_of_mul-eq-mul_right d d_some r.step t.step (mul_comm r.step d ∙ sym r.divides ∙ t.divides
    ∙ mul_comm d t.step) in
    let step_some : 0 < r.step = some_step r.step r.divides order_low in
    let place : g.place ≡ h.place =
    eq_of_mul-eq-mul_right r.step step_some g.place h.place
    (sym r.place ∙ t.place ∙ ap (λ s. h.place * s) (sym steps)) in
    alike_are_same g h in_g in_h
    (continuous_alike g h (r.order ∙ sym t.order) place r.continuous t.continuous
    (λ i below. over_both (at g.value i) (at h.value i) (at f.value (i * r.step)) f.scale g.scale
    h.scale low
    (values f g i r.step (r.same_values i))
    (values f h i t.step (t.same_values i)
    ∙ ap (λ s. at f.value (i * s) *ℤ pos h.scale) (sym steps))))
  where
    some_step : (s : ℕ) → f.order ≡ d * s → 2 ≤ f.order → 0 < s
    some_step zero e l = absurd (omega arith)
    some_step (suc s) e l = omega arith

    values : (f g : FunctionData) (i s : ℕ) → HaveSameValue g 1 i f 1 (i * s) →
        at g.value i *ℤ pos f.scale ≡ at f.value (i * s) *ℤ pos g.scale
    values f g i s e =
        let one : (n : ℕ) → n ≡ n * 1 = λ n. omega arith in
        ap₂ (λ x (n : ℕ). x *ℤ pos n) (sym (table_of_order g i)) (one f.scale) ∙ e
        ∙ ap₂ (λ x (n : ℕ). x *ℤ pos n) (table_of_order f (i * s)) (sym (one g.scale))
