-- The values of the functions of n x and of -x, and of restrictions, at fractions.
use Rattle.std.proofs.Common.{◌≡◌, ℕ, ◌+◌, ◌*◌, ◌%◌, ◌<◌, ℤ, pos, negsuc, ◌+ℤ◌, ◌*ℤ◌, [], ◌∷◌, refl, sym, ap, subst, ◌∙◌, mul-pos, arith}
use Rattle.std.proofs.lemmas.Int.{ints}
use Rattle.gj_frac.specs.declared.Frac.{Frac}
use Rattle.gj_frac.specs.Fraction.{IsRatio, numerator, denominator}
use Rattle.gj_lemmas.proofs.Integers.{mul_cancel_right_z, swap_last_z, add_mul_z}
use Rattle.gj_lemmas.proofs.Ring.{by_ring, ring}
use Rattle.gj_shape.specs.FunctionData.{FunctionData, IsWithinBounds, at}
use Rattle.gj_shape.specs.Table.{table}
use Rattle.gj_shape.specs.Values.{IsCongruent, IsValueAt}
use Rattle.gj_shape.proofs.TableLemmas.{table_at, table_of_order}
use Rattle.gj_shape.proofs.ValueLemmas.{natural_index, congruent_back, congruent_rests, value_from_place}
use Rattle.gj_transform.specs.Transforms.{IsTimesOf, IsMirrorOf, IsRestrictionOf, HasValuesAtMultiples, AgreeAtMultiples}
use Rattle.gj_transform.proofs.TimesTables.{times_entries}
use Rattle.gj_transform.proofs.MirrorTables.{mirror_back}

-- a fraction over one scale is one over another
over_scale : (x : Frac) (t u : ℤ) (s r : ℕ) → 0 < s → u *ℤ pos s ≡ t *ℤ pos r →
    IsRatio x t (pos s) → IsRatio x u (pos r)
over_scale x t u s r some same is =
    mul_cancel_right_z (numerator x *ℤ pos r) (u *ℤ denominator x) (pos s)
    (swap_last_z (numerator x) (pos r) (pos s) ∙ ap (λ z. z *ℤ pos r) is
    ∙ swap_last_z t (denominator x) (pos r)
    ∙ ap (λ z. z *ℤ denominator x) (sym same) ∙ swap_last_z u (pos s) (denominator x))
    (omega arith)

-- ---- congruent numbers

-- modulo a multiple of n, and so modulo n
congruent_coarser : (i j : ℤ) (n m : ℕ) → IsCongruent i j (n * m) → IsCongruent i j n
congruent_coarser i j n m (k, e) = (k *ℤ pos m, e ∙ ap (λ z. j +ℤ z) (moved k))
  where
    moved : (k : ℤ) → k *ℤ pos (n * m) ≡ k *ℤ pos m *ℤ pos n
    moved k = by_ring (k ∷ pos n ∷ pos m ∷ []) (search ring depth 20) refl

-- the sum of opposite numbers
congruent_opposite : (i j : ℕ) (a b : ℤ) (n : ℕ) → a +ℤ b ≡ pos 0 → IsCongruent (pos i) a n →
    IsCongruent (pos j) b n → (i + j) % n ≡ 0
congruent_opposite i j a b n sum (k, e) (l, g) =
    congruent_rests (i + j) 0 n (k +ℤ l, sum_is) ∙ none
  where
    sum_is : pos (i + j) ≡ pos 0 +ℤ (k +ℤ l) *ℤ pos n
    sum_is =
        let split = add_mul_z k l (pos n) in omega (arith, ints)

    none : 0 % n ≡ 0
    none = omega arith

-- ---- the function of n x

times_value : (f g : FunctionData) (n j d : ℕ) (u : ℤ) (x : Frac) → IsWithinBounds f →
    IsWithinBounds g → 0 < n → 0 < d →
    IsTimesOf f n j g → IsValueAt g (u *ℤ pos g.order) d x →
    IsValueAt f (pos n *ℤ u *ℤ pos f.order) d x
times_value f g n j d u x l h n_some d_some r is =
    let low = h.scale_low in
    let order = h.order_low in
    let (i, near) = natural_index (u *ℤ pos g.order) (g.order * d) (mul-pos (omega arith) d_some) in
    let value : IsRatio x (table f d i) (pos (f.scale * d)) =
    over_scale x (table g d i) (table f d i) (g.scale * d) (f.scale * d)
    (mul-pos (omega arith) d_some)
    (sym (times_entries f g n j d i n_some d_some r)) (is i near) in
    value_from_place f (pos n *ℤ u *ℤ pos f.order) d i x l d_some
    (congruent_back (pos i) _ (f.order * d)
    (congruent_coarser (pos i) (pos n *ℤ u *ℤ pos f.order) (f.order * d) n
    (subst (IsCongruent (pos i) (pos n *ℤ u *ℤ pos f.order)) (grid_is r.order)
    (subst (λ z. IsCongruent (pos i) z (g.order * d)) (place_is r.order) near))))
    value
  where
    place_is : g.order ≡ f.order * n → u *ℤ pos g.order ≡ pos n *ℤ u *ℤ pos f.order
    place_is e = ap (λ (q : ℕ). u *ℤ pos q) e
        ∙ by_ring (u ∷ pos n ∷ pos f.order ∷ []) (search ring depth 20) refl

    grid_is : g.order ≡ f.order * n → g.order * d ≡ f.order * d * n
    grid_is e = ap (λ q. q * d) e ∙ omega arith

value_of_times : (f g : FunctionData) (n j d : ℕ) (u : ℤ) (x : Frac) → IsWithinBounds f → 0 < n →
    0 < d →
    IsTimesOf f n j g → IsValueAt f (pos n *ℤ u *ℤ pos f.order) d x →
    IsValueAt g (u *ℤ pos g.order) d x
value_of_times f g n j d u x l n_some d_some r is i near =
    let low = l.scale_low in
    over_scale x (table f d i) (table g d i) (f.scale * d) (g.scale * d)
    (mul-pos (omega arith) d_some)
    (times_entries f g n j d i n_some d_some r)
    (is i (congruent_coarser (pos i) (pos n *ℤ u *ℤ pos f.order) (f.order * d) n
    (subst (IsCongruent (pos i) (pos n *ℤ u *ℤ pos f.order)) (grid_is r.order)
    (subst (λ z. IsCongruent (pos i) z (g.order * d)) (place_is r.order) near))))
  where
    place_is : g.order ≡ f.order * n → u *ℤ pos g.order ≡ pos n *ℤ u *ℤ pos f.order
    place_is e = ap (λ (q : ℕ). u *ℤ pos q) e
        ∙ by_ring (u ∷ pos n ∷ pos f.order ∷ []) (search ring depth 20) refl

    grid_is : g.order ≡ f.order * n → g.order * d ≡ f.order * d * n
    grid_is e = ap (λ q. q * d) e ∙ omega arith

-- ---- the function of -x

mirror_value : (f g : FunctionData) (d : ℕ) (u v : ℤ) (x : Frac) → IsWithinBounds f →
    IsWithinBounds g → 0 < d → u +ℤ v ≡ pos 0 →
    IsMirrorOf f g → IsValueAt g (u *ℤ pos g.order) d x → IsValueAt f (v *ℤ pos f.order) d x
mirror_value f g d u v x l h d_some opposite r is i near =
    let low = h.scale_low in
    let order = h.order_low in
    let (j, there) = natural_index (u *ℤ pos g.order) (g.order * d)
    (mul-pos (omega arith) d_some) in
    let there_f : IsCongruent (pos j) (u *ℤ pos f.order) (f.order * d) =
    subst (λ (q : ℕ). IsCongruent (pos j) (u *ℤ pos q) (q * d)) r.order there in
    let sum : u *ℤ pos f.order +ℤ v *ℤ pos f.order ≡ pos 0 =
    sym (add_mul_z u v (pos f.order)) ∙ ap (λ z. z *ℤ pos f.order) opposite ∙ omega (arith, ints) in
    over_scale x (table g d j) (table f d i) (g.scale * d) (f.scale * d)
    (mul-pos (omega arith) d_some)
    (sym (r.same_values d j i d_some (congruent_opposite j i _ _ (f.order * d) sum there_f near)))
    (is j there)

-- ---- the restriction

-- the values of both at a multiple of 1/d, on the grid of order d times their own
restriction_entries : (f g : FunctionData) (d a : ℕ) → 0 < d → (r : IsRestrictionOf f d g) →
    table g d (a * d) *ℤ pos (f.scale * d) ≡ table f d (a * r.step * d) *ℤ pos (g.scale * d)
restriction_entries f g d a some r =
    ap (λ z. z *ℤ pos (f.scale * d)) (table_at g d a some) ∙ left_z (at g.value a)
    ∙ ap (λ z. z *ℤ pos (f.scale * 1) *ℤ (pos d *ℤ pos d)) (sym (table_of_order g a))
    ∙ ap (λ z. z *ℤ (pos d *ℤ pos d)) (r.same_values a)
    ∙ ap (λ z. z *ℤ pos (g.scale * 1) *ℤ (pos d *ℤ pos d)) (table_of_order f (a * r.step))
    ∙ right_z (at f.value (a * r.step))
    ∙ ap (λ z. z *ℤ pos (g.scale * d)) (sym (table_at f d (a * r.step) some))
  where
    left_z : (x : ℤ) → pos d *ℤ x *ℤ pos (f.scale * d) ≡ x *ℤ pos (f.scale * 1) *ℤ (pos d *ℤ pos d)
    left_z x = by_ring (x ∷ pos d ∷ pos f.scale ∷ []) (search ring depth 20) refl

    right_z : (x : ℤ) → x *ℤ pos (g.scale * 1) *ℤ (pos d *ℤ pos d) ≡ pos d *ℤ x *ℤ pos (g.scale * d)
    right_z x = by_ring (x ∷ pos d ∷ pos g.scale ∷ []) (search ring depth 20) refl

congruent_scaled : (i : ℕ) (u : ℤ) (d p : ℕ) → IsCongruent (pos i) u d →
    IsCongruent (pos (i * p)) (u *ℤ pos p) (p * d)
congruent_scaled i u d p (k, e) =
    (k, turned i ∙ ap (λ z. z *ℤ pos p) e ∙ scaled)
  where
    turned : (i : ℕ) → pos (i * p) ≡ pos i *ℤ pos p
    turned i = by_ring (pos i ∷ pos p ∷ []) (search ring depth 20) refl

    scaled : (u +ℤ k *ℤ pos d) *ℤ pos p ≡ u *ℤ pos p +ℤ k *ℤ pos (p * d)
    scaled = by_ring (u ∷ k ∷ pos d ∷ pos p ∷ []) (search ring depth 20) refl

-- the same at places of the grids of order d times their own
restriction_places : (f g : FunctionData) (d a : ℕ) → 0 < d → (r : IsRestrictionOf f d g) →
    table g d (a * g.order) *ℤ pos (f.scale * d) ≡ table f d (a * f.order) *ℤ pos (g.scale * d)
restriction_places f g d a some r =
    let place : a * r.step * d ≡ a * f.order = let e : a * f.order ≡ a * (d * r.step) =
    ap (λ q. a * q) r.divides in omega arith in
    ap (λ (q : ℕ). table g d (a * q) *ℤ pos (f.scale * d)) r.order
    ∙ restriction_entries f g d a some r
    ∙ ap (λ i. table f d i *ℤ pos (g.scale * d)) place

grid_some : (f g : FunctionData) (d : ℕ) → IsWithinBounds g → IsRestrictionOf f d g → 0 < d
grid_some f g d h r = let low = h.order_low in let e = r.order in omega arith

restriction_value : (f g : FunctionData) (d : ℕ) (u : ℤ) (x : Frac) → IsWithinBounds f →
    IsWithinBounds g → IsRestrictionOf f d g →
    IsValueAt g (u *ℤ pos g.order) d x → IsValueAt f (u *ℤ pos f.order) d x
restriction_value f g d u x l h r is =
    let low = h.scale_low in
    let some = grid_some f g d h r in
    let (a, near) = natural_index u d some in
    value_from_place f (u *ℤ pos f.order) d (a * f.order) x l some
    (congruent_back _ _ (f.order * d) (congruent_scaled a u d f.order near))
    (over_scale x (table g d (a * g.order)) (table f d (a * f.order)) (g.scale * d) (f.scale * d)
    (mul-pos (omega arith) some)
    (sym (restriction_places f g d a some r))
    (is (a * g.order) (congruent_scaled a u d g.order near)))

value_of_restriction : (f g : FunctionData) (d : ℕ) (u : ℤ) (x : Frac) → IsWithinBounds f →
    IsWithinBounds g → IsRestrictionOf f d g →
    IsValueAt f (u *ℤ pos f.order) d x → IsValueAt g (u *ℤ pos g.order) d x
value_of_restriction f g d u x l h r is =
    let low = l.scale_low in
    let some = grid_some f g d h r in
    let (a, near) = natural_index u d some in
    value_from_place g (u *ℤ pos g.order) d (a * g.order) x h some
    (congruent_back _ _ (g.order * d) (congruent_scaled a u d g.order near))
    (over_scale x (table f d (a * f.order)) (table g d (a * g.order)) (f.scale * d) (g.scale * d)
    (mul-pos (omega arith) some)
    (restriction_places f g d a some r) (is (a * f.order) (congruent_scaled a u d f.order near)))

-- ---- at each fraction

pub times_values : (f g : FunctionData) (n j : ℕ) → IsWithinBounds f → IsWithinBounds g → 0 < n →
    IsTimesOf f n j g →
    HasValuesAtMultiples f (pos n) g
times_values f g n j l h n_some r d u x d_some =
    (times_value f g n j d u x l h n_some d_some r, value_of_times f g n j d u x l n_some d_some r)

pub mirror_values : (f g : FunctionData) → IsWithinBounds f → IsWithinBounds g → IsMirrorOf f g →
    HasValuesAtMultiples f (negsuc 0) g
mirror_values f g l h r d u x some = (
  mirror_value f g d u (negsuc 0 *ℤ u) x l h some (omega (arith, ints)) r,
  mirror_value g f d (negsuc 0 *ℤ u) u x h l some (omega (arith, ints)) (mirror_back f g r),
)

pub restriction_values : (f g : FunctionData) (d : ℕ) → IsWithinBounds f → IsWithinBounds g →
    IsRestrictionOf f d g →
    AgreeAtMultiples f d g
restriction_values f g d l h r u x =
    (restriction_value f g d u x l h r, value_of_restriction f g d u x l h r)
