-- The value of a function at a fraction, read off the table of any grid that holds the fraction.
use Rattle.std.proofs.Common.{◌≡◌, ℕ, ◌*◌, ◌<◌, ◌≤◌, ◌^◌, ℤ, pos, ◌+ℤ◌, ◌-ℤ◌, ◌*ℤ◌, unsigned_abs, [], ◌∷◌, refl, sym, ap, ◌∙◌, arith}
use Rattle.std.proofs.Math.Nat.{mul-pos, mul-le-mul}
use Rattle.std.proofs.lemmas.Int.{ints}
use Rattle.gj_frac.specs.declared.Frac.{Frac}
use Rattle.gj_frac.specs.Fraction.{IsRatio, numerator, denominator}
use Rattle.gj_frac.specs.Fits.{FitsSum}
use Rattle.gj_lemmas.proofs.Integers.{swap_last_z}
use Rattle.gj_frac.proofs.OneDenominator.{over_one_denominator}
use Rattle.gj_lemmas.proofs.Quotients.{same_at_remainder}
use Rattle.gj_lemmas.proofs.Ring.{by_ring, ring}
use Rattle.gj_frac.proofs.SameValues.{is_along}
use Rattle.gj_shape.specs.FunctionData.{FunctionData, IsWithinBounds}
use Rattle.gj_shape.specs.Table.{table}
use Rattle.gj_shape.specs.Values.{IsCongruent, IsValueAt}
use Rattle.gj_shape.specs.Violation.{value_of}
use Rattle.gj_shape.proofs.LeastDenominator.{denominator_some}
use Rattle.gj_shape.proofs.Refinements.{table_small}
use Rattle.gj_shape.proofs.TableLemmas.{table_period}
use Rattle.gj_shape.proofs.ValueLemmas.{natural_index, moved_index_z, congruent_rests}
use Rattle.gj_theory.proofs.ShownPoints.{same_on_both}
use Rattle.gj_check.proofs.Ratios.{denominator_is}

-- ---- one place on two grids

place_z : (a h : ℤ) (q d e : ℕ) →
    (a +ℤ h *ℤ pos (q * e)) *ℤ pos d ≡ a *ℤ pos d +ℤ h *ℤ pos (q * (d * e))
place_z a h q d e = by_ring (a ∷ h ∷ pos q ∷ pos d ∷ pos e ∷ []) (search ring depth 30) refl

difference_z : (x h k n : ℤ) → x +ℤ h *ℤ n ≡ (x +ℤ k *ℤ n) +ℤ (h -ℤ k) *ℤ n
difference_z x h k n = by_ring (x ∷ h ∷ k ∷ n ∷ []) (search ring depth 30) refl

-- a/e and t/d are one number, so their indices on the grid of d e are congruent
places_congruent : (q i j d e : ℕ) (a t : ℤ) → a *ℤ pos d ≡ t *ℤ pos e →
    IsCongruent (pos i) a (q * e) →
    IsCongruent (pos j) t (q * d) → IsCongruent (pos (i * d)) (pos (j * e)) (q * (d * e))
places_congruent q i j d e a t same (h, i_is) (k, j_is) = (
  h -ℤ k,
  ap (λ z. z *ℤ pos d) i_is ∙ place_z a h q d e ∙ ap (λ z. z +ℤ h *ℤ pos (q * (d * e))) same
      ∙ difference_z (t *ℤ pos e) h k (pos (q * (d * e)))
      ∙ ap (λ z. z +ℤ (h -ℤ k) *ℤ pos (q * (d * e)))
      (sym (ap (λ z. z *ℤ pos e) j_is ∙ moved_index_z t k q d e)),
)

scaled_left_z : (s d : ℕ) (x : ℤ) → x *ℤ pos (s * d) ≡ pos s *ℤ (pos d *ℤ x)
scaled_left_z s d x = by_ring (pos s ∷ pos d ∷ x ∷ []) (search ring depth 30) refl

-- the value at a/e is the value at t/d if the two are one number
pub value_over : (f : FunctionData) (a t : ℤ) (e d : ℕ) (y : Frac) → IsWithinBounds f → 0 < e →
    0 < d →
    a *ℤ pos d ≡ t *ℤ pos e → IsValueAt f a e y → IsValueAt f t d y
value_over f a t e d y l e_some d_some same is j at_t =
    let low = l.order_low in
    let (i, at_a) = natural_index a (f.order * e) (mul-pos (omega arith) e_some) in
    let rests = congruent_rests (i * d) (j * e) (f.order * (d * e))
    (places_congruent f.order i j d e a t same at_a at_t) in
    let both = same_at_remainder (table f (d * e)) (f.order * (d * e))
    (λ k. table_period f (d * e) k (mul-pos d_some e_some) l) (i * d) (j * e) rests in
    let scaled = same_on_both f d e j i d_some e_some both in
    let scale = mul-pos l.scale_low e_some in
    is_along y (table f e i) (pos (f.scale * e)) (table f d j) (pos (f.scale * d))
    (omega (arith, ints)) (is i at_a)
    (scaled_left_z f.scale d (table f e i) ∙ ap (λ z. pos f.scale *ℤ z) scaled
    ∙ sym (scaled_left_z f.scale e (table f d j)))

point_right_z : (n q : ℕ) (d : ℤ) → (pos n *ℤ d) *ℤ pos q ≡ pos (n * q) *ℤ d
point_right_z n q d = by_ring (pos n ∷ pos q ∷ d ∷ []) (search ring depth 30) refl

-- the value at x = n/c, over the scale times c
pub value_on : (f : FunctionData) (x y : Frac) (n c : ℕ) → IsWithinBounds f → 0 < c →
    IsRatio x (pos n) (pos c) →
    IsValueAt f (numerator x *ℤ pos f.order) (unsigned_abs (denominator x)) y →
    IsRatio y (value_of f n c) (pos (f.scale * c))
value_on f x y n c l some x_is is =
    let same = swap_last_z x.num (pos f.order) (pos c) ∙ ap (λ z. z *ℤ pos f.order) x_is
    ∙ point_right_z n f.order x.den
    ∙ ap (λ z. pos (n * f.order) *ℤ z) (denominator_is x) in
    value_over f (x.num *ℤ pos f.order) (pos (n * f.order)) (unsigned_abs x.den) c y l
    (denominator_some x) some same is
    (n * f.order) (pos 0, omega (arith, ints))

-- ---- sizes

-- the values at two fractions of one denominator of at most 2^62 can be added
pub values_fit_sum : (f : FunctionData) (x y : Frac) (i j c : ℕ) → IsWithinBounds f → 0 < c →
    c ≤ 2 ^ 62 →
    IsRatio x (table f c i) (pos (f.scale * c)) → IsRatio y (table f c j) (pos (f.scale * c)) →
    FitsSum x y
values_fit_sum f x y i j c l some fine x_is y_is =
    let high = l.scale_high in
    let scale = mul-pos l.scale_low some in
    let scale_small : f.scale * c ≤ 2 ^ 31 * 2 ^ 62 =
    (let s : f.scale ≤ 2 ^ 31 = omega arith in mul-le-mul s fine) in
    let first = table_small f c i some l in
    let second = table_small f c j some l in
    (over_one_denominator x y (table f c i) (table f c j) (pos (f.scale * c)) x_is y_is
    (omega (arith, ints))
    (omega (arith, ints)) (omega arith) (omega arith)).0
