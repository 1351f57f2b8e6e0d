-- Continuous columns as whole columns with the entry 1 or -1 step on a grid that holds a solution,
-- each used often.
use Rattle.std.proofs.Common.{◌≡◌, ◌≢◌, ℕ, ◌-◌, ◌*◌, ◌<◌, ◌⊎◌, inl, inr, ⊎_elim, List, [], ◌∷◌, length, map, ℤ, pos, negsuc, neg_ℤ, ◌+ℤ◌, ◌*ℤ◌, ◌≤ℤ◌, ◌<ℤ◌, unsigned_abs, refl, sym, ap, subst₂, ◌∙◌, arith}
use Rattle.std.specs.List.{AllZip}
use Rattle.std.proofs.lemmas.Int.{ints}
use Rattle.std.proofs.lemmas.List.Elements.{All-head, All-tail}
use Rattle.gj_frac.specs.declared.Frac.{Frac}
use Rattle.gj_frac.specs.Fraction.{IsRatio, numerator, denominator}
use Rattle.gj_lemmas.proofs.Divisors.{cofactor}
use Rattle.gj_lemmas.proofs.Integers.{add_assoc_z, mul_cancel_right_z, mul_some_z, pos_abs_z, positive_some_z}
use Rattle.gj_lemmas.proofs.Ring.{by_ring, ring}
use Rattle.gj_shape.specs.Given.{IsCommonDenominator, numerator_over}
use Rattle.gj_shape.specs.SlopeRows.{sum_of_products}
use Rattle.gj_shape.specs.Values.{IsCongruent}
use Rattle.gj_shape.proofs.LeastDenominator.{Divides}
use Rattle.gj_shape.proofs.OverScale.{over_scale, denominator_is}
use Rattle.gj_theory.proofs.UsedPlaces.{UsedPlaces, with_uses}
use Rattle.gj_mixed.specs.Slopes.{IsWeight}

-- the slopes of a table of period n over s: its first step and its last are over n times as large
pub record AreSteps (t : ℕ → ℤ) (n s : ℕ) (up down : Frac) : Type 0 where
  pub rises : IsRatio up (pos n *ℤ t 1) (pos s)
  pub falls : IsRatio down (pos n *ℤ t (n - 1)) (pos s)

-- ---- one column, over whole numbers

place_out : (x a d e v : ℤ) → (x *ℤ a) *ℤ ((d *ℤ e) *ℤ v) ≡ (x *ℤ d) *ℤ (a *ℤ e *ℤ v)
place_out x a d e v = by_ring (x ∷ a ∷ d ∷ e ∷ v ∷ []) (search ring depth 40) refl

place_in : (p k c a e v : ℤ) → ((p *ℤ k) *ℤ c) *ℤ (a *ℤ e *ℤ v) ≡ (p *ℤ (k *ℤ a *ℤ v)) *ℤ (c *ℤ e)
place_in p k c a e v = by_ring (p ∷ k ∷ c ∷ a ∷ e ∷ v ∷ []) (search ring depth 40) refl

-- a column p k/d with the amount a over e is k a v times p steps of 1/(d e v)
place_of_column : (x p k c a d e v : ℤ) → x *ℤ d ≡ (p *ℤ k) *ℤ c →
    (x *ℤ a) *ℤ ((d *ℤ e) *ℤ v) ≡ (p *ℤ (k *ℤ a *ℤ v)) *ℤ (c *ℤ e)
place_of_column x p k c a d e v is = place_out x a d e v ∙ ap (λ z. z *ℤ (a *ℤ e *ℤ v)) is
    ∙ place_in p k c a e v

weight_1 : (y a s wd ud d : ℤ) →
    ((y *ℤ a) *ℤ s) *ℤ (wd *ℤ (ud *ℤ d)) ≡ (y *ℤ wd) *ℤ (ud *ℤ d) *ℤ (a *ℤ s)
weight_1 y a s wd ud d = by_ring (y ∷ a ∷ s ∷ wd ∷ ud ∷ d ∷ []) (search ring depth 40) refl

weight_2 : (w g ud d a s : ℤ) →
    (w *ℤ g) *ℤ (ud *ℤ d) *ℤ (a *ℤ s) ≡ (w *ℤ (ud *ℤ d)) *ℤ (g *ℤ a *ℤ s)
weight_2 w g ud d a s = by_ring (w ∷ g ∷ ud ∷ d ∷ a ∷ s ∷ []) (search ring depth 40) refl

weight_3 : (u k wd g a s : ℤ) → ((u *ℤ k) *ℤ wd) *ℤ (g *ℤ a *ℤ s) ≡ (u *ℤ s) *ℤ (k *ℤ wd *ℤ g *ℤ a)
weight_3 u k wd g a s = by_ring (u ∷ k ∷ wd ∷ g ∷ a ∷ s ∷ []) (search ring depth 40) refl

weight_4 : (d e v t ud k wd g a : ℤ) →
    ((((d *ℤ e) *ℤ v) *ℤ t) *ℤ ud) *ℤ (k *ℤ wd *ℤ g *ℤ a) ≡ ((t *ℤ (k *ℤ a *ℤ v)) *ℤ (g *ℤ e))
    *ℤ (wd *ℤ (ud *ℤ d))
weight_4 d e v t ud k wd g a =
    by_ring (d ∷ e ∷ v ∷ t ∷ ud ∷ k ∷ wd ∷ g ∷ a ∷ []) (search ring depth 60 fits 2000) refl

-- its weight u/ud times k/d times the amount is the weight of so many steps of t/s, each u/ud over
-- d e v
weight_of_column : (y w wd g u ud k d t s a e v : ℤ) → unsigned_abs wd ≢ 0 → unsigned_abs ud ≢ 0 →
    unsigned_abs d ≢ 0 →
    y *ℤ wd ≡ w *ℤ g → w *ℤ (ud *ℤ d) ≡ (u *ℤ k) *ℤ wd → u *ℤ s ≡ (((d *ℤ e) *ℤ v) *ℤ t) *ℤ ud →
    (y *ℤ a) *ℤ s ≡ (t *ℤ (k *ℤ a *ℤ v)) *ℤ (g *ℤ e)
weight_of_column y w wd g u ud k d t s a e v wd_some ud_some d_some over weight step =
    mul_cancel_right_z _ _ (wd *ℤ (ud *ℤ d))
    (weight_1 y a s wd ud d ∙ ap (λ z. z *ℤ (ud *ℤ d) *ℤ (a *ℤ s)) over ∙ weight_2 w g ud d a s
    ∙ ap (λ z. z *ℤ (g *ℤ a *ℤ s)) weight ∙ weight_3 u k wd g a s
    ∙ ap (λ z. z *ℤ (k *ℤ wd *ℤ g *ℤ a)) step
    ∙ weight_4 d e v t ud k wd g a)
    (mul_some_z wd (ud *ℤ d) wd_some (mul_some_z ud d ud_some d_some))

-- ---- one column

denominator_some_z : (x : Frac) → unsigned_abs (denominator x) ≢ 0
denominator_some_z x = positive_some_z (denominator x) x.lowest.positive

-- the place of a column with the entry p k/d on a grid of order d e v
column_place : (x : Frac) (c e v a k : ℕ) (p : ℤ) (n : ℕ) → Divides c x →
    pos n ≡ (denominator x *ℤ pos e) *ℤ pos v →
    numerator x ≡ p *ℤ pos k →
    (numerator_over c x *ℤ pos a) *ℤ pos n ≡ (p *ℤ pos (k * a * v)) *ℤ pos (c * e)
column_place x c e v a k p n divides n_is p_is =
    ap (λ z. (numerator_over c x *ℤ pos a) *ℤ z) n_is
    ∙ place_of_column (numerator_over c x) p (pos k) (pos c) (pos a) (denominator x) (pos e) (pos v)
    (sym (over_scale c x divides) ∙ ap (λ z. z *ℤ pos c) p_is)

-- the weight of a column is that of its steps if up is n times a step
column_weight : (w up x : Frac) (g e v a k n s : ℕ) (t : ℤ) → Divides g w →
    pos n ≡ (denominator x *ℤ pos e) *ℤ pos v →
    numerator w *ℤ (denominator up *ℤ denominator x) ≡ (numerator up *ℤ pos k) *ℤ denominator w →
    IsRatio up (pos n *ℤ t) (pos s) →
    (numerator_over g w *ℤ pos a) *ℤ pos s ≡ (t *ℤ pos (k * a * v)) *ℤ pos (g * e)
column_weight w up x g e v a k n s t divides n_is weight step =
    weight_of_column (numerator_over g w) (numerator w) (denominator w) (pos g) (numerator up)
    (denominator up) (pos k) (denominator x) t
    (pos s) (pos a) (pos e) (pos v) (denominator_some_z w) (denominator_some_z up)
    (denominator_some_z x)
    (sym (over_scale g w divides)) weight (step ∙ ap (λ z. (z *ℤ t) *ℤ denominator up) n_is)

-- the last place of a period is one step back
one_back : (n : ℕ) → 0 < n → IsCongruent (pos (n - 1)) (negsuc 0) n
one_back n some = (pos 1, omega (arith, ints))

one_on : (n : ℕ) → IsCongruent (pos 1) (pos 1) n
one_on n = (pos 0, omega (arith, ints))

-- so a column is used with its weight, on a grid of order d e v
column_used : (t : ℕ → ℤ) (n s c g e v a : ℕ) (up down x w : Frac) (x' y' : ℤ) →
    AreSteps t n s up down → IsWeight up down x w →
    0 < n → pos n ≡ (denominator x *ℤ pos e) *ℤ pos v → Divides c x → Divides g w →
    UsedPlaces t n s (c * e) (g * e) x' y' →
    UsedPlaces t n s (c * e) (g * e) (numerator_over c x *ℤ pos a +ℤ x')
    (numerator_over g w *ℤ pos a +ℤ y')
column_used t n s c g e v a up down x w x' y' steps weight some n_is x_divides w_divides used =
    let k = unsigned_abs (numerator x) in
    ⊎_elim
    (λ (low : pos 0 ≤ℤ numerator x).
    let size : pos k ≡ numerator x = pos_abs_z (numerator x) low in
    let is : numerator x ≡ pos 1 *ℤ pos k = sym size ∙ omega (arith, ints) in
    with_uses t n s (c * e) (g * e) 1 (k * a * v) (pos 1) _ _ x' y' (one_on n)
    (column_place x c e v a k (pos 1) n x_divides n_is is)
    (column_weight w up x g e v a k n s (t 1) w_divides n_is
    (weight.rises low ∙ ap (λ z. (numerator up *ℤ z) *ℤ denominator w) (sym size)) steps.rises)
    used)
    (λ (below : numerator x <ℤ pos 0).
    let size : pos k ≡ neg_ℤ (numerator x) = omega (arith, ints) in
    let is : numerator x ≡ negsuc 0 *ℤ pos k = omega (arith, ints) in
    with_uses t n s (c * e) (g * e) (n - 1) (k * a * v) (negsuc 0) _ _ x' y' (one_back n some)
    (column_place x c e v a k (negsuc 0) n x_divides n_is is)
    (column_weight w down x g e v a k n s (t (n - 1)) w_divides n_is
    (weight.falls below ∙ ap (λ z. (numerator down *ℤ z) *ℤ denominator w) (sym size)) steps.falls)
    used)
    (sign_of (numerator x))
  where
    sign_of : (z : ℤ) → (pos 0 ≤ℤ z) ⊎ (z <ℤ pos 0)
    sign_of (pos k) = inl (omega (arith, ints))
    sign_of (negsuc k) = inr (omega (arith, ints))

-- ---- all columns

grid_split : (d b e r : ℤ) → ((d *ℤ b) *ℤ e) *ℤ r ≡ (d *ℤ e) *ℤ (b *ℤ r)
grid_split d b e r = by_ring (d ∷ b ∷ e ∷ r ∷ []) (search ring depth 30) refl

regrouped : (t : ℕ → ℤ) (n c g s : ℕ) (a b x p q y : ℤ) →
    UsedPlaces t n s c g (a +ℤ (b +ℤ x)) (p +ℤ (q +ℤ y)) →
    UsedPlaces t n s c g ((a +ℤ b) +ℤ x) ((p +ℤ q) +ℤ y)
regrouped t n c g s a b x p q y = subst₂ (UsedPlaces t n s c g) (sym (add_assoc_z a b x))
    (sym (add_assoc_z p q y))

-- the columns on a grid that holds them over e
pub columns_used : (t : ℕ → ℤ) (n s c g e b r : ℕ) (up down : Frac) (xs ws : List Frac)
    (amounts : List ℕ) (x y : ℤ) →
    AreSteps t n s up down → 0 < n → n ≡ b * e * r → length amounts ≡ length xs →
    AllZip (IsWeight up down) xs ws →
    IsCommonDenominator xs b → IsCommonDenominator xs c → IsCommonDenominator ws g →
    UsedPlaces t n s (c * e) (g * e) x y →
    UsedPlaces t n s (c * e) (g * e)
    (sum_of_products (map (numerator_over c) xs) (map pos amounts) +ℤ x)
    (sum_of_products (map (numerator_over g) ws) (map pos amounts) +ℤ y)
columns_used t n s c g e b r up down [] [] [] x y steps some n_is count h over_b over_c over_g
    used =
    subst₂ (UsedPlaces t n s (c * e) (g * e)) (sym (zero_add_z x)) (sym (zero_add_z y)) used
  where
    zero_add_z : (z : ℤ) → pos 0 +ℤ z ≡ z
    zero_add_z z = omega (arith, ints)
columns_used t n s c g e b r up down [] [] (a ∷ amounts) x y steps some n_is count h over_b over_c
    over_g used = (cc)
columns_used t n s c g e b r up down [] (w ∷ ws) amounts x y steps some n_is count h over_b over_c
    over_g used = absurd h
columns_used t n s c g e b r up down (z ∷ xs) [] amounts x y steps some n_is count h over_b over_c
    over_g used = absurd h
columns_used t n s c g e b r up down (z ∷ xs) (w ∷ ws) [] x y steps some n_is count h over_b over_c
    over_g used = (cc)
columns_used t n s c g e b r up down (z ∷ xs) (w ∷ ws) (a ∷ amounts) x y steps some n_is count h
    over_b over_c over_g used =
    let d = unsigned_abs (denominator z) in
    let (b', b_is) = cofactor d b (All-head (Divides b) z xs over_b) in
    let grid : pos n ≡ (denominator z *ℤ pos e) *ℤ pos (b' * r) =
    ap pos (n_is ∙ ap (λ k. k * e * r) b_is) ∙ grid_split (pos d) (pos b') (pos e) (pos r)
    ∙ ap (λ k. (k *ℤ pos e) *ℤ pos (b' * r)) (denominator_is z) in
    let rest = columns_used t n s c g e b r up down xs ws amounts x y steps some n_is
    (omega arith) h.1
    (All-tail (Divides b) z xs over_b) (All-tail (Divides c) z xs over_c)
    (All-tail (Divides g) w ws over_g) used in
    regrouped t n (c * e) (g * e) s (numerator_over c z *ℤ pos a)
    (sum_of_products (map (numerator_over c) xs) (map pos amounts)) x
    (numerator_over g w *ℤ pos a) (sum_of_products (map (numerator_over g) ws) (map pos amounts)) y
    (column_used t n s c g e (b' * r) a up down z w _ _ steps h.0 some grid
    (All-head (Divides c) z xs over_c) (All-head (Divides g) w ws over_g) rest)
