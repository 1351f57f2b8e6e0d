-- Ratios of whole numbers, by cross products: a/b is n/d if a d is n b.
use Rattle.std.proofs.Common.{◌≡◌, ◌≢◌, ◌↔◌, ℤ, pos, ◌+ℤ◌, ◌-ℤ◌, ◌*ℤ◌, neg_ℤ, ◌<ℤ◌, [], ◌∷◌, unsigned_abs, refl, sym, ap, ap₂, subst, subst₂, ◌∙◌, arith}
use Rattle.std.proofs.lemmas.Int.{ints}
use Rattle.gj_lemmas.proofs.Integers.{mul_assoc_z, mul_comm_z, mul_mul_comm_z, swap_last_z, neg_mul_z, mul_add_z, mul_cancel_right_z, mul_lt_mul_right_z, mul_lt_cancel_right_z, mul_positive_z, mul_some_z, positive_some_z, add_assoc_z, add_comm_z}
use Rattle.gj_lemmas.proofs.Ring.{by_ring, ring}

-- ---- ratios with bottoms of any sign

-- n/d has no other value than m/e, so what is n/d is m/e
pub ratio_along : (a b n d m e : ℤ) → unsigned_abs d ≢ 0 → a *ℤ d ≡ n *ℤ b → n *ℤ e ≡ m *ℤ d →
    a *ℤ e ≡ m *ℤ b
ratio_along a b n d m e some h same =
    mul_cancel_right_z (a *ℤ e) (m *ℤ b) d
    (swap_last_z a e d ∙ ap (λ z. z *ℤ e) h ∙ swap_last_z n b e ∙ ap (λ z. z *ℤ b) same
    ∙ swap_last_z m d b) some

sum_left : (a b c d w : ℤ) → (a *ℤ d +ℤ c *ℤ b) *ℤ w ≡ (a *ℤ w) *ℤ d +ℤ (c *ℤ w) *ℤ b
sum_left a b c d w = by_ring (a ∷ b ∷ c ∷ d ∷ w ∷ []) (search ring depth 30) refl

sum_right : (n m b d : ℤ) → (n *ℤ b) *ℤ d +ℤ (m *ℤ d) *ℤ b ≡ (n +ℤ m) *ℤ (b *ℤ d)
sum_right n m b d = by_ring (n ∷ m ∷ b ∷ d ∷ []) (search ring depth 30) refl

-- n/w and m/w add up to (n + m)/w
pub ratio_sum : (a b c d n m w : ℤ) → a *ℤ w ≡ n *ℤ b → c *ℤ w ≡ m *ℤ d →
    (a *ℤ d +ℤ c *ℤ b) *ℤ w ≡ (n +ℤ m) *ℤ (b *ℤ d)
ratio_sum a b c d n m w h k =
    sum_left a b c d w ∙ ap₂ (λ x y. x *ℤ d +ℤ y *ℤ b) h k ∙ sum_right n m b d

-- the same for a difference
pub ratio_difference : (a b c d n m w : ℤ) → a *ℤ w ≡ n *ℤ b → c *ℤ w ≡ m *ℤ d →
    (a *ℤ d -ℤ c *ℤ b) *ℤ w ≡ (n -ℤ m) *ℤ (b *ℤ d)
ratio_difference a b c d n m w h k =
    let turned : neg_ℤ c *ℤ w ≡ neg_ℤ m *ℤ d = neg_mul_z c w ∙ ap neg_ℤ k ∙ sym (neg_mul_z m d) in
    ap (λ z. (a *ℤ d +ℤ z) *ℤ w) (sym (neg_mul_z c b))
    ∙ ratio_sum a b (neg_ℤ c) d n (neg_ℤ m) w h turned

-- the product of n/w and m/v is n m/(w v)
pub ratio_product : (a b c d n w m v : ℤ) → a *ℤ w ≡ n *ℤ b → c *ℤ v ≡ m *ℤ d →
    (a *ℤ c) *ℤ (w *ℤ v) ≡ (n *ℤ m) *ℤ (b *ℤ d)
ratio_product a b c d n w m v h k =
    mul_mul_comm_z a c w v ∙ (λ i. h i *ℤ k i) ∙ sym (mul_mul_comm_z n m b d)

-- with bottoms above 0, n/w is less than m/w exactly if n is less than m
pub ratio_less : (a b c d n m w : ℤ) → pos 0 <ℤ b → pos 0 <ℤ d → pos 0 <ℤ w → a *ℤ w ≡ n *ℤ b →
    c *ℤ w ≡ m *ℤ d →
    ((a *ℤ d) <ℤ (c *ℤ b)) ↔ (n <ℤ m)
ratio_less a b c d n m w b_some d_some w_some h k =
    let both = mul_positive_z b d b_some d_some in
    let left : (a *ℤ d) *ℤ w ≡ n *ℤ (b *ℤ d) = swap_last_z a d w ∙ ap (λ z. z *ℤ d) h
    ∙ mul_assoc_z n b d in
    let right : (c *ℤ b) *ℤ w ≡ m *ℤ (b *ℤ d) =
    swap_last_z c b w ∙ ap (λ z. z *ℤ b) k ∙ swap_last_z m d b ∙ mul_assoc_z m b d in (
      λ less. mul_lt_cancel_right_z n m (b *ℤ d) both
          (subst₂ (λ x y. x <ℤ y) left right (mul_lt_mul_right_z (a *ℤ d) (c *ℤ b) w w_some less)),
      λ less. mul_lt_cancel_right_z (a *ℤ d) (c *ℤ b) w w_some
          (subst₂ (λ x y. x <ℤ y) (sym left) (sym right)
          (mul_lt_mul_right_z n m (b *ℤ d) both less)),
    )

-- ---- ratios with bottoms above 0, and the laws of their sums, products and order

pub record Ratio : Type 0 where
  pub top : ℤ
  pub bottom : ℤ
  pub positive : pos 0 <ℤ bottom

-- x is n/w
abbrev pub IsOver : Ratio → ℤ → ℤ → Type 0
IsOver x n w = x.top *ℤ w ≡ n *ℤ x.bottom

abbrev pub IsEqual : Ratio → Ratio → Type 0
IsEqual x y = IsOver x y.top y.bottom

abbrev pub IsBelow : Ratio → Ratio → Type 0
IsBelow x y = (x.top *ℤ y.bottom) <ℤ (y.top *ℤ x.bottom)

abbrev pub IsSum : Ratio → Ratio → Ratio → Type 0
IsSum x y s = IsOver s (x.top *ℤ y.bottom +ℤ y.top *ℤ x.bottom) (x.bottom *ℤ y.bottom)

abbrev pub IsProduct : Ratio → Ratio → Ratio → Type 0
IsProduct x y p = IsOver p (x.top *ℤ y.top) (x.bottom *ℤ y.bottom)

-- two ratios that are n/w are equal
equal_over : (x y : Ratio) (n w : ℤ) → unsigned_abs w ≢ 0 → IsOver x n w → IsOver y n w →
    IsEqual x y
equal_over x y n w some h k = ratio_along x.top x.bottom n w y.top y.bottom some h (sym k)

both_some : (x y : Ratio) → unsigned_abs (x.bottom *ℤ y.bottom) ≢ 0
both_some x y = positive_some_z (x.bottom *ℤ y.bottom)
    (mul_positive_z x.bottom y.bottom x.positive y.positive)

-- what is the sum of n/w and m/w is (n + m)/w
pub sum_over : (x y s : Ratio) (n m w : ℤ) → IsOver x n w → IsOver y m w → IsSum x y s →
    IsOver s (n +ℤ m) w
sum_over x y s n m w h k is =
    ratio_along s.top s.bottom _ (x.bottom *ℤ y.bottom) (n +ℤ m) w (both_some x y) is
    (ratio_sum x.top x.bottom y.top y.bottom n m w h k)

-- what is the product of n/w and m/v is n m/(w v)
pub product_over : (x y p : Ratio) (n w m v : ℤ) → IsOver x n w → IsOver y m v → IsProduct x y p →
    IsOver p (n *ℤ m) (w *ℤ v)
product_over x y p n w m v h k is =
    ratio_along p.top p.bottom _ (x.bottom *ℤ y.bottom) (n *ℤ m) (w *ℤ v) (both_some x y) is
    (ratio_product x.top x.bottom y.top y.bottom n w m v h k)

-- three ratios over one bottom
record OverOneBottom (x y z : Ratio) : Type 0 where
  bottom : ℤ
  first : ℤ
  second : ℤ
  third : ℤ
  positive : pos 0 <ℤ bottom
  x_is : IsOver x first bottom
  y_is : IsOver y second bottom
  z_is : IsOver z third bottom

over_first : (a b d f : ℤ) → a *ℤ (b *ℤ d *ℤ f) ≡ (a *ℤ d *ℤ f) *ℤ b
over_first a b d f = by_ring (a ∷ b ∷ d ∷ f ∷ []) (search ring depth 30) refl

over_second : (c b d f : ℤ) → c *ℤ (b *ℤ d *ℤ f) ≡ (c *ℤ b *ℤ f) *ℤ d
over_second c b d f = by_ring (c ∷ b ∷ d ∷ f ∷ []) (search ring depth 30) refl

over_third : (e b d f : ℤ) → e *ℤ (b *ℤ d *ℤ f) ≡ (e *ℤ b *ℤ d) *ℤ f
over_third e b d f = by_ring (e ∷ b ∷ d ∷ f ∷ []) (search ring depth 30) refl

over_one_bottom : (x y z : Ratio) → OverOneBottom x y z
over_one_bottom x y z =
    let two = mul_positive_z x.bottom y.bottom x.positive y.positive in
    record {
      bottom = x.bottom *ℤ y.bottom *ℤ z.bottom;
      first = x.top *ℤ y.bottom *ℤ z.bottom;
      second = y.top *ℤ x.bottom *ℤ z.bottom;
      third = z.top *ℤ x.bottom *ℤ y.bottom;
      positive = mul_positive_z (x.bottom *ℤ y.bottom) z.bottom two z.positive;
      x_is = over_first x.top x.bottom y.bottom z.bottom;
      y_is = over_second y.top x.bottom y.bottom z.bottom;
      z_is = over_third z.top x.bottom y.bottom z.bottom;
    }

-- x + y and y + x are equal
pub sums_swapped : (x y s t : Ratio) → IsSum x y s → IsSum y x t → IsEqual s t
sums_swapped x y s t s_is t_is =
    equal_over s t _ _ (both_some x y) s_is
    (subst₂ (IsOver t) (add_comm_z (y.top *ℤ x.bottom) (x.top *ℤ y.bottom))
    (mul_comm_z y.bottom x.bottom) t_is)

-- (x + y) + z and x + (y + z) are equal
pub sums_regrouped : (x y z s t u v : Ratio) → IsSum x y s → IsSum s z t → IsSum y z u →
    IsSum x u v → IsEqual t v
sums_regrouped x y z s t u v s_is t_is u_is v_is =
    let o = over_one_bottom x y z in
    let first = sum_over x y s o.first o.second o.bottom o.x_is o.y_is s_is in
    let second = sum_over y z u o.second o.third o.bottom o.y_is o.z_is u_is in
    equal_over t v (o.first +ℤ (o.second +ℤ o.third)) o.bottom (positive_some_z o.bottom o.positive)
    (subst (λ n. IsOver t n o.bottom) (add_assoc_z o.first o.second o.third)
    (sum_over s z t (o.first +ℤ o.second) o.third o.bottom first o.z_is t_is))
    (sum_over x u v o.first (o.second +ℤ o.third) o.bottom o.x_is second v_is)

-- x y and y x are equal
pub products_swapped : (x y s t : Ratio) → IsProduct x y s → IsProduct y x t → IsEqual s t
products_swapped x y s t s_is t_is =
    equal_over s t _ _ (both_some x y) s_is
    (subst₂ (IsOver t) (mul_comm_z y.top x.top) (mul_comm_z y.bottom x.bottom) t_is)

-- (x y) z and x (y z) are equal
pub products_regrouped : (x y z s t u v : Ratio) → IsProduct x y s → IsProduct s z t →
    IsProduct y z u → IsProduct x u v →
    IsEqual t v
products_regrouped x y z s t u v s_is t_is u_is v_is =
    equal_over t v ((x.top *ℤ y.top) *ℤ z.top) ((x.bottom *ℤ y.bottom) *ℤ z.bottom)
    (mul_some_z (x.bottom *ℤ y.bottom) z.bottom (both_some x y)
    (positive_some_z z.bottom z.positive))
    (product_over s z t (x.top *ℤ y.top) (x.bottom *ℤ y.bottom) z.top z.bottom s_is refl t_is)
    (subst₂ (IsOver v) (sym (mul_assoc_z x.top y.top z.top))
    (sym (mul_assoc_z x.bottom y.bottom z.bottom))
    (product_over x u v x.top x.bottom (y.top *ℤ z.top) (y.bottom *ℤ z.bottom) refl u_is v_is))

-- x (y + z) and x y + x z are equal
pub products_over_sums : (x y z s t u v w : Ratio) → IsSum y z s → IsProduct x s t →
    IsProduct x y u → IsProduct x z v →
    IsSum u v w → IsEqual t w
products_over_sums x y z s t u v w s_is t_is u_is v_is w_is =
    let o = over_one_bottom x y z in
    let some = positive_some_z o.bottom o.positive in
    let both = o.bottom *ℤ o.bottom in
    let sum = sum_over y z s o.second o.third o.bottom o.y_is o.z_is s_is in
    let first = product_over x y u o.first o.bottom o.second o.bottom o.x_is o.y_is u_is in
    let second = product_over x z v o.first o.bottom o.third o.bottom o.x_is o.z_is v_is in
    equal_over t w (o.first *ℤ o.second +ℤ o.first *ℤ o.third) both
    (mul_some_z o.bottom o.bottom some some)
    (subst (λ n. IsOver t n both) (mul_add_z o.first o.second o.third)
    (product_over x s t o.first o.bottom (o.second +ℤ o.third) o.bottom o.x_is sum t_is))
    (sum_over u v w (o.first *ℤ o.second) (o.first *ℤ o.third) both first second w_is)

-- none is below itself
pub not_below_itself : (x : Ratio) → IsBelow x x → ⊥
not_below_itself x h = omega (arith, ints)

-- n/w is below m/w exactly if n is less than m
pub below_over : (x y : Ratio) (n m w : ℤ) → pos 0 <ℤ w → IsOver x n w → IsOver y m w →
    IsBelow x y ↔ (n <ℤ m)
below_over x y n m w some h k =
    ratio_less x.top x.bottom y.top y.bottom n m w x.positive y.positive some h k

-- x < y and y < z give x < z
pub below_chain : (x y z : Ratio) → IsBelow x y → IsBelow y z → IsBelow x z
below_chain x y z h k =
    let o = over_one_bottom x y z in
    let first = (below_over x y o.first o.second o.bottom o.positive o.x_is o.y_is).0 h in
    let second = (below_over y z o.second o.third o.bottom o.positive o.y_is o.z_is).0 k in
    (below_over x z o.first o.third o.bottom o.positive o.x_is o.z_is).1 (omega (arith, ints))

-- x < y gives x + z < y + z
pub sums_below : (x y z s t : Ratio) → IsBelow x y → IsSum x z s → IsSum y z t → IsBelow s t
sums_below x y z s t h s_is t_is =
    let o = over_one_bottom x y z in
    let tops = (below_over x y o.first o.second o.bottom o.positive o.x_is o.y_is).0 h in
    (below_over s t (o.first +ℤ o.third) (o.second +ℤ o.third) o.bottom o.positive
    (sum_over x z s o.first o.third o.bottom o.x_is o.z_is s_is)
    (sum_over y z t o.second o.third o.bottom o.y_is o.z_is t_is)).1 (omega (arith, ints))
