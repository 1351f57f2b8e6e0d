-- The mixed-integer cut on grids.
use Rattle.std.proofs.Common.{◌≡◌, ℕ, zero, suc, ◌+◌, ◌-◌, ◌*◌, ◌/◌, ◌%◌, ◌<◌, ◌≤◌, ⊎_elim, ℤ, pos, ◌+ℤ◌, ◌*ℤ◌, [], ◌∷◌, refl, sym, ap, ap₂, subst₂, ◌∙◌, arith}
use Rattle.std.proofs.Math.Nat.{div-add-mod', mod-lt, mod-mod, lt_of_mul-lt-mul_right, mul-le-mul_right, mul-pos}
use Rattle.std.proofs.lemmas.Bool.{cases_lt}
use Rattle.gj_lemmas.proofs.Quotients.{same_at_remainder}
use Rattle.gj_lemmas.proofs.Ring.{by_ring, ring}
use Rattle.gj_shape.specs.FunctionData.{FunctionData, IsWithinBounds, IsContinuous, at}
use Rattle.gj_shape.specs.Gmic.{gmic_table, gmic_scale}
use Rattle.gj_shape.specs.Table.{table, entry}
use Rattle.gj_shape.proofs.TableLemmas.{table_parts, table_period, left_is_value, right_is_value}
use Rattle.gj_family.specs.Families.{IsGmic}
use Rattle.gj_family.proofs.Tables.{table_remainder, table_rising, table_falling}

no_weight : (x y : ℤ) (m : ℕ) → pos m *ℤ x ≡ pos m *ℤ x +ℤ pos 0 *ℤ y
no_weight x y m = by_ring (x ∷ y ∷ pos m ∷ []) (search ring depth 20) refl

-- between two neighbouring multiples of 1/order a continuous function is affine
continuous_entry : (f : FunctionData) (a u r : ℕ) → IsContinuous f →
    entry f (u + r) a r ≡ pos u *ℤ at f.value a +ℤ pos r *ℤ at f.value (a + 1)
continuous_entry f a u zero h =
    let whole : u + 0 ≡ u = omega arith in
    ap (λ n. entry f n a 0) whole ∙ no_weight (at f.value a) (at f.value (a + 1)) u
continuous_entry f a u (suc r) h =
    let rest : u + suc r - suc r ≡ u = omega arith in
    ap₂ (λ x y. pos (u + suc r - suc r) *ℤ x +ℤ pos (suc r) *ℤ y) (right_is_value f a h)
    (left_is_value f (a + 1) h)
    ∙ ap (λ n. pos n *ℤ at f.value a +ℤ pos (suc r) *ℤ at f.value (a + 1)) rest

-- ---- the two sides as identities

rising_out : (x y : ℤ) (k u r c : ℕ) →
    (pos u *ℤ x +ℤ pos r *ℤ y) *ℤ pos (k * (u + r) * (c * (u + r)))
    ≡ (pos u *ℤ (x *ℤ pos k) +ℤ pos r *ℤ (y *ℤ pos k)) *ℤ pos ((u + r) * (c * (u + r)))
rising_out x y k u r c = by_ring (x ∷ y ∷ pos k ∷ pos u ∷ pos r ∷ pos c ∷ [])
    (search ring depth 40) refl

rising_in : (a u r c s : ℕ) →
    (pos u *ℤ (pos a *ℤ pos s) +ℤ pos r *ℤ (pos (a + 1) *ℤ pos s)) *ℤ pos ((u + r) * (c * (u + r)))
    ≡ pos (c * (u + r) * (a * (u + r) + r)) *ℤ pos (s * (u + r))
rising_in a u r c s = by_ring (pos a ∷ pos u ∷ pos r ∷ pos c ∷ pos s ∷ [])
    (search ring depth 40) refl

rising_side : (x y : ℤ) (k a u r c s : ℕ) → x *ℤ pos k ≡ pos a *ℤ pos s →
    y *ℤ pos k ≡ pos (a + 1) *ℤ pos s →
    (pos u *ℤ x +ℤ pos r *ℤ y) *ℤ pos (k * (u + r) * (c * (u + r)))
    ≡ pos (c * (u + r) * (a * (u + r) + r)) *ℤ pos (s * (u + r))
rising_side x y k a u r c s e g =
    rising_out x y k u r c
    ∙ ap₂ (λ v w. (pos u *ℤ v +ℤ pos r *ℤ w) *ℤ pos ((u + r) * (c * (u + r)))) e g
    ∙ rising_in a u r c s

falling_out : (x y : ℤ) (k u r c : ℕ) →
    (pos u *ℤ x +ℤ pos r *ℤ y) *ℤ pos (k * (u + r) * (c * (u + r)))
    ≡ (pos u *ℤ (x *ℤ pos c) +ℤ pos r *ℤ (y *ℤ pos c)) *ℤ pos (k * (u + r) * (u + r))
falling_out x y k u r c = by_ring (x ∷ y ∷ pos k ∷ pos u ∷ pos r ∷ pos c ∷ [])
    (search ring depth 40) refl

falling_in : (b u r k s : ℕ) →
    (pos u *ℤ (pos (b + 1) *ℤ pos s) +ℤ pos r *ℤ (pos b *ℤ pos s)) *ℤ pos (k * (u + r) * (u + r))
    ≡ pos (k * (u + r) * (b * (u + r) + u)) *ℤ pos (s * (u + r))
falling_in b u r k s = by_ring (pos b ∷ pos u ∷ pos r ∷ pos k ∷ pos s ∷ [])
    (search ring depth 40) refl

falling_side : (x y : ℤ) (k b u r c s : ℕ) → x *ℤ pos c ≡ pos (b + 1) *ℤ pos s →
    y *ℤ pos c ≡ pos b *ℤ pos s →
    (pos u *ℤ x +ℤ pos r *ℤ y) *ℤ pos (k * (u + r) * (c * (u + r)))
    ≡ pos (k * (u + r) * (b * (u + r) + u)) *ℤ pos (s * (u + r))
falling_side x y k b u r c s e g =
    falling_out x y k u r c
    ∙ ap₂ (λ v w. (pos u *ℤ v +ℤ pos r *ℤ w) *ℤ pos (k * (u + r) * (u + r))) e g
    ∙ falling_in b u r k s

-- ---- the table within one period

-- m times the order and m times the place, in their parts
abbrev AgreesAt : FunctionData → ℕ → ℕ → ℕ → ℕ → Type 0
AgreesAt f q k m i =
    table f m i *ℤ pos (gmic_scale (q * m) (k * m)) ≡ pos (gmic_table (q * m) (k * m) i) *ℤ pos
    (f.scale * m)

-- from the value of the table and that of the other one
agrees_from : (f : FunctionData) (q k m i c g : ℕ) (t : ℤ) → table f m i ≡ t → q * m - k * m ≡ c →
    gmic_table (q * m) (k * m) i ≡ g →
    t *ℤ pos (k * m * c) ≡ pos g *ℤ pos (f.scale * m) → AgreesAt f q k m i
agrees_from f q k m i c g t e d h whole =
    ap₂ (λ x n. x *ℤ pos (k * m * n)) e d ∙ whole ∙ ap (λ n. pos n *ℤ pos (f.scale * m)) (sym h)

-- before the place
agrees_rising : (f : FunctionData) (q k a u r c : ℕ) → IsGmic q k f → q ≡ k + c → 0 < u → a < k →
    AgreesAt f q k (u + r) (a * (u + r) + r)
agrees_rising f q k a u r c h whole u_some low =
    let m = u + r in
    let i = a * m + r in
    let next : (a + 1) * m ≤ k * m = mul-le-mul_right m (omega arith) in
    let split : (a + 1) * m ≡ a * m + m = omega arith in
    let grid : q * m ≡ k * m + c * m = ap (λ n. n * m) whole ∙ omega arith in
    let i_low : i ≤ k * m = omega arith in
    let i_below : i < q * m = omega arith in
    let cofactor : q * m - k * m ≡ c * m = omega arith in
    agrees_from f q k m i (c * m) (c * m * i) _ (table_parts f m i a r refl (omega arith)
    ∙ continuous_entry f a u r h.continuous)
    cofactor (table_rising (q * m) (k * m) i i_below i_low ∙ ap (λ n. n * i) cofactor)
    (rising_side (at f.value a) (at f.value (a + 1)) k a u r c f.scale (h.rises a (omega arith))
    (h.rises (a + 1) (omega arith)))

-- from the place on
agrees_falling : (f : FunctionData) (q k a u r c b : ℕ) → IsGmic q k f → q ≡ k + c → 0 < c → 0 < u →
    k ≤ a → q ≡ a + (b + 1) →
    AgreesAt f q k (u + r) (a * (u + r) + r)
agrees_falling f q k a u r c b h whole c_some u_some high rest =
    let m = u + r in
    let i = a * m + r in
    let low : k * m ≤ a * m = mul-le-mul_right m high in
    let grid : q * m ≡ k * m + c * m = ap (λ n. n * m) whole ∙ omega arith in
    let grid_rest : q * m ≡ a * m + (b * m + m) = ap (λ n. n * m) rest ∙ omega arith in
    let some : 0 < c * m = mul-pos c_some (omega arith) in
    let cofactor : q * m - k * m ≡ c * m = omega arith in
    let left : q * m - i ≡ b * m + u = omega arith in
    let here : q - a ≡ b + 1 = omega arith in
    let there : q - (a + 1) ≡ b = omega arith in
    let cut : q - k ≡ c = omega arith in
    let first : at f.value a *ℤ pos c ≡ pos (b + 1) *ℤ pos f.scale =
    ap (λ n. at f.value a *ℤ pos n) (sym cut) ∙ h.falls a high (omega arith)
    ∙ ap (λ n. pos n *ℤ pos f.scale) here in
    let second : at f.value (a + 1) *ℤ pos c ≡ pos b *ℤ pos f.scale =
    ap (λ n. at f.value (a + 1) *ℤ pos n) (sym cut) ∙ h.falls (a + 1) (omega arith) (omega arith)
    ∙ ap (λ n. pos n *ℤ pos f.scale) there in
    agrees_from f q k m i (c * m) (k * m * (b * m + u)) _ (table_parts f m i a r refl (omega arith)
    ∙ continuous_entry f a u r h.continuous)
    cofactor (table_falling (q * m) (k * m) i (omega arith) (omega arith) (omega arith)
    ∙ ap (λ n. k * m * n) left)
    (falling_side (at f.value a) (at f.value (a + 1)) k b u r c f.scale first second)

agrees_at_parts : (f : FunctionData) (q k a u r : ℕ) → IsGmic q k f → k < q → 0 < u → a < q →
    AgreesAt f q k (u + r) (a * (u + r) + r)
agrees_at_parts f q k a u r h place u_some below =
    ⊎_elim (agrees_rising f q k a u r (q - k) h (omega arith) u_some)
    (λ high. agrees_falling f q k a u r (q - k) (q - (a + 1)) h (omega arith)
    (omega arith) u_some high (omega arith)) (cases_lt a k)

-- ---- the table everywhere

agrees_within : (f : FunctionData) (q k m i : ℕ) → IsGmic q k f → k < q → 0 < m → i < q * m →
    AgreesAt f q k m i
agrees_within f q k m i h place some below =
    let r = i % m in
    let a = i / m in
    let small : r < m = mod-lt i some in
    let parts : i ≡ a * m + r = sym (div-add-mod' i m) in
    let grid : m - r + r ≡ m = omega arith in
    let under : a * m < q * m = omega arith in
    let inside : a < q = lt_of_mul-lt-mul_right m under in
    let there : a * (m - r + r) + r ≡ i = ap (λ n. a * n + r) grid ∙ sym parts in
    subst₂ (λ n j. AgreesAt f q k n j) grid there
    (agrees_at_parts f q k a (m - r) r h place (omega arith) inside)

agrees : (f : FunctionData) (m i : ℕ) → IsGmic f.order f.place f → IsWithinBounds f → 0 < m →
    AgreesAt f f.order f.place m i
agrees f m i h bounds some =
    let n = f.order * m in
    let q_some : 0 < f.order = let low = bounds.order_low in omega arith in
    let n_some : 0 < n = mul-pos q_some some in
    let own : table f m (i % n) ≡ table f m i =
    same_at_remainder (table f m) n (λ j. table_period f m j some bounds) (i % n) i (mod-mod i n) in
    subst₂ (λ x y. x *ℤ pos (gmic_scale n (f.place * m)) ≡ pos y *ℤ pos (f.scale * m)) own
    (table_remainder n (f.place * m) i)
    (agrees_within f f.order f.place m (i % n) h bounds.place_high some (mod-lt i n_some))

-- on every grid the mixed-integer cut is the table
pub gmic_on_grid : (q k m i : ℕ) (f : FunctionData) → IsGmic q k f → IsWithinBounds f → 0 < m →
    AgreesAt f q k m i
gmic_on_grid q k m i f h bounds some =
    subst₂ (λ a b. AgreesAt f a b m i) h.order h.place
    (agrees f m i (subst₂ (λ a b. IsGmic a b f) (sym h.order) (sym h.place) h) bounds some)
