-- Where the values and limits of a function are on a line over some multiples of 1/order, it goes
-- along that line.
use Rattle.std.proofs.Common.{◌≡◌, ℕ, ◌+◌, ◌-◌, ◌*◌, ◌/◌, ◌%◌, ◌<◌, ◌≤◌, ⊎_elim, ℤ, pos, ◌+ℤ◌, ◌*ℤ◌, [], ◌∷◌, refl, sym, ap, ap₂, subst, ◌∙◌, arith}
use Rattle.std.proofs.Math.Nat.{mod-lt, div-add-mod', lt_of_mul-lt-mul_right, eq-zero-or-pos}
use Rattle.gj_frac.specs.declared.Frac.{Frac}
use Rattle.gj_frac.specs.Fraction.{SameValue, fraction_of, numerator, denominator, IsRatio}
use Rattle.gj_lemmas.proofs.Integers.{positive_some_z}
use Rattle.gj_lemmas.proofs.Ratios.{ratio_along}
use Rattle.gj_lemmas.proofs.Ring.{by_ring, ring}
use Rattle.gj_shape.specs.FunctionData.{FunctionData, at}
use Rattle.gj_shape.specs.Table.{table}
use Rattle.gj_shape.specs.Breaks.{on_line, IsAffineBetween}
use Rattle.gj_shape.proofs.TableLemmas.{table_at, table_between}

-- ---- along a line

-- a number over the scale is what the line from (0, u) to (n, w) has at j
abbrev pub IsOnLine : ℕ → Frac → Frac → ℕ → ℕ → ℤ → Type 0
IsOnLine scale u w n j z = SameValue (record { top = z; bottom = pos scale }) (on_line u w n j)

-- steps that are m times as fine, at a place of the coarse ones and between two of them
at_point_z : (v x y d s m t i : ℤ) → v *ℤ (d *ℤ (i +ℤ t)) ≡ (x *ℤ t +ℤ y *ℤ i) *ℤ s →
    (m *ℤ v) *ℤ (d *ℤ ((i +ℤ t) *ℤ m)) ≡ (x *ℤ (t *ℤ m) +ℤ y *ℤ (i *ℤ m)) *ℤ (s *ℤ m)
at_point_z v x y d s m t i e = left ∙ ap (λ z. z *ℤ (m *ℤ m)) e ∙ right
  where
    left : (m *ℤ v) *ℤ (d *ℤ ((i +ℤ t) *ℤ m)) ≡ v *ℤ (d *ℤ (i +ℤ t)) *ℤ (m *ℤ m)
    left = by_ring (v ∷ d ∷ m ∷ t ∷ i ∷ []) (search ring depth 40) refl

    right : (x *ℤ t +ℤ y *ℤ i) *ℤ s *ℤ (m *ℤ m) ≡ (x *ℤ (t *ℤ m) +ℤ y *ℤ (i *ℤ m)) *ℤ (s *ℤ m)
    right = by_ring (x ∷ y ∷ s ∷ m ∷ t ∷ i ∷ []) (search ring depth 40) refl

between_z : (a b x y d s u r t i : ℤ) →
    a *ℤ (d *ℤ (i +ℤ pos 1 +ℤ t)) ≡ (x *ℤ (t +ℤ pos 1) +ℤ y *ℤ i) *ℤ s →
    b *ℤ (d *ℤ (i +ℤ pos 1 +ℤ t)) ≡ (x *ℤ t +ℤ y *ℤ (i +ℤ pos 1)) *ℤ s →
    (u *ℤ a +ℤ r *ℤ b) *ℤ (d *ℤ ((i +ℤ pos 1 +ℤ t) *ℤ (u +ℤ r)))
    ≡ (x *ℤ (t *ℤ (u +ℤ r) +ℤ u) +ℤ y *ℤ (i *ℤ (u +ℤ r) +ℤ r)) *ℤ (s *ℤ (u +ℤ r))
between_z a b x y d s u r t i e g = left ∙ ap₂ (λ p q. (u *ℤ p +ℤ r *ℤ q) *ℤ (u +ℤ r)) e g ∙ right
  where
    left : (u *ℤ a +ℤ r *ℤ b) *ℤ (d *ℤ ((i +ℤ pos 1 +ℤ t) *ℤ (u +ℤ r)))
        ≡ (u *ℤ (a *ℤ (d *ℤ (i +ℤ pos 1 +ℤ t))) +ℤ r *ℤ (b *ℤ (d *ℤ (i +ℤ pos 1 +ℤ t)))) *ℤ (u +ℤ r)
    left = by_ring (a ∷ b ∷ d ∷ u ∷ r ∷ t ∷ i ∷ []) (search ring depth 60 fits 4000) refl

    right : (u *ℤ ((x *ℤ (t +ℤ pos 1) +ℤ y *ℤ i) *ℤ s) +ℤ r *ℤ ((x *ℤ t +ℤ y *ℤ (i +ℤ pos 1)) *ℤ s))
        *ℤ (u +ℤ r)
        ≡ (x *ℤ (t *ℤ (u +ℤ r) +ℤ u) +ℤ y *ℤ (i *ℤ (u +ℤ r) +ℤ r)) *ℤ (s *ℤ (u +ℤ r))
    right = by_ring (x ∷ y ∷ s ∷ u ∷ r ∷ t ∷ i ∷ []) (search ring depth 60 fits 4000) refl

-- a value on the line is on the line of m times as many steps, and so is what lies between two
-- neighbouring ones
fine_point : (scale m n i : ℕ) (u w : Frac) (v : ℤ) → i ≤ n → IsOnLine scale u w n i v →
    IsOnLine (scale * m) u w (n * m) (i * m) (pos m *ℤ v)
fine_point scale m n i u w v within is = subst P (sym n_is) at_sum
  where
    t : ℕ
    t = n - i

    n_is : n ≡ i + t
    n_is = omega arith

    P : ℕ → Type 0
    P k = IsOnLine (scale * m) u w (k * m) (i * m) (pos m *ℤ v)

    rest : t * m ≡ (i + t) * m - i * m
    rest = let e : (i + t) * m ≡ i * m + t * m = omega arith in omega arith

    start : v *ℤ (denominator u *ℤ denominator w *ℤ pos (i + t))
        ≡ (numerator u *ℤ denominator w *ℤ pos t +ℤ numerator w *ℤ denominator u *ℤ pos i)
        *ℤ pos scale
    start = ap (λ k. v *ℤ (denominator u *ℤ denominator w *ℤ pos k)) (sym n_is) ∙ is

    at_sum : P (i + t)
    at_sum =
        at_point_z v (numerator u *ℤ denominator w) (numerator w *ℤ denominator u)
        (denominator u *ℤ denominator w) (pos scale)
        (pos m) (pos t) (pos i) start
        ∙ ap (λ k. (numerator u *ℤ denominator w *ℤ pos k +ℤ numerator w *ℤ denominator u *ℤ pos
        (i * m)) *ℤ pos (scale * m)) rest

fine_between : (scale m n i r : ℕ) (u w : Frac) (a b : ℤ) → i < n → r < m →
    IsOnLine scale u w n i a →
    IsOnLine scale u w n (i + 1) b →
    IsOnLine (scale * m) u w (n * m) (i * m + r) (pos (m - r) *ℤ a +ℤ pos r *ℤ b)
fine_between scale m n i r u w a b within below first second =
    ap (λ k. (pos s *ℤ a +ℤ pos r *ℤ b) *ℤ (denominator u *ℤ denominator w *ℤ pos k))
    (ap₂ (λ j k. j * k) n_is m_is)
    ∙ between_z a b x y (denominator u *ℤ denominator w) (pos scale) (pos s) (pos r) (pos t)
    (pos i) first_is second_is
    ∙ ap₂ (λ j k. (x *ℤ pos j +ℤ y *ℤ pos (i * k + r)) *ℤ pos (scale * k)) rest (sym m_is)
  where
    t : ℕ
    t = n - (i + 1)

    s : ℕ
    s = m - r

    x : ℤ
    x = numerator u *ℤ denominator w

    y : ℤ
    y = numerator w *ℤ denominator u

    n_is : n ≡ i + 1 + t
    n_is = omega arith

    m_is : m ≡ s + r
    m_is = omega arith

    first_is : a *ℤ (denominator u *ℤ denominator w *ℤ pos (i + 1 + t))
        ≡ (x *ℤ pos (t + 1) +ℤ y *ℤ pos i) *ℤ pos scale
    first_is =
        ap (λ k. a *ℤ (denominator u *ℤ denominator w *ℤ pos k)) (sym n_is) ∙ first
        ∙ ap (λ k. (x *ℤ pos k +ℤ y *ℤ pos i) *ℤ pos scale) (let e : n - i ≡ t + 1 = omega arith in
        e)

    second_is : b *ℤ (denominator u *ℤ denominator w *ℤ pos (i + 1 + t))
        ≡ (x *ℤ pos t +ℤ y *ℤ pos (i + 1)) *ℤ pos scale
    second_is = ap (λ k. b *ℤ (denominator u *ℤ denominator w *ℤ pos k)) (sym n_is) ∙ second

    rest : t * (s + r) + s ≡ n * m - (i * m + r)
    rest =
        let e : t * (s + r) ≡ t * m = ap (λ k. t * k) (sym m_is) in
        let g : n * m ≡ i * m + m + t * m = ap (λ k. k * m) n_is ∙ omega arith in
        omega arith

-- what is x over the scale is on the line if x is
pub on_line_over : (scale : ℕ) (u w : Frac) (n j : ℕ) (x : Frac) (z : ℤ) →
    SameValue (fraction_of x) (on_line u w n j) →
    IsRatio x z (pos scale) → IsOnLine scale u w n j z
on_line_over scale u w n j x z same is =
    let line = on_line u w n j in
    ratio_along z (pos scale) x.num x.den line.top line.bottom
    (positive_some_z x.den x.lowest.positive) (sym is) same

line_first_z : (nu du nw dw n : ℤ) →
    nu *ℤ (du *ℤ dw *ℤ n) ≡ (nu *ℤ dw *ℤ n +ℤ nw *ℤ du *ℤ pos 0) *ℤ du
line_first_z nu du nw dw n = by_ring (nu ∷ du ∷ nw ∷ dw ∷ n ∷ []) (search ring depth 40) refl

line_last_z : (nu du nw dw n : ℤ) →
    nw *ℤ (du *ℤ dw *ℤ n) ≡ (nu *ℤ dw *ℤ pos 0 +ℤ nw *ℤ du *ℤ n) *ℤ dw
line_last_z nu du nw dw n = by_ring (nu ∷ du ∷ nw ∷ dw ∷ n ∷ []) (search ring depth 40) refl

-- the ends of a line
pub line_first : (u w : Frac) (n : ℕ) → SameValue (fraction_of u) (on_line u w n 0)
line_first u w n =
    line_first_z u.num u.den w.num w.den (pos n)
    ∙ ap (λ k. (u.num *ℤ w.den *ℤ pos k +ℤ w.num *ℤ u.den *ℤ pos 0) *ℤ u.den)
    (let e : n ≡ n - 0 = omega arith in e)

pub line_last : (u w : Frac) (n : ℕ) → SameValue (fraction_of w) (on_line u w n n)
line_last u w n =
    line_last_z u.num u.den w.num w.den (pos n)
    ∙ ap (λ k. (u.num *ℤ w.den *ℤ pos k +ℤ w.num *ℤ u.den *ℤ pos n) *ℤ w.den)
    (let e : 0 ≡ n - n = omega arith in e)

-- ---- a segment

-- the limits and values from p/order to n/order behind it are on the line from u to w
pub record IsSegment (f : FunctionData) (p n : ℕ) (u w : Frac) : Type 0 where
  pub right_on : (j : ℕ) → j < n → IsOnLine f.scale u w n j (at f.right (p + j))
  pub left_on : (j : ℕ) → j < n → IsOnLine f.scale u w n (j + 1) (at f.left (p + j + 1))
  pub value_on : (j : ℕ) → 0 < j → j < n → IsOnLine f.scale u w n j (at f.value (p + j))

-- the table between two multiples of 1/order, and at one, is on the finer line
segment_between : (f : FunctionData) (p n m i r : ℕ) (u w : Frac) → IsSegment f p n u w → i < n →
    0 < r → r < m →
    IsOnLine (f.scale * m) u w (n * m) (i * m + r) (table f m (p * m + (i * m + r)))
segment_between f p n m i r u w h within some below =
    let place : p * m + (i * m + r) ≡ (p + i) * m + r = omega arith in
    let entry_is : table f m (p * m + (i * m + r)) ≡ pos (m - r) *ℤ at f.right (p + i) +ℤ pos r
    *ℤ at f.left (p + i + 1) =
    ap (table f m) place ∙ table_between f m (p + i) r some below in
    subst (IsOnLine (f.scale * m) u w (n * m) (i * m + r)) (sym entry_is)
    (fine_between f.scale m n i r u w (at f.right (p + i)) (at f.left (p + i + 1)) within below
    (h.right_on i within)
    (h.left_on i within))

segment_point : (f : FunctionData) (p n m i r : ℕ) (u w : Frac) → IsSegment f p n u w → i < n →
    0 < i → 0 < m → r ≡ 0 →
    IsOnLine (f.scale * m) u w (n * m) (i * m + r) (table f m (p * m + (i * m + r)))
segment_point f p n m i r u w h within some m_some none =
    let place : p * m + (i * m + r) ≡ (p + i) * m = omega arith in
    let short : i * m ≡ i * m + r = omega arith in
    let entry_is : table f m (p * m + (i * m + r)) ≡ pos m *ℤ at f.value (p + i) =
    ap (table f m) place ∙ table_at f m (p + i) m_some in
    let low : i ≤ n = omega arith in
    subst (IsOnLine (f.scale * m) u w (n * m) (i * m + r)) (sym entry_is)
    (subst (λ k. IsOnLine (f.scale * m) u w (n * m) k (pos m *ℤ at f.value (p + i))) short
    (fine_point f.scale m n i u w (at f.value (p + i)) low (h.value_on i some within)))

-- so the function goes along the line
pub affine_on_segment : (f : FunctionData) (p n : ℕ) (u w : Frac) → IsSegment f p n u w →
    IsAffineBetween f p n u w
affine_on_segment f p n u w h m r m_some some below =
    subst (λ k. IsOnLine (f.scale * m) u w (n * m) k (table f m (p * m + k))) split
    (⊎_elim (λ none. segment_point f p n m i (r % m) u w h within (i_some none) m_some none)
    (λ rest. segment_between f p n m i (r % m) u w h within rest (mod-lt r m_some))
    (eq-zero-or-pos (r % m)))
  where
    i : ℕ
    i = r / m

    split : i * m + r % m ≡ r
    split = div-add-mod' r m

    within : i < n
    within = lt_of_mul-lt-mul_right m (let e : i * m < n * m = omega (arith, split) in e)

    i_some : r % m ≡ 0 → 0 < i
    i_some none =
        let no : i ≡ 0 → ⊥ = λ z. let e = ap (λ k. k * m) z in omega (arith, split) in
        omega (arith, no)
