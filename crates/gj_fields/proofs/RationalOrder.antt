-- The order of rational numbers.
use Rattle.std.proofs.Common.{◌≡◌, ◌<◌, ℕ, ℤ, pos, negsuc, ◌+ℤ◌, ◌-ℤ◌, ◌*ℤ◌, neg_ℤ, ◌<ℤ◌, ◌≤ℤ◌, [], ◌∷◌, refl, sym, ap, subst, ◌∙◌, arith}
use Rattle.std.proofs.lemmas.Int.{ints}
use Rattle.gj_lemmas.proofs.Integers.{mul_positive_z, mul_nonnegative_z, mul_le_cancel_right_z, one_mul_z}
use Rattle.gj_lemmas.proofs.Ring.{by_ring, ring}
use Rattle.gj_fields.specs.Rational.{Rational, whole, ◌+ℚ◌, ◌*ℚ◌, neg_ℚ, ◌-ℚ◌, ◌≤ℚ◌}
use Rattle.gj_fields.proofs.RationalLaws.{equal_q, sum_is, product_is, whole_sub}
use Rattle.gj_fields.proofs.RationalRing.{by_ring_q, ring_q}

-- x is at least 0
pub record IsNonnegativeQ (x : Rational) : Type 0 where
  pub low : pos 0 ≤ℤ x.top

pub nonnegative_whole : (z : ℤ) → pos 0 ≤ℤ z → IsNonnegativeQ (whole z)
unfolding whole
nonnegative_whole z h = record { low = h }

pub whole_nonnegative : (z : ℤ) → IsNonnegativeQ (whole z) → pos 0 ≤ℤ z
unfolding whole
whole_nonnegative z h = h.low

-- s/b = k/d has the sign of k
sign_from : (s b k d : ℤ) → pos 0 <ℤ d → pos 0 ≤ℤ b → s *ℤ d ≡ k *ℤ b → pos 0 ≤ℤ k → pos 0 ≤ℤ s
sign_from s b k d d_some b_some e low =
    let product = mul_nonnegative_z k b low b_some in
    mul_le_cancel_right_z (pos 0) s d d_some (omega (arith, ints))

pub nonnegative_add : (x y : Rational) → IsNonnegativeQ x → IsNonnegativeQ y →
    IsNonnegativeQ (x +ℚ y)
nonnegative_add x y h k =
    let first = mul_nonnegative_z x.top y.bottom h.low (omega (arith, ints, y.reduced.positive)) in
    let second = mul_nonnegative_z y.top x.bottom k.low (omega (arith, ints, x.reduced.positive)) in
    record {
      low = sign_from (x +ℚ y).top (x +ℚ y).bottom (x.top *ℤ y.bottom +ℤ y.top *ℤ x.bottom)
          (x.bottom *ℤ y.bottom)
          (mul_positive_z x.bottom y.bottom x.reduced.positive y.reduced.positive)
          (omega (arith, ints, (x +ℚ y).reduced.positive))
          (sum_is x y) (omega (arith, ints));
    }

pub nonnegative_mul : (x y : Rational) → IsNonnegativeQ x → IsNonnegativeQ y →
    IsNonnegativeQ (x *ℚ y)
nonnegative_mul x y h k = record {
  low = sign_from (x *ℚ y).top (x *ℚ y).bottom (x.top *ℤ y.top) (x.bottom *ℤ y.bottom)
      (mul_positive_z x.bottom y.bottom x.reduced.positive y.reduced.positive)
      (omega (arith, ints, (x *ℚ y).reduced.positive))
      (product_is x y) (mul_nonnegative_z x.top y.top h.low k.low);
}

scaled_low : (p b n d m : ℤ) → pos 0 <ℤ m → pos 0 <ℤ d → pos 0 <ℤ b →
    p *ℤ (pos 1 *ℤ d) ≡ (m *ℤ n) *ℤ b → pos 0 ≤ℤ p → pos 0 ≤ℤ n
scaled_low p b n d m m_some d_some b_some e low =
    sign_from n d p (m *ℤ b) (mul_positive_z m b m_some b_some) (omega (arith, ints))
    (regrouped m n b ∙ sym e ∙ ap (λ z. p *ℤ z) (one_mul_z d)) low
  where
    regrouped : (m n b : ℤ) → n *ℤ (m *ℤ b) ≡ (m *ℤ n) *ℤ b
    regrouped m n b = by_ring (m ∷ n ∷ b ∷ []) (search ring depth 40) refl

-- what is at least 0 times a number above 0 is at least 0
pub nonnegative_cancel : (n : ℕ) (x : Rational) → 0 < n → IsNonnegativeQ (whole (pos n) *ℚ x) →
    IsNonnegativeQ x
unfolding whole
nonnegative_cancel n x some h =
    let p = whole (pos n) *ℚ x in
    record {
      low = scaled_low p.top p.bottom x.top x.bottom (pos n)
          (omega (arith, ints)) x.reduced.positive
          (omega (arith, ints, p.reduced.positive)) (product_is (whole (pos n)) x) h.low;
    }

-- ---- x is at most y exactly if y - x is at least 0

negated : (x : Rational) → ((neg_ℚ x).top *ℤ x.bottom) ≡ (neg_ℤ x.top) *ℤ (neg_ℚ x).bottom
unfolding whole
negated x =
    ap (λ z. (neg_ℚ x).top *ℤ z) (sym (one_mul_z x.bottom)) ∙ product_is (whole (negsuc 0)) x
    ∙ ap (λ z. z *ℤ (neg_ℚ x).bottom) (omega (arith, ints))

difference_1 : (s yb nb xb : ℤ) → s *ℤ (yb *ℤ nb *ℤ xb) ≡ s *ℤ (yb *ℤ nb) *ℤ xb
difference_1 s yb nb xb = by_ring (s ∷ yb ∷ nb ∷ xb ∷ []) (search ring depth 40) refl

difference_2 : (yt nb nt yb sb xb : ℤ) →
    (yt *ℤ nb +ℤ nt *ℤ yb) *ℤ sb *ℤ xb ≡ (yt *ℤ xb) *ℤ (nb *ℤ sb) +ℤ (nt *ℤ xb) *ℤ (yb *ℤ sb)
difference_2 yt nb nt yb sb xb =
    by_ring (yt ∷ nb ∷ nt ∷ yb ∷ sb ∷ xb ∷ []) (search ring depth 40) refl

difference_3 : (yt nb xt yb sb xb : ℤ) → (yt *ℤ xb) *ℤ (nb *ℤ sb) +ℤ (neg_ℤ xt *ℤ nb) *ℤ (yb *ℤ sb)
    ≡ (yt *ℤ xb -ℤ xt *ℤ yb) *ℤ (nb *ℤ sb)
difference_3 yt nb xt yb sb xb =
    by_ring (yt ∷ nb ∷ xt ∷ yb ∷ sb ∷ xb ∷ []) (search ring depth 40) refl

-- what y - x has over the three bottoms
difference_over : (x y : Rational) →
    (y -ℚ x).top *ℤ (y.bottom *ℤ (neg_ℚ x).bottom *ℤ x.bottom)
    ≡ (y.top *ℤ x.bottom -ℤ x.top *ℤ y.bottom) *ℤ ((neg_ℚ x).bottom *ℤ (y -ℚ x).bottom)
difference_over x y =
    difference_1 (y -ℚ x).top y.bottom (neg_ℚ x).bottom x.bottom
    ∙ ap (λ z. z *ℤ x.bottom) (sum_is y (neg_ℚ x))
    ∙ difference_2 y.top (neg_ℚ x).bottom (neg_ℚ x).top y.bottom (y -ℚ x).bottom x.bottom
    ∙ ap (λ z. (y.top *ℤ x.bottom) *ℤ ((neg_ℚ x).bottom *ℤ (y -ℚ x).bottom) +ℤ z
    *ℤ (y.bottom *ℤ (y -ℚ x).bottom)) (negated x)
    ∙ difference_3 y.top (neg_ℚ x).bottom x.top y.bottom (y -ℚ x).bottom x.bottom

pub difference_nonnegative : (x y : Rational) → x ≤ℚ y → IsNonnegativeQ (y -ℚ x)
difference_nonnegative x y h =
    let n = neg_ℚ x in
    let d = y -ℚ x in
    let low = h.crosswise in
    let both = mul_positive_z n.bottom d.bottom n.reduced.positive d.reduced.positive in
    record {
      low = sign_from d.top (n.bottom *ℤ d.bottom) (y.top *ℤ x.bottom -ℤ x.top *ℤ y.bottom)
          (y.bottom *ℤ n.bottom *ℤ x.bottom)
          (mul_positive_z (y.bottom *ℤ n.bottom) x.bottom
          (mul_positive_z y.bottom n.bottom y.reduced.positive n.reduced.positive)
          x.reduced.positive)
          (omega (arith, ints)) (difference_over x y) (omega (arith, ints));
    }

pub at_most_from_difference : (x y : Rational) → IsNonnegativeQ (y -ℚ x) → x ≤ℚ y
at_most_from_difference x y h =
    let n = neg_ℚ x in
    let d = y -ℚ x in
    let all = mul_positive_z (y.bottom *ℤ n.bottom) x.bottom
    (mul_positive_z y.bottom n.bottom y.reduced.positive n.reduced.positive)
    x.reduced.positive in
    let low : pos 0 ≤ℤ (y.top *ℤ x.bottom -ℤ x.top *ℤ y.bottom) =
    sign_from (y.top *ℤ x.bottom -ℤ x.top *ℤ y.bottom) (y.bottom *ℤ n.bottom *ℤ x.bottom) d.top
    (n.bottom *ℤ d.bottom)
    (mul_positive_z n.bottom d.bottom n.reduced.positive d.reduced.positive) (omega (arith, ints))
    (sym (difference_over x y)) h.low in
    record { crosswise = omega (arith, ints) }

in_between : (x y z : Rational) → (z -ℚ y) +ℚ (y -ℚ x) ≡ z -ℚ x
in_between x y z = by_ring_q (x ∷ y ∷ z ∷ []) (search ring_q depth 40) refl

pub at_most_trans : (x y z : Rational) → x ≤ℚ y → y ≤ℚ z → x ≤ℚ z
at_most_trans x y z h k =
    at_most_from_difference x z
    (subst IsNonnegativeQ (in_between x y z)
    (nonnegative_add _ _ (difference_nonnegative y z k) (difference_nonnegative x y h)))

pub at_most_both : (x y : Rational) → x ≤ℚ y → y ≤ℚ x → x ≡ y
at_most_both x y h k =
    equal_q x y (let a = h.crosswise in let b = k.crosswise in omega (arith, ints))

-- ---- multiples

pub at_most_whole : (x y : ℤ) → x ≤ℤ y → whole x ≤ℚ whole y
at_most_whole x y h =
    at_most_from_difference (whole x) (whole y)
    (subst IsNonnegativeQ (whole_sub y x) (nonnegative_whole (y -ℤ x) (omega (arith, ints))))

scaled_difference : (n x y : Rational) → n *ℚ (y -ℚ x) ≡ n *ℚ y -ℚ n *ℚ x
scaled_difference n x y = by_ring_q (n ∷ x ∷ y ∷ []) (search ring_q depth 40) refl

pub at_most_scaled : (n : ℕ) (x y : Rational) → x ≤ℚ y →
    (whole (pos n) *ℚ x) ≤ℚ (whole (pos n) *ℚ y)
at_most_scaled n x y h =
    at_most_from_difference _ _
    (subst IsNonnegativeQ (scaled_difference (whole (pos n)) x y)
    (nonnegative_mul (whole (pos n)) (y -ℚ x) (nonnegative_whole (pos n) (omega (arith, ints)))
    (difference_nonnegative x y h)))

pub at_most_cancel : (n : ℕ) (x y : Rational) → 0 < n →
    (whole (pos n) *ℚ x) ≤ℚ (whole (pos n) *ℚ y) → x ≤ℚ y
at_most_cancel n x y some h =
    at_most_from_difference x y
    (nonnegative_cancel n (y -ℚ x) some
    (subst IsNonnegativeQ (sym (scaled_difference (whole (pos n)) x y))
    (difference_nonnegative _ _ h)))

turned_difference : (x y : Rational) → neg_ℚ x -ℚ neg_ℚ y ≡ y -ℚ x
turned_difference x y = by_ring_q (x ∷ y ∷ []) (search ring_q depth 40) refl

pub at_most_turned : (x y : Rational) → neg_ℚ y ≤ℚ neg_ℚ x → x ≤ℚ y
at_most_turned x y h =
    at_most_from_difference x y
    (subst IsNonnegativeQ (turned_difference x y)
    (difference_nonnegative (neg_ℚ y) (neg_ℚ x) h))
