-- A function as data at each rational number: it has one value at a point modulo 1, and each
-- rational number is a place of a grid.
use Rattle.std.proofs.Common.{◌≡◌, ℕ, zero, suc, ◌+◌, ◌*◌, ◌<◌, ℤ, pos, negsuc, ◌+ℤ◌, ◌*ℤ◌, neg_ℤ, unsigned_abs, [], ◌∷◌, refl, sym, ap, ap₂, ◌∙◌, mul-pos, arith}
use Rattle.std.proofs.lemmas.Int.{ints}
use Rattle.gj_lemmas.proofs.Ring.{by_ring, ring as whole_ring}
use Rattle.gj_lemmas.proofs.Integers.{abs_positive_z, pos_abs_z, mul_cancel_right_z, positive_some_z}
use Rattle.gj_shape.specs.FunctionData.{FunctionData, IsPiecewise}
use Rattle.gj_fields.specs.Fields.{OrderedField, HasFloor, number, whole}
use Rattle.gj_fields.specs.Functions.{IsSamePoint}
use Rattle.gj_fields.specs.Rational as q
use Rattle.gj_fields.specs.Rational.{Rational, ◌*ℚ◌}
use Rattle.gj_fields.proofs.Rationals.{rationals}
use Rattle.gj_fields.proofs.RationalLaws.{equal_q, product_is, whole_add, whole_neg}
use Rattle.gj_fields.proofs.Ring.{ring}
use Rattle.gj_fields.proofs.Ring.Term.{var, nil, unit, neg, ◌⊕◌, ◌⊗◌}
use Rattle.gj_fields.proofs.Order.{number_plus}
use Rattle.gj_fields.proofs.Points.{point_trans}
use Rattle.gj_fields.proofs.Wholes.{whole_plus, whole_times, number_times}
use Rattle.gj_reals.specs.RealFunctions.{index_of, real_function}
use Rattle.gj_reals.proofs.Places.{IsIndex, index_is}
use Rattle.gj_reals.proofs.AtReals.{HasParts, some_parts, value_is, number_some, order_some}
use Rattle.gj_reals.proofs.Lift.{whole_negative}
use Rattle.gj_limit_averages.proofs.TurnedFunctions.{mirroring}

-- n/d as a number
abbrev pub quotient : {R : Type 0} → OrderedField R → ℕ → ℕ → R
quotient K n d = K.times (number K n) (K.inverse (number K d))

module _ {R : Type 0} (K : OrderedField R) where
  open K use {plus, times, zero as o, one as e, negative}

  -- equal cross products give one number
  pub same_quotient : (a b : ℤ) (m n : ℕ) → 0 < m → 0 < n → a *ℤ pos n ≡ b *ℤ pos m →
      times (whole K a) (K.inverse (number K m)) ≡ times (whole K b) (K.inverse (number K n))
  same_quotient a b m n m_some n_some cross =
      let A = whole K a in
      let B = whole K b in
      let M = number K m in
      let N = number K n in
      let u = K.inverse M in
      let w = K.inverse N in
      sym (K.times_one (times A u))
      ∙ ap (times (times A u)) (sym (K.times_inverse N (number_some K n n_some)))
      ∙ ring K (A ∷ u ∷ N ∷ w ∷ []) (var 0 ⊗ var 1 ⊗ (var 2 ⊗ var 3))
      (var 0 ⊗ var 2 ⊗ (var 1 ⊗ var 3)) refl
      ∙ ap (λ t. times t (times u w))
      (sym (whole_times K a (pos n)) ∙ ap (whole K) cross ∙ whole_times K b (pos m))
      ∙ ring K (B ∷ M ∷ u ∷ w ∷ []) (var 0 ⊗ var 1 ⊗ (var 2 ⊗ var 3))
      (var 0 ⊗ var 3 ⊗ (var 1 ⊗ var 2)) refl
      ∙ ap (times (times B w)) (K.times_inverse M (number_some K m m_some))
      ∙ K.times_one (times B w)

  -- a number whose product with d is whole
  point_of_quotient : (x : R) (t : ℤ) (d : ℕ) → 0 < d → times x (number K d) ≡ whole K t →
      IsSamePoint K x (quotient K (index_of t d) d)
  point_of_quotient x t d some product =
      let i = index_is t d some in
      let a = index_of t d in
      let D = number K d in
      let u = K.inverse D in
      let N = number K i.n in
      let M = number K i.m in
      let D_is : times D u ≡ e = K.times_inverse D (number_some K d some) in (
        i.n,
        i.m,
        sym (K.times_one (plus x N)) ∙ ap (times (plus x N)) (sym D_is)
            ∙ ring K (x ∷ N ∷ D ∷ u ∷ []) ((var 0 ⊕ var 1) ⊗ (var 2 ⊗ var 3))
            ((var 0 ⊗ var 2 ⊕ var 1 ⊗ var 2) ⊗ var 3) refl
            ∙ ap (λ s. times s u)
            (ap₂ plus product (sym (number_times K i.n d))
            ∙ sym (whole_plus K t (pos (i.n * d))) ∙ ap (whole K) i.is
            ∙ whole_plus K (pos a) (pos (i.m * d)) ∙ ap (plus (number K a)) (number_times K i.m d))
            ∙ ring K (number K a ∷ M ∷ D ∷ u ∷ []) ((var 0 ⊕ var 1 ⊗ var 2) ⊗ var 3)
            (var 0 ⊗ var 3 ⊕ var 1 ⊗ (var 2 ⊗ var 3)) refl
            ∙ ap (λ s. plus (quotient K a d) (times M s)) D_is
            ∙ ap (plus (quotient K a d)) (K.times_one M),
      )

  -- the same over a multiple of d
  point_over : (x : R) (t : ℤ) (n d : ℕ) → 0 < n → 0 < d → times x (number K d) ≡ whole K t →
      IsSamePoint K x (quotient K (index_of (pos n *ℤ t) (n * d)) (n * d))
  point_over x t n d n_some d_some product =
      point_of_quotient x (pos n *ℤ t) (n * d) (mul-pos n_some d_some)
      (ap (times x) (number_times K n d)
      ∙ ring K (x ∷ number K n ∷ number K d ∷ []) (var 0 ⊗ (var 1 ⊗ var 2))
      (var 1 ⊗ (var 0 ⊗ var 2)) refl
      ∙ ap (times (number K n)) product ∙ sym (whole_times K (pos n) t))

  -- ---- the number with the other sign

  -- of a number at the point i/n it is at (i (n - 1))/n
  pub opposite_point : (x : R) (i c n : ℕ) → 0 < n → c + 1 ≡ n →
      IsSamePoint K x (quotient K i n) → IsSamePoint K (negative x) (quotient K (i * c) n)
  opposite_point x i c n some last point =
      let I = number K i in
      let C = number K c in
      let N = number K n in
      let u = K.inverse N in
      let turned : plus (negative (times I u)) I ≡ plus (quotient K (i * c) n) o =
      ap (plus (negative (times I u)))
      (sym (K.times_one I) ∙ ap (times I) (sym (K.times_inverse N (number_some K n some)))
      ∙ ap (λ t. times I (times t u)) (ap (number K) (sym last) ∙ number_plus K c 1))
      ∙ ring K (I ∷ C ∷ u ∷ [])
      (neg (var 0 ⊗ var 2) ⊕ var 0 ⊗ ((var 1 ⊕ (nil ⊕ unit)) ⊗ var 2))
      (var 0 ⊗ var 1 ⊗ var 2 ⊕ nil) refl
      ∙ ap (λ t. plus (times t u) o) (sym (number_times K i c)) in
      point_trans K (negative x) (negative (times I u)) (quotient K (i * c) n)
      ((mirroring K).points x (times I u) point) (i, 0, turned)

  -- of k/n it is at p/n, if k/n and p/n add up to 1
  pub opposite_places : (p k n d : ℕ) → 0 < n → d ≡ n → k + p ≡ n →
      IsSamePoint K (negative (quotient K k d)) (quotient K p n)
  opposite_places p k n d some same sum =
      let P = number K p in
      let L = number K k in
      let N = number K n in
      let u = K.inverse N in (
        1,
        0,
        ap (λ m. plus (negative (quotient K k m)) (number K 1)) same
            ∙ ring K (times L u ∷ []) (neg (var 0) ⊕ (nil ⊕ unit)) (neg (var 0) ⊕ unit) refl
            ∙ ap (plus (negative (times L u)))
            (sym (K.times_inverse N (number_some K n some))
            ∙ ap (λ t. times t u) (ap (number K) (sym sum) ∙ number_plus K k p))
            ∙ ring K (L ∷ P ∷ u ∷ []) (neg (var 0 ⊗ var 2) ⊕ (var 0 ⊕ var 1) ⊗ var 2)
            (var 1 ⊗ var 2 ⊕ nil) refl,
      )

  module _ (floors : HasFloor K) (f : FunctionData) (bounds : IsPiecewise f) where
    abbrev moved : ℤ → ℕ → ℕ → ℤ
    moved z n m = z +ℤ pos (n * f.order) +ℤ neg_ℤ (pos (m * f.order))

    moved_whole : (z : ℤ) (n m : ℕ) →
        whole K (moved z n m) ≡ plus (plus (whole K z) (times (number K n) (number K f.order)))
        (negative (times (number K m) (number K f.order)))
    moved_whole z n m =
        whole_plus K (z +ℤ pos (n * f.order)) (neg_ℤ (pos (m * f.order)))
        ∙ ap₂ plus
        (whole_plus K z (pos (n * f.order)) ∙ ap (plus (whole K z)) (number_times K n f.order))
        (whole_negative K (pos (m * f.order)) ∙ ap negative (number_times K m f.order))

    moved_parts : (x y : R) (n m : ℕ) → plus x (number K n) ≡ plus y (number K m) →
        (z : ℤ) (l : R) →
        HasParts K floors f bounds x z l → HasParts K floors f bounds y (moved z n m) l
    moved_parts x y n m same z l p =
        let Q = number K f.order in
        let N = number K n in
        let M = number K m in
        record {
          is =
              ring K (Q ∷ y ∷ M ∷ []) (var 0 ⊗ var 1)
              (var 0 ⊗ (var 1 ⊕ var 2) ⊕ neg (var 2 ⊗ var 0)) refl
              ∙ ap (λ t. plus (times Q t) (negative (times M Q))) (sym same)
              ∙ ring K (Q ∷ x ∷ N ∷ M ∷ [])
              (var 0 ⊗ (var 1 ⊕ var 2) ⊕ neg (var 3 ⊗ var 0))
              (var 0 ⊗ var 1 ⊕ (var 2 ⊗ var 0 ⊕ neg (var 3 ⊗ var 0))) refl
              ∙ ap (λ t. plus t (plus (times N Q) (negative (times M Q)))) p.is
              ∙ ring K (whole K z ∷ l ∷ times N Q ∷ times M Q ∷ [])
              (var 0 ⊕ var 1 ⊕ (var 2 ⊕ neg (var 3))) (var 0 ⊕ var 2 ⊕ neg (var 3) ⊕ var 1) refl
              ∙ ap (λ t. plus t l) (sym (moved_whole z n m));
          low = p.low;
          high = p.high;
        }

    moved_index : (z : ℤ) (n m a : ℕ) → IsIndex f.order z a → IsIndex f.order (moved z n m) a
    moved_index z n m a i =
        let i_is = i.is in
        let left : (i.n + m) * f.order ≡ i.n * f.order + m * f.order = omega arith in
        let right : a + (i.m + n) * f.order ≡ a + i.m * f.order + n * f.order = omega arith in
        record { n = i.n + m; m = i.m + n; is = omega (arith, ints) }

    -- the values at one point are equal
    pub value_at_point : (x y : R) → IsSamePoint K x y →
        real_function K floors f x ≡ real_function K floors f y
    value_at_point x y (n, m, same) =
        let z = floors.floor (times (number K f.order) x) in
        let a = index_of z f.order in
        let p = some_parts K floors f bounds x in
        let i = index_is z f.order (order_some K floors f bounds) in
        value_is K floors f bounds x z _ a p i
        ∙ sym (value_is K floors f bounds y (moved z n m) _ a (moved_parts x y n m same z _ p)
        (moved_index z n m a i))

-- ---- rational numbers

number_is : (n : ℕ) → number rationals n ≡ q.whole (pos n)
number_is zero = refl
number_is (suc n) =
    ap (λ x. rationals.plus x rationals.one) (number_is n) ∙ sym (whole_add (pos n) (pos 1))
    ∙ ap q.whole (omega (arith, ints))

whole_is : (z : ℤ) → whole rationals z ≡ q.whole z
whole_is (pos n) = number_is n
whole_is (negsuc n) =
    ap rationals.negative (number_is (suc n)) ∙ sym (whole_neg (pos (suc n)))
    ∙ ap q.whole (omega (arith, ints))

-- a rational number times its bottom
times_bottom : (x : Rational) → x *ℚ q.whole x.bottom ≡ q.whole x.top
unfolding q.whole
times_bottom x =
    let p = x *ℚ q.whole x.bottom in
    equal_q p (q.whole x.top)
    (mul_cancel_right_z (p.top *ℤ pos 1) (x.top *ℤ p.bottom) x.bottom
    (by_ring (p.top ∷ x.bottom ∷ []) (search whole_ring depth 20) refl
    ∙ product_is x (q.whole x.bottom)
    ∙ by_ring (x.top ∷ x.bottom ∷ p.bottom ∷ []) (search whole_ring depth 20) refl)
    (positive_some_z x.bottom x.reduced.positive))

-- each rational number is a place of a grid of order a multiple of n, modulo 1
pub record IsPlaceOf (n : ℕ) (x : Rational) : Type 0 where
  pub multiple : ℕ
  pub index : ℕ
  pub some : 0 < multiple
  pub point : IsSamePoint rationals x (quotient rationals index (n * multiple))

pub place_of : (n : ℕ) → 0 < n → (x : Rational) → IsPlaceOf n x
place_of n some x =
    let d = unsigned_abs x.bottom in
    let d_some = abs_positive_z x.bottom x.reduced.positive in
    let positive = x.reduced.positive in
    let bottom : pos d ≡ x.bottom = pos_abs_z x.bottom (omega (arith, ints)) in
    record {
      multiple = d;
      index = index_of (pos n *ℤ x.top) (n * d);
      some = d_some;
      point = point_over rationals x x.top n d some d_some
          (ap (rationals.times x) (number_is d ∙ ap q.whole bottom) ∙ times_bottom x
          ∙ sym (whole_is x.top));
    }
