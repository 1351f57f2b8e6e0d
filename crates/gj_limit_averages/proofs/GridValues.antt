-- Two functions on a finer grid that average to a function: the sums of their values at the places
-- of one piece, in a field.
use Rattle.std.proofs.Common.{◌≡◌, ℕ, zero, suc, false, ⊎_elim, ◌+◌, ◌*◌, ◌<◌, ℤ, pos, ◌+ℤ◌, ◌*ℤ◌, [], ◌∷◌, refl, sym, subst, subst₂, ap, ap₂, ◌∙◌, arith}
use Rattle.gj_shape.specs.FunctionData.{FunctionData, at}
use Rattle.gj_shape.specs.Refinement.{refined}
use Rattle.gj_fields.specs.Fields.{OrderedField, AtMost, number, whole}
use Rattle.gj_fields.proofs.Ring.{ring}
use Rattle.gj_fields.proofs.Ring.Term.{var, nil, unit, neg, ◌⊕◌, ◌⊗◌}
use Rattle.gj_fields.proofs.Order.{either, le_of_eq, times_le, by_two, number_low, number_plus}
use Rattle.gj_fields.proofs.Wholes.{whole_plus, number_order}
use Rattle.gj_reals.specs.RealFunctions.{value_between}
use Rattle.gj_reals.proofs.Pieces.{between_zero, between_some, is_false, is_not}
use Rattle.gj_reals.proofs.AtReals.{number_some}
use Rattle.gj_reals.proofs.Lift.{whole_times}
use Rattle.gj_limit_grids.proofs.Refined.{between, right_on_line, left_on_line, value_on_line, value_at_multiple}
use Rattle.gj_limit_averages.specs.Averages.{AverageToFunction}

module _ {R : Type 0} (K : OrderedField R) where
  open K use {plus, times, zero as o, one as e, negative}

  -- ---- a sum of two pairs of whole numbers

  whole_sum : (x y z : ℤ) → x +ℤ y ≡ z → plus (whole K x) (whole K y) ≡ whole K z
  whole_sum x y z h = sym (whole_plus K x y) ∙ ap (whole K) h

  whole_piece : (f : FunctionData) (a u c : ℕ) →
      whole K (between f a u c)
      ≡ plus (times (number K u) (whole K (at f.right a)))
      (times (number K c) (whole K (at f.left (a + 1))))
  whole_piece f a u c =
      whole_plus K (pos u *ℤ at f.right a) (pos c *ℤ at f.left (a + 1))
      ∙ ap₂ plus (whole_times K (pos u) (at f.right a)) (whole_times K (pos c) (at f.left (a + 1)))

  pub number_next : (n : ℕ) → number K (n + 1) ≡ plus (number K n) e
  number_next n = number_plus K n 1
      ∙ ring K (number K n ∷ []) (var 0 ⊕ (nil ⊕ unit)) (var 0 ⊕ unit) refl

  module _ (f g h : FunctionData) (m c : ℕ) (average : AverageToFunction f m c g h) where
    abbrev C : R
    C = number K (2 * c)

    abbrev W : ℤ → R
    W z = whole K z

    times_C : (z : ℤ) → W (pos (2 * c) *ℤ z) ≡ times C (W z)
    times_C z = whole_times K (pos (2 * c)) z

    -- C times what is l more than r steps of 1/m from a/order
    abbrev Line : ℕ → ℕ → ℕ → R → R
    Line a u r l =
        times C (plus (times (plus (number K u) (negative l)) (W (at f.right a)))
        (times (plus (number K r) l) (W (at f.left (a + 1)))))

    -- the two on the piece
    inside : (a r w : ℕ) (l : R) → r + 1 + w ≡ m →
        plus
        (plus (times (plus e (negative l)) (W (at g.right (a * m + r))))
        (times l (W (at g.left (a * m + r + 1)))))
        (plus (times (plus e (negative l)) (W (at h.right (a * m + r))))
        (times l (W (at h.left (a * m + r + 1)))))
        ≡ Line a (w + 1) r l
    inside a r w l total =
        let i = a * m + r in
        let S = W (at f.right a) in
        let L = W (at f.left (a + 1)) in
        let N = number K r in
        let V = number K w in
        let right : plus (W (at g.right i)) (W (at h.right i))
        ≡ times C (plus (times (plus V e) S) (times N L)) =
        whole_sum (at g.right i) (at h.right i) _ (average.right i)
        ∙ times_C (refined f f.right m i)
        ∙ ap (λ z. times C (W z))
        ((right_on_line f m i a r refl (omega arith)).is (w + 1) (omega arith))
        ∙ ap (times C) (whole_piece f a (w + 1) r)
        ∙ ap (λ n. times C (plus (times n S) (times N L))) (number_next w) in
        let left : plus (W (at g.left (i + 1))) (W (at h.left (i + 1)))
        ≡ times C (plus (times V S) (times (plus N e) L)) =
        whole_sum (at g.left (i + 1)) (at h.left (i + 1)) _ (average.left (i + 1))
        ∙ times_C (refined f f.left m (i + 1))
        ∙ ap (λ z. times C (W z))
        ((left_on_line f m (i + 1) a (r + 1) (omega arith) (omega arith) (omega arith)).is w
        (omega arith))
        ∙ ap (times C) (whole_piece f a w (r + 1))
        ∙ ap (λ n. times C (plus (times V S) (times n L))) (number_next r) in
        ring K
        (l ∷ W (at g.right i) ∷ W (at g.left (i + 1)) ∷ W (at h.right i) ∷ W (at h.left (i + 1))
        ∷ [])
        (((unit ⊕ neg (var 0)) ⊗ var 1 ⊕ var 0 ⊗ var 2)
        ⊕ ((unit ⊕ neg (var 0)) ⊗ var 3 ⊕ var 0 ⊗ var 4))
        ((unit ⊕ neg (var 0)) ⊗ (var 1 ⊕ var 3) ⊕ var 0 ⊗ (var 2 ⊕ var 4)) refl
        ∙ ap₂ (λ x y. plus (times (plus e (negative l)) x) (times l y)) right left
        ∙ ring K (l ∷ C ∷ S ∷ L ∷ N ∷ V ∷ [])
        ((unit ⊕ neg (var 0)) ⊗ (var 1 ⊗ ((var 5 ⊕ unit) ⊗ var 2 ⊕ var 4 ⊗ var 3))
        ⊕ var 0 ⊗ (var 1 ⊗ (var 5 ⊗ var 2 ⊕ (var 4 ⊕ unit) ⊗ var 3)))
        (var 1 ⊗ (((var 5 ⊕ unit) ⊕ neg (var 0)) ⊗ var 2 ⊕ (var 4 ⊕ var 0) ⊗ var 3)) refl
        ∙ ap (λ n. times C (plus (times (plus n (negative l)) S) (times (plus N l) L)))
        (sym (number_next w))

    -- the values at points of the grid
    value_inside : (a r u : ℕ) (l : R) → r + u ≡ m → 0 < u → 0 < r → l ≡ o →
        plus (W (at g.value (a * m + r))) (W (at h.value (a * m + r))) ≡ Line a u r l
    value_inside a r u l total u_some r_some none =
        let i = a * m + r in
        let S = W (at f.right a) in
        let L = W (at f.left (a + 1)) in
        whole_sum (at g.value i) (at h.value i) _ (average.value i)
        ∙ times_C (refined f f.value m i)
        ∙ ap (λ z. times C (W z))
        ((value_on_line f m i a r refl r_some (omega arith)).is u (omega arith))
        ∙ ap (times C) (whole_piece f a u r)
        ∙ ring K (C ∷ number K u ∷ number K r ∷ S ∷ L ∷ [])
        (var 0 ⊗ (var 1 ⊗ var 3 ⊕ var 2 ⊗ var 4))
        (var 0 ⊗ ((var 1 ⊕ neg nil) ⊗ var 3 ⊕ (var 2 ⊕ nil) ⊗ var 4)) refl
        ∙ ap
        (λ t.
        times C (plus (times (plus (number K u) (negative t)) S) (times (plus (number K r) t) L)))
        (sym none)

    value_at_point : (a : ℕ) → 0 < m →
        plus (W (at g.value (a * m + 0))) (W (at h.value (a * m + 0)))
        ≡ times C (times (number K m) (W (at f.value a)))
    value_at_point a some =
        let i = a * m + 0 in
        whole_sum (at g.value i) (at h.value i) _ (average.value i)
        ∙ times_C (refined f f.value m i)
        ∙ ap (λ z. times C (W z)) (value_at_multiple f m i a (omega arith) some).is
        ∙ ap (times C) (whole_times K (pos m) (at f.value a))

    module _ (some : 0 < m) where
      abbrev M : R
      M = number K m

      abbrev w : R
      w = K.inverse M

      M_is : times M w ≡ e
      M_is = K.times_inverse M (number_some K m some)

      -- the place on the piece of f
      abbrev rest : ℕ → R → R
      rest r l = times (plus (number K r) l) w

      rest_back : (r : ℕ) (l : R) → times (rest r l) M ≡ plus (number K r) l
      rest_back r l =
          ring K (plus (number K r) l ∷ w ∷ M ∷ []) (var 0 ⊗ var 1 ⊗ var 2)
          (var 0 ⊗ (var 2 ⊗ var 1)) refl
          ∙ ap (times (plus (number K r) l)) M_is ∙ K.times_one (plus (number K r) l)

      rest_some : (r : ℕ) (l : R) → (AtMost K (plus (number K r) l) o → ⊥) →
          K.at_most (rest r l) o ≡ false
      rest_some r l apart =
          is_false K (rest r l) o (λ none.
          apart (subst₂ (AtMost K) (rest_back r l) (ring K (M ∷ []) (nil ⊗ var 0) nil refl)
          (times_le K (rest r l) o M (number_low K m) none)))

      line_is : (a r u : ℕ) (l : R) → r + u ≡ m → K.at_most (rest r l) o ≡ false →
          Line a u r l ≡ times C (times M (value_between K f a (rest r l)))
      line_is a r u l total apart =
          let S = W (at f.right a) in
          let L = W (at f.left (a + 1)) in
          let y = plus (number K r) l in
          let M_sum : plus (number K r) (number K u) ≡ M =
          sym (number_plus K r u) ∙ ap (number K) total in
          ring K (C ∷ number K u ∷ number K r ∷ l ∷ S ∷ L ∷ [])
          (var 0 ⊗ ((var 1 ⊕ neg (var 3)) ⊗ var 4 ⊕ (var 2 ⊕ var 3) ⊗ var 5))
          (var 0 ⊗ (((var 2 ⊕ var 1) ⊕ neg (var 2 ⊕ var 3)) ⊗ var 4 ⊕ (var 2 ⊕ var 3) ⊗ var 5)) refl
          ∙ ap (λ n. times C (plus (times (plus n (negative y)) S) (times y L))) M_sum
          ∙ ring K (C ∷ M ∷ y ∷ S ∷ L ∷ [])
          (var 0 ⊗ ((var 1 ⊕ neg (var 2)) ⊗ var 3 ⊕ var 2 ⊗ var 4))
          (var 0 ⊗ ((var 1 ⊕ neg (var 2 ⊗ unit)) ⊗ var 3 ⊕ var 2 ⊗ unit ⊗ var 4)) refl
          ∙ ap (λ t. times C (plus (times (plus M (negative (times y t))) S) (times (times y t) L)))
          (sym M_is)
          ∙ ring K (C ∷ M ∷ y ∷ w ∷ S ∷ L ∷ [])
          (var 0
          ⊗ ((var 1 ⊕ neg (var 2 ⊗ (var 1 ⊗ var 3))) ⊗ var 4 ⊕ var 2 ⊗ (var 1 ⊗ var 3) ⊗ var 5))
          (var 0 ⊗ (var 1 ⊗ ((unit ⊕ neg (var 2 ⊗ var 3)) ⊗ var 4 ⊕ var 2 ⊗ var 3 ⊗ var 5))) refl
          ∙ ap (λ t. times C (times M t)) (sym (between_some K _ _ _ (rest r l) apart))

      -- at a point of the grid
      sum_at : (a r u : ℕ) (l : R) → r + u ≡ m → 0 < u → l ≡ o →
          plus (W (at g.value (a * m + r))) (W (at h.value (a * m + r)))
          ≡ times C (times M (value_between K f a (rest r l)))
      sum_at a zero u l total u_some none =
          let zero_rest : rest 0 l ≡ o =
          ap (λ t. times (plus o t) w) none ∙ ring K (w ∷ []) ((nil ⊕ nil) ⊗ var 0) nil refl in
          value_at_point a some
          ∙ ap (λ t. times C (times M t))
          (sym (between_zero K _ _ _ (rest 0 l) (le_of_eq K (rest 0 l) o zero_rest)))
      sum_at a (suc r) u l total u_some none =
          value_inside a (suc r) u l total u_some (omega arith) none
          ∙ line_is a (suc r) u l total
          (rest_some (suc r) l (λ low.
          let back = number_order K (suc r) 0
          (subst (λ t. AtMost K t o)
          (ap (plus (number K (suc r))) none ∙ K.plus_zero (number K (suc r))) low) in
          absurd (omega arith)))

      -- and between
      pub sum_between : (a r k : ℕ) (l : R) → r + 1 + k ≡ m → AtMost K o l →
          plus (value_between K g (a * m + r) l) (value_between K h (a * m + r) l)
          ≡ times C (times M (value_between K f a (rest r l)))
      sum_between a r k l total low =
          ⊎_elim
          (λ none.
          ap₂ plus (between_zero K _ _ _ l none) (between_zero K _ _ _ l none)
          ∙ sum_at a r (k + 1) l (omega arith) (omega arith) (K.antisymmetric l o none low))
          (λ apart.
          ap₂ plus (between_some K _ _ _ l apart) (between_some K _ _ _ l apart)
          ∙ inside a r k l total
          ∙ line_is a r (k + 1) l (omega arith)
          (rest_some r l (λ less. is_not K l o apart
          (by_two K (l ∷ number K r ∷ []) (var 0) nil (var 1 ⊕ var 0) nil nil (var 1) less
          (number_low K r) refl))))
          (either (K.at_most l o))
