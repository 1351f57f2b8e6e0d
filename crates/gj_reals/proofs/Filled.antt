-- The function that fills a minimal table affinely meets the rules at all numbers.
use Rattle.std.proofs.Common.{◌≡◌, ℕ, ◌+◌, ◌*◌, ◌<◌, ℤ, pos, ◌+ℤ◌, ◌-ℤ◌, ⊎_elim, [], ◌∷◌, refl, sym, subst, subst₂, ap, ap₂, ◌∙◌, arith}
use Rattle.std.proofs.lemmas.Int.{ints}
use Rattle.gj_lemmas.proofs.Quotients.{same_at_remainder}
use Rattle.gj_shape.specs.Table.{IsMinimalTable}
use Rattle.gj_fields.specs.Fields.{OrderedField, HasFloor, AtMost, number, whole}
use Rattle.gj_fields.specs.Functions.{HasRules}
use Rattle.gj_fields.proofs.Ring.{ring}
use Rattle.gj_fields.proofs.Ring.Term.{var, nil, unit, neg, ◌⊕◌, ◌⊗◌}
use Rattle.gj_fields.proofs.Order.{either, le_refl, le_of_eq, le_of_not, zero_le_one, times_le, number_low, by_one, by_two, by_three}
use Rattle.gj_fields.proofs.Wholes.{whole_plus, whole_mono, not_one_le_zero}
use Rattle.gj_fields.proofs.Floors.{floor_is}
use Rattle.gj_fields.proofs.Interval.{IsInside}
use Rattle.gj_reals.specs.RealFunctions.{index_of}
use Rattle.gj_reals.proofs.Places.{IsIndex, index_is, index_plus, index_whole, same_remainder}
use Rattle.gj_reals.proofs.Pieces.{is_not}
use Rattle.gj_reals.proofs.AtReals.{number_some, inverse_low}

module _ {R : Type 0} (K : OrderedField R) (floors : HasFloor K) (t : ℕ → ℤ) (n s : ℕ)
    (n_some : 0 < n) (s_some : 0 < s)
    (period : (i : ℕ) → t (i + n) ≡ t i) where
  open K use {plus, times, zero as o, one as e, negative}

  abbrev N : R
  N = number K n

  abbrev T : ℕ → R
  T i = whole K (t i)

  abbrev Y : R
  Y = K.inverse (number K s)

  -- between two neighbouring entries
  abbrev pub segment : ℕ → R → R
  segment i l = plus (times (plus e (negative l)) (T i)) (times l (T (i + 1)))

  pub filled : R → R
  filled x =
      let y = times N x in
      let z = floors.floor y in
      times (segment (index_of z n) (plus y (negative (whole K z)))) Y

  -- n times x is the whole number z and the rest l, from 0 to 1
  pub record IsPlace (x : R) (z : ℤ) (l : R) : Type 0 where
    pub is : times N x ≡ plus (whole K z) l
    pub inside : IsInside K floors l

  pub some_place : (x : R) → IsPlace x (floors.floor (times N x))
      (plus (times N x) (negative (whole K (floors.floor (times N x)))))
  some_place x =
      let y = times N x in
      let z = whole K (floors.floor y) in
      record {
        is = ring K (y ∷ z ∷ []) (var 0) (var 1 ⊕ (var 0 ⊕ neg (var 1))) refl;
        inside = record {
          low = by_one K (y ∷ z ∷ []) nil (var 0 ⊕ neg (var 1)) (var 1) (var 0) (floors.low y) refl;
          high = by_one K (y ∷ z ∷ []) (var 0 ⊕ neg (var 1)) unit (var 0) (var 1 ⊕ unit)
              (le_of_not K (plus z e) y (Rattle.gj_reals.proofs.Pieces.is_false K (plus z e) y
              (floors.high y))) refl;
        };
      }

  T_same : (z : ℤ) (i j : ℕ) → IsIndex n z i → IsIndex n z j → T i ≡ T j
  T_same z i j h k = ap (whole K) (same_at_remainder t n period i j (same_remainder n z i j h k))

  next_index : (z : ℤ) (i : ℕ) → IsIndex n z i → IsIndex n (z +ℤ pos 1) (i + 1)
  next_index z i h = index_plus n z (pos 1) i 1 h (index_whole n 1)

  same_segment : (z : ℤ) (i j : ℕ) (l : R) → IsIndex n z i → IsIndex n z j →
      segment i l ≡ segment j l
  same_segment z i j l h k =
      ap₂ (λ x y. plus (times (plus e (negative l)) x) (times l y)) (T_same z i j h k)
      (T_same (z +ℤ pos 1) (i + 1) (j + 1) (next_index z i h) (next_index z j k))

  below_one : (x : R) (z : ℤ) (l : R) (i : ℕ) → IsPlace x z l → (AtMost K e l → ⊥) → IsIndex n z i →
      filled x ≡ times (segment i l) Y
  unfolding filled
  below_one x z l i p high index =
      let y = times N x in
      let floor_z : floors.floor y ≡ z =
      floor_is K floors y z
      (by_two K (whole K z ∷ l ∷ y ∷ []) (var 0) (var 2) nil (var 1) (var 0 ⊕ var 1) (var 2)
      p.inside.low (le_of_eq K _ _ (sym p.is)) refl)
      (λ h. high (by_two K (whole K z ∷ l ∷ y ∷ []) unit (var 1) (var 0 ⊕ unit) (var 2) (var 2)
      (var 0 ⊕ var 1) h (le_of_eq K _ _ p.is) refl)) in
      let rest : plus y (negative (whole K z)) ≡ l =
      ap (λ w. plus w (negative (whole K z))) p.is
      ∙ ring K (whole K z ∷ l ∷ []) (var 0 ⊕ var 1 ⊕ neg (var 0)) (var 1) refl in
      ap (λ (w : ℤ). times (segment (index_of w n) (plus y (negative (whole K w)))) Y) floor_z
      ∙ ap (λ r. times (segment (index_of z n) r) Y) rest
      ∙ ap (λ w. times w Y) (same_segment z (index_of z n) i l (index_is z n n_some) index)

  -- the value at a place
  pub filled_is : (x : R) (z : ℤ) (l : R) (i : ℕ) → IsPlace x z l → IsIndex n z i →
      filled x ≡ times (segment i l) Y
  filled_is x z l i p index =
      ⊎_elim
      (λ last.
      let l_one : l ≡ e = K.antisymmetric l e p.inside.high last in
      let next : IsPlace x (z +ℤ pos 1) o = record {
        is =
            p.is ∙ ap (plus (whole K z)) l_one
            ∙ ring K (whole K z ∷ []) (var 0 ⊕ unit) (var 0 ⊕ (nil ⊕ unit) ⊕ nil) refl
            ∙ ap (λ w. plus w o) (sym (whole_plus K z (pos 1)));
        inside = record { low = le_refl K o; high = zero_le_one K };
      } in
      below_one x (z +ℤ pos 1) o (i + 1) next (not_one_le_zero K) (next_index z i index)
      ∙ ap (λ w. times w Y)
      (ring K (T i ∷ T (i + 1) ∷ T (i + 1 + 1) ∷ []) ((unit ⊕ neg nil) ⊗ var 1 ⊕ nil ⊗ var 2)
      ((unit ⊕ neg unit) ⊗ var 0 ⊕ unit ⊗ var 1) refl
      ∙ ap (segment i) (sym l_one)))
      (λ some. below_one x z l i p (is_not K e l some) index)
      (either (K.at_most e l))

  Y_low : AtMost K o Y
  Y_low = inverse_low K (number K s) (number_low K s) (number_some K s s_some)

  pub filled_period : (x : R) → filled (plus x e) ≡ filled x
  filled_period x =
      let z = floors.floor (times N x) in
      let p = some_place x in
      let i = index_of z n in
      let index = index_is z n n_some in
      let index_at = index.is in
      let turn : (index.m + 1) * n ≡ index.m * n + n = omega arith in
      let l = plus (times N x) (negative (whole K z)) in
      let next : IsPlace (plus x e) (z +ℤ pos n) l = record {
        is =
            ring K (N ∷ x ∷ []) (var 0 ⊗ (var 1 ⊕ unit)) (var 0 ⊗ var 1 ⊕ var 0) refl
            ∙ ap (λ w. plus w N) p.is
            ∙ ring K (whole K z ∷ l ∷ N ∷ []) (var 0 ⊕ var 1 ⊕ var 2) (var 0 ⊕ var 2 ⊕ var 1) refl
            ∙ ap (λ w. plus w l) (sym (whole_plus K z (pos n)));
        inside = p.inside;
      } in
      filled_is (plus x e) (z +ℤ pos n) l i next
      (record { n = index.n; m = index.m + 1; is = omega (arith, ints) })
      ∙ sym (filled_is x z l i p index)

  module _ (k : ℕ) (h : IsMinimalTable t n k s) (F : R) (F_is : times N F ≡ number K k) where
    entry_below : (i j c : ℕ) → c ≡ i + j → AtMost K (T c) (plus (T i) (T j))
    entry_below i j c same =
        subst (λ m. AtMost K (T m) (plus (T i) (T j))) (sym same)
        (subst (AtMost K (T (i + j))) (whole_plus K (t i) (t j))
        (whole_mono K (t (i + j)) (t i +ℤ t j) (h.subadditive i j)))

    entry_low : (i : ℕ) → AtMost K o (T i)
    entry_low i = whole_mono K (pos 0) (t i) (h.nonnegative i)

    rest_low : (l : R) → IsInside K floors l → AtMost K o (plus e (negative l))
    rest_low l inside = by_one K (l ∷ []) nil (unit ⊕ neg (var 0)) (var 0) unit inside.high refl

    nonnegative : (x : R) → AtMost K o (filled x)
    nonnegative x =
        let z = floors.floor (times N x) in
        let l = plus (times N x) (negative (whole K z)) in
        let p : IsPlace x z l = some_place x in
        let i = index_of z n in
        subst (AtMost K o) (sym (filled_is x z l i p (index_is z n n_some)))
        (K.times_keeps (segment i l) Y
        (by_two K (l ∷ T i ∷ T (i + 1) ∷ []) nil ((unit ⊕ neg (var 0)) ⊗ var 1 ⊕ var 0 ⊗ var 2) nil
        ((unit ⊕ neg (var 0)) ⊗ var 1) nil (var 0 ⊗ var 2)
        (K.times_keeps (plus e (negative l)) (T i) (rest_low l p.inside) (entry_low i))
        (K.times_keeps l (T (i + 1)) p.inside.low (entry_low (i + 1))) refl)
        Y_low)

    zero_at_zero : filled o ≡ o
    zero_at_zero =
        filled_is o (pos 0) o 0
        (record {
          is = ring K (N ∷ []) (var 0 ⊗ nil) (nil ⊕ nil) refl;
          inside =
              record { low = le_refl K o; high = zero_le_one K };
        }) (index_whole n 0)
        ∙ ap (λ w. times (plus (times (plus e (negative o)) w) (times o (T (0 + 1)))) Y)
        (ap (whole K) h.zero_at_zero)
        ∙ ring K (T (0 + 1) ∷ Y ∷ []) (((unit ⊕ neg nil) ⊗ nil ⊕ nil ⊗ var 0) ⊗ var 1) nil refl

    sum_places : (x y : R) (z w : ℤ) (l m : R) → IsPlace x z l → IsPlace y w m →
        times N (plus x y) ≡ plus (whole K (z +ℤ w)) (plus l m)
    sum_places x y z w l m p r =
        K.times_plus N x y ∙ ap₂ plus p.is r.is
        ∙ ring K (whole K z ∷ l ∷ whole K w ∷ m ∷ []) (var 0 ⊕ var 1 ⊕ (var 2 ⊕ var 3))
        (var 0 ⊕ var 2 ⊕ (var 1 ⊕ var 3)) refl
        ∙ ap (λ r. plus r (plus l m)) (sym (whole_plus K z w))

    subadditive : (x y : R) → AtMost K (filled (plus x y)) (plus (filled x) (filled y))
    subadditive x y =
        let z = floors.floor (times N x) in
        let w = floors.floor (times N y) in
        let l = plus (times N x) (negative (whole K z)) in
        let m = plus (times N y) (negative (whole K w)) in
        let p : IsPlace x z l = some_place x in
        let p' : IsPlace y w m = some_place y in
        let i = index_of z n in
        let j = index_of w n in
        let index = index_is z n n_some in
        let index' = index_is w n n_some in
        let sum = sum_places x y z w l m p p' in
        let index'' = index_plus n z w i j index index' in
        let c = i + j + 1 in
        let first : i + j + 1 ≡ i + 1 + j = omega arith in
        let second : i + j + 1 ≡ i + (j + 1) = omega arith in
        let third : i + j + 1 + 1 ≡ i + 1 + (j + 1) = omega arith in
        let values = ring K (segment i l ∷ segment j m ∷ Y ∷ []) ((var 0 ⊕ var 1) ⊗ var 2)
        (var 0 ⊗ var 2 ⊕ var 1 ⊗ var 2) refl
        ∙ ap₂ plus (sym (filled_is x z l i p index)) (sym (filled_is y w m j p' index')) in
        let env = l ∷ m ∷ T (i + j) ∷ T c ∷ T i ∷ T (i + 1) ∷ T j ∷ T (j + 1) ∷ T (c + 1) ∷ [] in
        ⊎_elim
        (λ fits.
        let p'' : IsPlace (plus x y) (z +ℤ w) (plus l m) = record {
          is = sum;
          inside =
              record {
                low = by_two K (l ∷ m ∷ []) nil (var 0 ⊕ var 1) nil (var 0) nil (var 1)
                    p.inside.low p'.inside.low refl;
                high = fits;
              };
        } in
        subst₂ (AtMost K) (sym (filled_is (plus x y) (z +ℤ w) (plus l m) (i + j) p'' index''))
        values
        (times_le K (segment (i + j) (plus l m)) (plus (segment i l) (segment j m)) Y Y_low
        (by_three K env
        ((unit ⊕ neg (var 0 ⊕ var 1)) ⊗ var 2 ⊕ (var 0 ⊕ var 1) ⊗ var 3)
        ((unit ⊕ neg (var 0)) ⊗ var 4 ⊕ var 0 ⊗ var 5
        ⊕ ((unit ⊕ neg (var 1)) ⊗ var 6 ⊕ var 1 ⊗ var 7))
        (var 2 ⊗ (unit ⊕ neg (var 0 ⊕ var 1))) ((var 4 ⊕ var 6) ⊗ (unit ⊕ neg (var 0 ⊕ var 1)))
        (var 3 ⊗ var 0) ((var 5 ⊕ var 6) ⊗ var 0) (var 3 ⊗ var 1) ((var 4 ⊕ var 7) ⊗ var 1)
        (times_le K _ _ (plus e (negative (plus l m))) (rest_low (plus l m) p''.inside)
        (entry_below i j (i + j) refl))
        (times_le K _ _ l p.inside.low (entry_below (i + 1) j c first))
        (times_le K _ _ m p'.inside.low (entry_below i (j + 1) c second)) refl)))
        (λ other.
        let carry = le_of_not K (plus l m) e other in
        let r = plus (plus l m) (negative e) in
        let p'' : IsPlace (plus x y) (z +ℤ w +ℤ pos 1) r = record {
          is =
              sum ∙ ring K (whole K (z +ℤ w) ∷ l ∷ m ∷ []) (var 0 ⊕ (var 1 ⊕ var 2))
              (var 0 ⊕ (nil ⊕ unit) ⊕ (var 1 ⊕ var 2 ⊕ neg unit)) refl
              ∙ ap (λ s. plus s r) (sym (whole_plus K (z +ℤ w) (pos 1)));
          inside = record {
            low = by_one K (l ∷ m ∷ []) nil (var 0 ⊕ var 1 ⊕ neg unit) unit (var 0 ⊕ var 1) carry
                refl;
            high = by_two K (l ∷ m ∷ []) (var 0 ⊕ var 1 ⊕ neg unit) unit (var 0) unit (var 1) unit
                p.inside.high p'.inside.high refl;
          };
        } in
        subst₂ (AtMost K)
        (sym (filled_is (plus x y) (z +ℤ w +ℤ pos 1) r c p'' (next_index (z +ℤ w) (i + j) index'')))
        values
        (times_le K (segment c r) (plus (segment i l) (segment j m)) Y Y_low
        (by_three K env
        ((unit ⊕ neg (var 0 ⊕ var 1 ⊕ neg unit)) ⊗ var 3 ⊕ (var 0 ⊕ var 1 ⊕ neg unit) ⊗ var 8)
        ((unit ⊕ neg (var 0)) ⊗ var 4 ⊕ var 0 ⊗ var 5
        ⊕ ((unit ⊕ neg (var 1)) ⊗ var 6 ⊕ var 1 ⊗ var 7))
        (var 3 ⊗ (unit ⊕ neg (var 1))) ((var 5 ⊕ var 6) ⊗ (unit ⊕ neg (var 1)))
        (var 3 ⊗ (unit ⊕ neg (var 0))) ((var 4 ⊕ var 7) ⊗ (unit ⊕ neg (var 0)))
        (var 8 ⊗ (var 0 ⊕ var 1 ⊕ neg unit)) ((var 5 ⊕ var 7) ⊗ (var 0 ⊕ var 1 ⊕ neg unit))
        (times_le K _ _ (plus e (negative m)) (rest_low m p'.inside)
        (entry_below (i + 1) j c first))
        (times_le K _ _ (plus e (negative l)) (rest_low l p.inside)
        (entry_below i (j + 1) c second))
        (times_le K _ _ r p''.inside.low (entry_below (i + 1) (j + 1) (c + 1) third)) refl)))
        (either (K.at_most (plus l m) e))

    opposite : (z w : ℤ) (i j : ℕ) → z +ℤ w ≡ pos k → IsIndex n z i → IsIndex n w j →
        plus (T i) (T j) ≡ number K s
    opposite z w i j sum a b =
        let both = subst (λ y. IsIndex n y (i + j)) sum (index_plus n z w i j a b) in
        sym (whole_plus K (t i) (t j)) ∙ ap (whole K)
        (h.symmetric i j (same_remainder n (pos k) (i + j) k both (index_whole n k)))

    symmetric : (x : R) → plus (filled x) (filled (plus F (negative x))) ≡ e
    symmetric x =
        let z = floors.floor (times N x) in
        let l = plus (times N x) (negative (whole K z)) in
        let p : IsPlace x z l = some_place x in
        let i = index_of z n in
        let index = index_is z n n_some in
        let y = plus F (negative x) in
        let w : ℤ = pos k -ℤ z -ℤ pos 1 in
        let j = index_of w n in
        let index' = index_is w n n_some in
        let m = plus e (negative l) in
        let wholes : z +ℤ w +ℤ pos 1 ≡ pos k = omega (arith, ints) in
        let first : z +ℤ (w +ℤ pos 1) ≡ pos k = omega (arith, ints) in
        let second : z +ℤ pos 1 +ℤ w ≡ pos k = omega (arith, ints) in
        let p' : IsPlace y w m = record {
          is =
              ring K (N ∷ F ∷ x ∷ []) (var 0 ⊗ (var 1 ⊕ neg (var 2)))
              (var 0 ⊗ var 1 ⊕ neg (var 0 ⊗ var 2)) refl
              ∙ ap₂ (λ u v. plus u (negative v))
              (F_is ∙ sym (ap (whole K) wholes) ∙ whole_plus K (z +ℤ w) (pos 1)
              ∙ ap (λ u. plus u (number K 1)) (whole_plus K z w)) p.is
              ∙ ring K (whole K z ∷ whole K w ∷ l ∷ [])
              (var 0 ⊕ var 1 ⊕ (nil ⊕ unit) ⊕ neg (var 0 ⊕ var 2)) (var 1 ⊕ (unit ⊕ neg (var 2)))
              refl;
          inside = record {
            low = rest_low l p.inside;
            high = by_one K (l ∷ []) (unit ⊕ neg (var 0)) unit nil (var 0) p.inside.low refl;
          };
        } in
        ap₂ plus (filled_is x z l i p index) (filled_is y w m j p' index')
        ∙ ring K (l ∷ T i ∷ T (i + 1) ∷ T j ∷ T (j + 1) ∷ Y ∷ [])
        (((unit ⊕ neg (var 0)) ⊗ var 1 ⊕ var 0 ⊗ var 2) ⊗ var 5
        ⊕ ((unit ⊕ neg (unit ⊕ neg (var 0))) ⊗ var 3 ⊕ (unit ⊕ neg (var 0)) ⊗ var 4) ⊗ var 5)
        (((unit ⊕ neg (var 0)) ⊗ (var 1 ⊕ var 4) ⊕ var 0 ⊗ (var 2 ⊕ var 3)) ⊗ var 5) refl
        ∙ ap₂ (λ u v. times (plus (times (plus e (negative l)) u) (times l v)) Y)
        (opposite z (w +ℤ pos 1) i (j + 1) first index (next_index w j index'))
        (opposite (z +ℤ pos 1) w (i + 1) j second (next_index z i index) index')
        ∙ ring K (l ∷ number K s ∷ Y ∷ []) (((unit ⊕ neg (var 0)) ⊗ var 1 ⊕ var 0 ⊗ var 1) ⊗ var 2)
        (var 1 ⊗ var 2) refl
        ∙ K.times_inverse (number K s) (number_some K s s_some)

    pub filled_rules : HasRules K filled F
    filled_rules = record {
      function = record { nonnegative = nonnegative; has_period = filled_period };
      zero_at_zero = zero_at_zero;
      subadditive = subadditive;
      symmetric = symmetric;
    }
