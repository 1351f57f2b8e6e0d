-- Points modulo 1, and functions at them.
use Rattle.std.proofs.Common.{◌≡◌, ℕ, zero, suc, ◌+◌, List, [], ◌∷◌, ◌++◌, map, refl, sym, subst, ap, ap₂, ◌∙◌}
use Rattle.gj_fields.specs.Fields.{OrderedField, AtMost, number}
use Rattle.gj_fields.specs.Functions.{IsSamePoint, total_of, IsFunction}
use Rattle.gj_fields.proofs.Ring.{ring, cancel}
use Rattle.gj_fields.proofs.Ring.Term.{var, ◌⊕◌}
use Rattle.gj_fields.proofs.Order.{add_le, le_refl, number_plus}

module _ {R : Type 0} (K : OrderedField R) where
  open K use {plus, times, zero as o, one as e, negative}

  pub same_point : (x y : R) → x ≡ y → IsSamePoint K x y
  same_point x y h = (0, 0, ap (λ z. plus z o) h)

  pub point_sym : (x y : R) → IsSamePoint K x y → IsSamePoint K y x
  point_sym x y (n, m, h) = (m, n, sym h)

  pub point_plus : (x y z w : R) → IsSamePoint K x y → IsSamePoint K z w →
      IsSamePoint K (plus x z) (plus y w)
  point_plus x y z w (n, m, h) (i, j, k) = (
    n + i,
    m + j,
    ap (plus (plus x z)) (number_plus K n i)
        ∙ ring K (x ∷ z ∷ number K n ∷ number K i ∷ []) (var 0 ⊕ var 1 ⊕ (var 2 ⊕ var 3))
        (var 0 ⊕ var 2 ⊕ (var 1 ⊕ var 3)) refl
        ∙ ap₂ plus h k
        ∙ ring K (y ∷ w ∷ number K m ∷ number K j ∷ []) (var 0 ⊕ var 2 ⊕ (var 1 ⊕ var 3))
        (var 0 ⊕ var 1 ⊕ (var 2 ⊕ var 3)) refl
        ∙ ap (plus (plus y w)) (sym (number_plus K m j)),
  )

  pub point_trans : (x y z : R) → IsSamePoint K x y → IsSamePoint K y z → IsSamePoint K x z
  point_trans x y z first second =
      let (n, m, h) = point_plus x y y z first second in (
        n,
        m,
        cancel K (plus x (number K n)) (plus z (number K m)) y
            (ring K (x ∷ y ∷ number K n ∷ []) (var 0 ⊕ var 2 ⊕ var 1) (var 0 ⊕ var 1 ⊕ var 2) refl
            ∙ h
            ∙ ring K (z ∷ y ∷ number K m ∷ []) (var 1 ⊕ var 0 ⊕ var 2) (var 0 ⊕ var 2 ⊕ var 1)
            refl),
      )

  module _ (v : R → R) (function : IsFunction K v) where
    at_wholes : (x : R) (n : ℕ) → v (plus x (number K n)) ≡ v x
    at_wholes x zero = ap v (K.plus_zero x)
    at_wholes x (suc n) =
        ap v (sym (K.plus_associates x (number K n) e)) ∙ function.has_period (plus x (number K n))
        ∙ at_wholes x n

    pub at_same_point : (x y : R) → IsSamePoint K x y → v x ≡ v y
    at_same_point x y (n, m, h) = sym (at_wholes x n) ∙ ap v h ∙ at_wholes y m

    pub total_low : (xs : List R) → AtMost K o (total_of K (map v xs))
    total_low [] = le_refl K o
    total_low (x ∷ xs) =
        subst (λ z. AtMost K z (plus (v x) (total_of K (map v xs)))) (K.plus_zero o)
        (add_le K o (v x) o (total_of K (map v xs)) (function.nonnegative x) (total_low xs))

  pub total-append : (xs ys : List R) → total_of K (xs ++ ys) ≡ plus (total_of K xs) (total_of K ys)
  total-append [] ys = sym (K.plus_commutes o (total_of K ys) ∙ K.plus_zero (total_of K ys))
  total-append (x ∷ xs) ys =
      ap (plus x) (total-append xs ys) ∙ sym (K.plus_associates x (total_of K xs) (total_of K ys))

  pub values-append : (v : R → R) (xs ys : List R) →
      total_of K (map v (xs ++ ys)) ≡ plus (total_of K (map v xs)) (total_of K (map v ys))
  values-append v [] ys =
      sym (K.plus_commutes o (total_of K (map v ys)) ∙ K.plus_zero (total_of K (map v ys)))
  values-append v (x ∷ xs) ys =
      ap (plus (v x)) (values-append v xs ys)
      ∙ sym (K.plus_associates (v x) (total_of K (map v xs)) (total_of K (map v ys)))
