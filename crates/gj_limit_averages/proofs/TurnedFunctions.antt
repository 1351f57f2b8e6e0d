-- A function of x, valid or extreme, taken at x or at -x.
use Rattle.std.proofs.Common.{◌≡◌, ◌↔◌, List, [], ◌∷◌, map, refl, sym, subst, ap, ap₂, ◌∙◌}
use Rattle.gj_fields.specs.Fields.{OrderedField, AtMost, number}
use Rattle.gj_fields.specs.Functions.{IsSamePoint, total_of, IsValid, IsExtremeAmong}
use Rattle.gj_fields.proofs.Ring.{ring}
use Rattle.gj_fields.proofs.Ring.Term.{var, nil, unit, neg, ◌⊕◌}
use Rattle.gj_fields.proofs.Points.{point_sym, point_trans, at_same_point}

module _ {R : Type 0} (K : OrderedField R) where
  open K use {plus, zero as o, one as e, negative}

  -- a map of the numbers that is its own inverse, and keeps sums and points modulo 1
  pub record IsTurn (turn : R → R) : Type 0 where
    pub back : (x : R) → turn (turn x) ≡ x
    pub at_zero : turn o ≡ o
    pub sums : (x y : R) → turn (plus x y) ≡ plus (turn x) (turn y)
    pub points : (x y : R) → IsSamePoint K x y → IsSamePoint K (turn x) (turn y)

  pub staying : IsTurn (λ x. x)
  staying = record {
    back = λ x. refl;
    at_zero = refl;
    sums = λ x y. refl;
    points = λ x y h. h;
  }

  negative_points : (x y : R) → IsSamePoint K x y → IsSamePoint K (negative x) (negative y)
  negative_points x y (n, m, h) = (
    m,
    n,
    ring K (x ∷ y ∷ number K m ∷ []) (neg (var 0) ⊕ var 2)
        ((var 1 ⊕ var 2) ⊕ (neg (var 0) ⊕ neg (var 1))) refl
        ∙ ap (λ t. plus t (plus (negative x) (negative y))) (sym h)
        ∙ ring K (x ∷ y ∷ number K n ∷ [])
        ((var 0 ⊕ var 2) ⊕ (neg (var 0) ⊕ neg (var 1))) (neg (var 1) ⊕ var 2) refl,
  )

  pub mirroring : IsTurn negative
  mirroring = record {
    back = λ x. ring K (x ∷ []) (neg (neg (var 0))) (var 0) refl;
    at_zero = ring K [] (neg nil) nil refl;
    sums = λ x y. ring K (x ∷ y ∷ []) (neg (var 0 ⊕ var 1)) (neg (var 0) ⊕ neg (var 1)) refl;
    points = negative_points;
  }

  next_point : (x : R) → IsSamePoint K (plus x e) x
  next_point x = (0, 1, ring K (x ∷ []) ((var 0 ⊕ unit) ⊕ nil) (var 0 ⊕ (nil ⊕ unit)) refl)

  module _ (turn : R → R) (is : IsTurn turn) where
    total_turned : (xs : List R) → total_of K (map turn xs) ≡ turn (total_of K xs)
    total_turned [] = sym is.at_zero
    total_turned (x ∷ xs) =
        ap (plus (turn x)) (total_turned xs) ∙ sym (is.sums x (total_of K xs))

    place_back : (p q : R) → IsSamePoint K (turn q) p → IsSamePoint K (turn p) q
    place_back p q place =
        point_sym K q (turn p)
        (subst (λ t. IsSamePoint K t (turn p)) (is.back q) (is.points (turn q) p place))

    module _ (v u : R → R) (same : (x : R) → u x ≡ v (turn x)) where
      values_turned : (xs : List R) →
          total_of K (map u xs) ≡ total_of K (map v (map turn xs))
      values_turned [] = refl
      values_turned (x ∷ xs) = ap₂ plus (same x) (values_turned xs)

      valid_turned : (p q : R) → IsSamePoint K (turn q) p → IsValid K v p → IsValid K u q
      valid_turned p q place h = record {
        function = record {
          nonnegative = λ x. subst (AtMost K o) (sym (same x)) (h.function.nonnegative (turn x));
          has_period = λ x.
              same (plus x e)
              ∙ at_same_point K v h.function (turn (plus x e)) (turn x)
              (is.points (plus x e) x (next_point x))
              ∙ sym (same x);
        };
        at_solutions = λ xs there.
            subst (AtMost K e) (sym (values_turned xs))
            (h.at_solutions (map turn xs)
            (subst (λ t. IsSamePoint K t p) (sym (total_turned xs))
            (point_trans K (turn (total_of K xs)) (turn q) p (is.points (total_of K xs) q there)
            place)));
      }

    extreme_turned : (v u : R → R) (p q : R) → ((x : R) → u x ≡ v (turn x)) →
        IsSamePoint K (turn q) p → IsExtremeAmong K v p → IsExtremeAmong K u q
    extreme_turned v u p q same place h = record {
      valid = valid_turned v u same p q place h.valid;
      no_average = λ a b a_valid b_valid sum x.
          let other = place_back p q place in
          ap a (sym (is.back x))
          ∙ h.no_average (λ y. a (turn y)) (λ y. b (turn y))
          (valid_turned a (λ y. a (turn y)) (λ y. refl) q p other a_valid)
          (valid_turned b (λ y. b (turn y)) (λ y. refl) q p other b_valid)
          (λ y. let value = same (turn y) ∙ ap v (is.back y) in sum (turn y) ∙ ap₂ plus value value)
          (turn x)
          ∙ ap b (is.back x);
    }

    -- of two functions, each the other at the turned numbers, both are extreme or neither is
    pub extreme_alike : (v u : R → R) (p q : R) → ((x : R) → u x ≡ v (turn x)) →
        IsSamePoint K (turn q) p → (IsExtremeAmong K v p ↔ IsExtremeAmong K u q)
    extreme_alike v u p q same place = (
      extreme_turned v u p q same place,
      extreme_turned u v q p (λ x. ap v (sym (is.back x)) ∙ sym (same (turn x)))
          (place_back p q place),
    )
