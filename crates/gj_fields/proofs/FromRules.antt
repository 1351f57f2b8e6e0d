-- A function that meets the rules is minimal among the valid functions.
use Rattle.std.proofs.Common.{◌≡◌, List, [], ◌∷◌, map, refl, sym, subst, ap, ap₂, ◌∙◌}
use Rattle.gj_fields.specs.Fields.{OrderedField, AtMost}
use Rattle.gj_fields.specs.Functions.{total_of, IsValid, IsMinimalAmong, HasRules}
use Rattle.gj_fields.proofs.Ring.{ring}
use Rattle.gj_fields.proofs.Ring.Term.{var, nil, unit, neg, ◌⊕◌}
use Rattle.gj_fields.proofs.Order.{add_le, le_refl, le_of_eq, by_three}
use Rattle.gj_fields.proofs.Points.{same_point, at_same_point}

module _ {R : Type 0} (K : OrderedField R) (v : R → R) (f : R) (h : HasRules K v f) where
  open K use {plus, times, zero as o, one as e, negative}

  below_total : (xs : List R) → AtMost K (v (total_of K xs)) (total_of K (map v xs))
  below_total [] = le_of_eq K (v o) o h.zero_at_zero
  below_total (x ∷ xs) =
      K.transitive _ _ _ (h.subadditive x (total_of K xs))
      (add_le K (v x) (v x) (v (total_of K xs)) (total_of K (map v xs)) (le_refl K (v x))
      (below_total xs))

  one_at_f : v f ≡ e
  one_at_f =
      ring K (v f ∷ []) (var 0) (nil ⊕ var 0) refl
      ∙ ap₂ plus (sym h.zero_at_zero) (ap v (ring K (f ∷ []) (var 0) (var 0 ⊕ neg nil) refl))
      ∙ h.symmetric o

  rules_valid : IsValid K v f
  rules_valid = record {
    function = h.function;
    at_solutions = λ points solution.
        subst (λ z. AtMost K z (total_of K (map v points)))
        (at_same_point K v h.function (total_of K points) f solution ∙ one_at_f)
        (below_total points);
  }

  pub rules_minimal : IsMinimalAmong K v f
  rules_minimal = record {
    valid = rules_valid;
    none_below = λ u valid below x.
        let y = plus f (negative x) in
        K.antisymmetric (u x) (v x) (below x)
        (by_three K (u x ∷ v x ∷ u y ∷ v y ∷ []) (var 1) (var 0)
        unit (var 0 ⊕ (var 2 ⊕ nil)) (var 2) (var 3) (var 1 ⊕ var 3) unit
        (valid.at_solutions (x ∷ y ∷ [])
        (same_point K (total_of K (x ∷ y ∷ [])) f
        (ring K (x ∷ f ∷ []) (var 0 ⊕ (var 1 ⊕ neg (var 0) ⊕ nil)) (var 1) refl)))
        (below y) (le_of_eq K (plus (v x) (v y)) e (h.symmetric x)) refl);
  }
