-- The lines of a function are an exact part of a text, in either spelling.
use Rattle.std.proofs.Common.{◌≡◌, ◌⊎◌, inl, inr, ℕ, zero, suc, pos, List, [], ◌∷◌, ◌++◌, sym, ◌∙◌}
use Rattle.gj_frac.specs.Fraction.{IsRatio}
use Rattle.gj_frac.proofs.SameValues.{one_place}
use Rattle.gj_lex.specs.declared.spelling.Spelling.{Spelling}
use Rattle.gj_lex.specs.declared.reason.Reason.{Reason}
use Rattle.gj_lex.specs.declared.reason.Reason.TheVariants as reason
use Rattle.gj_forms.specs.Parts.{line_part, IsExactRule, IsExactPart}
use Rattle.gj_forms.proofs.PartLaws.{line_part_is_exact, empty_part_is_exact, then_part_is_exact, made_part_is_exact}
use Rattle.gj_forms.specs.SpelledForms.{rule_in, barred_rule}
use Rattle.gj_forms.proofs.SpelledLaws.{rule_in_is_exact, made_rule_is_exact}
use Rattle.gj_forms.proofs.SpelledLines.{turned_rule_is_exact, barred_rule_is_exact}
use Rattle.gj_shape.specs.FunctionData.{FunctionData}
use Rattle.gj_shape.specs.Given.{IsOrder, IsPlace, AreWithinBounds}
use Rattle.gj_shape.specs.Points.{lefts, values, rights, all_fractions, IsPointFault}
use Rattle.gj_shape.specs.declared.points.Point.{Point}
use Rattle.gj_shape.specs.declared.points.PointFault.TheVariants.{Large, Fine}
use Rattle.gj_shape.proofs.GivenPoints.{no_fault_follows, not_large_and_fine}
use Rattle.gj_shape.proofs.OneFunction.{same_from_given}
use Rattle.gj_function_lines.specs.FunctionLines.{order_form, place_form, point_form}
use Rattle.gj_function_lines.specs.FunctionGrammar.{order_rule, place_rule, point_of, AreThreeSame, spelled_point_rule, point_rule, points_part, function_part}
use Rattle.gj_function_lines.specs.PlaceFraction.{IsPlaceFraction}
use Rattle.gj_function_lines.proofs.ClearLines.{order_is_clear, place_is_clear, point_is_clear}
use Rattle.gj_function_lines.proofs.FunctionRead.{Gives, behind_place, behind_order}

-- ---- the rules

pub order_rule_is_exact : (s : Spelling) → IsExactRule (order_rule s).Spells (order_rule s).Breaks
order_rule_is_exact s =
    made_rule_is_exact (λ n q. (q ≡ n) × IsOrder n) (λ n e. (e ≡ reason.Order) × (IsOrder n → ⊥))
    (rule_in s order_form)
    (rule_in_is_exact s order_form order_is_clear) (λ n q r h k. h.0 ∙ sym k.0)
    (λ n e d h k. h.0 ∙ sym k.0) (λ n q e h k. k.1 h.1)

pub place_rule_is_exact : (s : Spelling) (q : ℕ) →
    IsExactRule (place_rule s q).Spells (place_rule s q).Breaks
place_rule_is_exact s q =
    made_rule_is_exact (λ x k. IsPlace q k × IsRatio x (pos k) (pos q))
    (λ x e. (e ≡ reason.Place) × (IsPlaceFraction q x → ⊥))
    (rule_in s place_form) (rule_in_is_exact s place_form place_is_clear)
    (λ x k m h n. one_place x q k m h.1 n.1)
    (λ x e d h k. h.0 ∙ sym k.0) (λ x k e h n. n.1 (k, h.0, h.1))

pub spelled_point_is_exact : (s : Spelling) →
    IsExactRule (spelled_point_rule s).Spells (spelled_point_rule s).Breaks
spelled_point_is_exact s =
    turned_rule_is_exact point_of (barred_rule (AreThreeSame s) (rule_in s point_form))
    (barred_rule_is_exact (AreThreeSame s) (rule_in s point_form)
    (rule_in_is_exact s point_form point_is_clear))

pub point_rule_is_exact : (s : Spelling) (points : List Point) →
    IsExactRule (point_rule s points).Spells (point_rule s points).Breaks
point_rule_is_exact s points =
    made_rule_is_exact (λ p q. (q ≡ p) × AreWithinBounds (all_fractions (points ++ p ∷ []))) Refused
    (spelled_point_rule s)
    (spelled_point_is_exact s) (λ p q r h k. h.0 ∙ sym k.0) one_reason not_both
  where
    Refused : Point → Reason → Type 0
    Refused p e = ((e ≡ reason.Large) × IsPointFault points p Large)
        ⊎ ((e ≡ reason.Fine) × IsPointFault points p Fine)

    one_reason : (p : Point) (e d : Reason) → Refused p e → Refused p d → e ≡ d
    one_reason p e d (inl h) (inl k) = h.0 ∙ sym k.0
    one_reason p e d (inl h) (inr k) = absurd (not_large_and_fine points p h.1 k.1)
    one_reason p e d (inr h) (inl k) = absurd (not_large_and_fine points p k.1 h.1)
    one_reason p e d (inr h) (inr k) = h.0 ∙ sym k.0

    not_both : (p q : Point) (e : Reason) →
        (q ≡ p) × AreWithinBounds (all_fractions (points ++ p ∷ [])) → Refused p e → ⊥
    not_both p q e h (inl k) = no_fault_follows points p [] Large h.1 k.1
    not_both p q e h (inr k) = no_fault_follows points p [] Fine h.1 k.1

-- ---- the parts

pub points_part_is_exact : (s : Spelling) (n : ℕ) (points : List Point) →
    IsExactPart (points_part s n points).Reads (points_part s n points).Faults
points_part_is_exact s zero points = empty_part_is_exact points
points_part_is_exact s (suc n) points =
    then_part_is_exact (line_part s (point_rule s points)) (λ p. points_part s n (points ++ p ∷ []))
    (line_part_is_exact s (point_rule s points) (point_rule_is_exact s points))
    (λ p. points_part_is_exact s n (points ++ p ∷ []))

-- points give one function
one_given : (q k : ℕ) (points : List Point) (f g : FunctionData) → Gives q k points f →
    Gives q k points g → f ≡ g
one_given q k points f g = same_from_given q k (lefts points) (values points) (rights points) f g

pub function_part_is_exact : (s : Spelling) →
    IsExactPart (function_part s).Reads (function_part s).Faults
function_part_is_exact s =
    then_part_is_exact (line_part s (order_rule s)) (behind_order s)
    (line_part_is_exact s (order_rule s) (order_rule_is_exact s))
    (λ q. then_part_is_exact (line_part s (place_rule s q)) (behind_place s q)
    (line_part_is_exact s (place_rule s q) (place_rule_is_exact s q))
    (λ k. made_part_is_exact (Gives q k) (one_given q k) (points_part s q [])
    (points_part_is_exact s q [])))
