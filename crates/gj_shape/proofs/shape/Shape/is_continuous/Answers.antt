use Rattle.std.proofs.Common.{IsTrue, sym, subst, ◌∙◌}
use Rattle.std.specs.Cmp.Rules.{signed_items}
use Rattle.gj_shape.specs.FunctionData.{FunctionData, IsContinuous}
use Rattle.gj_shape.proofs.SameFunctions.{true_false}
use Rattle.gj_shape.proofs.shape.Shape.is_continuous.Goals as goal

pub returns-then-eq : goal.returns-then-eq
returns-then-eq c =
    let left = signed_items c.self.inside.left.items c.self.inside.value.items in
    let right = signed_items c.self.inside.right.items c.self.inside.value.items in
    subst (λ (f : FunctionData). (IsTrue c.eq-then-eq.result → IsContinuous f)
    × (IsContinuous f → IsTrue c.eq-then-eq.result)) c.self.view_is (
      λ t. (left.0 (sym c.if-eq.ensures), right.0 (sym c.eq-then-eq.ensures ∙ t)),
      λ h. c.eq-then-eq.ensures ∙ right.1 h.1,
    )

pub returns-else-eq : goal.returns-else-eq
returns-else-eq c =
    let left = signed_items c.self.inside.left.items c.self.inside.value.items in
    subst (λ (f : FunctionData). (IsTrue c.eq.result → IsContinuous f)
    × (IsContinuous f → IsTrue c.eq.result)) c.self.view_is
    (λ t. absurd (true_false (sym t ∙ c.if-eq.false)), λ h. c.eq.ensures ∙ left.1 h.0)
