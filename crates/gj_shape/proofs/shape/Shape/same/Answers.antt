use Rattle.std.proofs.Common.{◌≡◌, refl, subst₂, sym, ◌∙◌}
use Rattle.std.specs.Bool.{Decides}
use Rattle.std.specs.Cmp.Rules.{signed_items}
use Rattle.gj_shape.proofs.SameFunctions.{number_Decides, and_then, and_else, same_Decides}
use Rattle.gj_shape.proofs.shape.Shape.same.Goals as goal
use Rattle.gj_shape.proofs.shape.Shape.same.Goals.{then-self-other, else-self-other, then-self-other-2, else-self-other-2, then-self-other-3, else-self-other-3, then-eq, else-eq}

pub returns-then-eq-2 : goal.returns-then-eq-2
returns-then-eq-2 c =
    let f = c.self.inside in
    let g = c.other.inside in
    let order = number_Decides f.order g.order in
    let place = number_Decides f.place g.place in
    let scale = number_Decides f.scale g.scale in
    let left = signed_items f.left.items g.left.items in
    let value = signed_items f.value.items g.value.items in
    let right = signed_items f.right.items g.right.items in
    let two : Decides c.if-self-other.value ((f.order ≡ g.order) × (f.place ≡ g.place)) =
    elim c.if-self-other.branch [
      | then-self-other w ↦ and_then _ _ _ _ _ order place (order.1 w.if-self-other.true) w.value-is
      | else-self-other w ↦ (
        λ e. absurd (w.if-self-other.false (order.0 (sym w.value-is ∙ e))),
        λ h. w.value-is
            ∙ order.1 h.0,
      )
    ] in
    let three : Decides c.if-self-other-2.value (((f.order ≡ g.order) × (f.place ≡ g.place))
    × (f.scale ≡ g.scale)) =
    elim c.if-self-other-2.branch [
      | then-self-other-2 w ↦ and_then _ _ _ _ _ two scale w.if-self-other-2.true w.value-is
      | else-self-other-2 w ↦ and_else _ _ _ _ two w.if-self-other-2.false w.value-is
    ] in
    let four : Decides c.if-self-other-3.value
    ((((f.order ≡ g.order) × (f.place ≡ g.place)) × (f.scale ≡ g.scale))
    × (f.left.items ≡ g.left.items)) =
    elim c.if-self-other-3.branch [
      | then-self-other-3 w ↦ and_then _ _ _ _ _ three left w.if-self-other-3.true
          (w.value-is ∙ w.eq.ensures)
      | else-self-other-3 w ↦ and_else _ _ _ _ three w.if-self-other-3.false w.value-is
    ] in
    let five : Decides c.if-eq.value
    (((((f.order ≡ g.order) × (f.place ≡ g.place)) × (f.scale ≡ g.scale)) ×
    (f.left.items ≡ g.left.items)) × (f.value.items ≡ g.value.items)) =
    elim c.if-eq.branch [
      | then-eq w ↦ and_then _ _ _ _ _ four value w.if-eq.true (w.value-is ∙ w.eq-then-eq.ensures)
      | else-eq w ↦ and_else _ _ _ _ four w.if-eq.false w.value-is
    ] in
    subst₂ (λ p q. Decides c.eq-then-eq-2.result (p ≡ q)) c.self.view_is c.other.view_is
    (same_Decides c.eq-then-eq-2.result _ _
    (and_then _ _ _ _ _ five right c.if-eq-2.true c.eq-then-eq-2.ensures))

pub returns-else-eq-2 : goal.returns-else-eq-2
returns-else-eq-2 c =
    let f = c.self.inside in
    let g = c.other.inside in
    let order = number_Decides f.order g.order in
    let place = number_Decides f.place g.place in
    let scale = number_Decides f.scale g.scale in
    let left = signed_items f.left.items g.left.items in
    let value = signed_items f.value.items g.value.items in
    let two : Decides c.if-self-other.value ((f.order ≡ g.order) × (f.place ≡ g.place)) =
    elim c.if-self-other.branch [
      | then-self-other w ↦ and_then _ _ _ _ _ order place (order.1 w.if-self-other.true) w.value-is
      | else-self-other w ↦ (
        λ e. absurd (w.if-self-other.false (order.0 (sym w.value-is ∙ e))),
        λ h. w.value-is
            ∙ order.1 h.0,
      )
    ] in
    let three : Decides c.if-self-other-2.value (((f.order ≡ g.order) × (f.place ≡ g.place))
    × (f.scale ≡ g.scale)) =
    elim c.if-self-other-2.branch [
      | then-self-other-2 w ↦ and_then _ _ _ _ _ two scale w.if-self-other-2.true w.value-is
      | else-self-other-2 w ↦ and_else _ _ _ _ two w.if-self-other-2.false w.value-is
    ] in
    let four : Decides c.if-self-other-3.value
    ((((f.order ≡ g.order) × (f.place ≡ g.place)) × (f.scale ≡ g.scale))
    × (f.left.items ≡ g.left.items)) =
    elim c.if-self-other-3.branch [
      | then-self-other-3 w ↦ and_then _ _ _ _ _ three left w.if-self-other-3.true
          (w.value-is ∙ w.eq.ensures)
      | else-self-other-3 w ↦ and_else _ _ _ _ three w.if-self-other-3.false w.value-is
    ] in
    let five : Decides c.if-eq.value
    (((((f.order ≡ g.order) × (f.place ≡ g.place)) × (f.scale ≡ g.scale)) ×
    (f.left.items ≡ g.left.items)) × (f.value.items ≡ g.value.items)) =
    elim c.if-eq.branch [
      | then-eq w ↦ and_then _ _ _ _ _ four value w.if-eq.true (w.value-is ∙ w.eq-then-eq.ensures)
      | else-eq w ↦ and_else _ _ _ _ four w.if-eq.false w.value-is
    ] in
    subst₂ (λ p q. Decides c.if-eq.value (p ≡ q)) c.self.view_is c.other.view_is
    (same_Decides c.if-eq.value _ _ (and_else _ _ _ _ five c.if-eq-2.false refl))
