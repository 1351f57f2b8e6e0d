use Rattle.std.proofs.Common.{◌<◌, length, inl, inr, ap, subst, ⊎_elim, sym, ◌∙◌, arith, pos, of_z, w64}
use Rattle.gj_shape.specs.FunctionData.{FunctionData, IsJump, IsContinuous}
use Rattle.std.proofs.lemmas.List.{ext_get_or}
use Rattle.gj_shape.proofs.AtLemmas.{apart_at, same_at}
use Rattle.gj_shape.proofs.shape.Shape.first_jump.Goals as goal
use Rattle.gj_shape.proofs.shape.Shape.first_jump.Goals.{then-index-via-then-index, then-index-via-else-index+then-index-2}

pub returns-then-index-clause-jump : goal.returns-then-index-clause-jump
returns-then-index-clause-jump c =
    let order = ap (λ (f : FunctionData). f.order) c.self.view_is in
    let in_left : c.loop-i.i < length c.self.inside.left.items =
    omega (arith, c.self.invariant.left_length) in
    let in_value : c.loop-i.i < length c.self.inside.value.items =
    omega (arith, c.self.invariant.value_length) in
    let in_right : c.loop-i.i < length c.self.inside.right.items =
    omega (arith, c.self.invariant.right_length) in
    subst (λ (f : FunctionData). IsJump f c.loop-i.i) c.self.view_is
    (elim c.then-index.branch [
      | then-index-via-then-index w ↦ inl
          (apart_at _ _ c.loop-i.i _ _ in_left in_value c.index.ensures
          c.index-in-loop-i.ensures (λ e. w.if-index.true (ap (of_z w64) e)))
      | then-index-via-else-index+then-index-2 w ↦ inr (apart_at _ _
          c.loop-i.i _ _ in_value in_right w.index-else-index.ensures w.index-else-index-2.ensures
          (λ e. w.if-index-2.true (ap (of_z w64) e)))
    ])

pub returns-then-index-clause-first : goal.returns-then-index-clause-first
returns-then-index-clause-first c j below =
    let order = ap (λ (f : FunctionData). f.order) c.self.view_is in
    let in_left : j < length c.self.inside.left.items =
    omega (arith, c.self.invariant.left_length) in
    let in_value : j < length c.self.inside.value.items =
    omega (arith, c.self.invariant.value_length) in
    let in_right : j < length c.self.inside.right.items =
    omega (arith, c.self.invariant.right_length) in
    let same = c.loop-i.invariant j below in
    subst (λ (f : FunctionData). IsJump f j → ⊥) c.self.view_is
    (⊎_elim (λ differ. differ (same_at _ _ j in_left in_value same.0))
    (λ differ. differ (same_at _ _ j in_value in_right same.1)))

pub returns-clause-none : goal.returns-clause-none
returns-clause-none c =
    let left_length = c.self.invariant.left_length in
    let value_length = c.self.invariant.value_length in
    let right_length = c.self.invariant.right_length in
    subst (λ (f : FunctionData). IsContinuous f) c.self.view_is (
      ext_get_or (pos 0) _ _ (left_length ∙ sym value_length)
          (λ j below. (c.loop-i.invariant j (omega arith)).0),
      ext_get_or (pos 0) _ _ (right_length ∙ sym value_length)
          (λ j below. sym (c.loop-i.invariant j (omega arith)).1),
    )
