use Rattle.std.proofs.Common.{refl, ap, ◌∙◌}
use Rattle.std.proofs.lemmas.List.{take_all}
use Rattle.std.proofs.lemmas.Result.{IfErr-weaker}
use Rattle.gj_shape.specs.Points.{lefts, values, rights}
use Rattle.gj_shape.proofs.GivenFractions.{fault_as}
use Rattle.gj_shape.proofs.pieces.with_points.Goals as goal

pub returns-clause-fault : goal.returns-clause-fault
returns-clause-fault c =
    let l = c.loop-point.invariant in
    let all = take_all c.loop-point.point-index c.args.points.now c.loop-point-test.false in
    IfErr-weaker c.new.result _ _
    (λ e h.
    fault_as _ _ _ _ _ _ _ _ _ _ e refl refl (c.as_slice.ensures.value ∙ l.left ∙ ap lefts all)
    (c.as_slice-2.ensures.value ∙ l.value ∙ ap values all) (c.as_slice-3.ensures.value ∙ l.right
    ∙ ap rights all) h)
    c.new.ensures.fault
