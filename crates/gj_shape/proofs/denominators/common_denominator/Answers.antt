use Rattle.std.proofs.Common.{sym, subst}
use Rattle.gj_shape.specs.Denominators.{AreWithinBoundsOver}
use Rattle.gj_shape.proofs.InOrder.{before_all, before_next, StandAt}
use Rattle.gj_shape.proofs.LeastDenominator.{least_of_none, fault_in}
use Rattle.gj_shape.proofs.denominators.common_denominator.Goals as goal

pub loop-i-init : goal.loop-i-init
loop-i-init c = least_of_none

pub returns-clause-least : goal.returns-clause-least
returns-clause-least c =
    let all = before_all c.args.left.now c.args.value.now c.args.right.now c.loop-i.i
    c.requires.value_length
    c.requires.right_length c.loop-i-test.false in
    subst (λ xs. AreWithinBoundsOver xs c.loop-i.scale) all c.loop-i.invariant

pub returns-in-Err-clause-fault : goal.returns-in-Err-clause-fault
returns-in-Err-clause-fault c =
    let at : StandAt c.args.left.now c.args.value.now c.args.right.now c.loop-i.i
    c.index-left-i.result c.index-value-i.result
    c.index-right-i.result =
    record {
      value_length = c.requires.value_length;
      right_length = c.requires.right_length;
      within = c.loop-i-test.true;
      left_is = c.index-left-i.is;
      value_is = c.index-value-i.is;
      right_is = c.index-right-i.is;
    } in
    rw c.at.ensures (fault_in _ _ _ c.loop-i.i _ _ _ _ at
    (c.in-Err.ensures.fault _ c.loop-i.invariant))

pub loop-i-preserved : goal.loop-i-preserved
loop-i-preserved c =
    let at : StandAt c.args.left.now c.args.value.now c.args.right.now c.loop-i.i
    c.index-left-i.result c.index-value-i.result
    c.index-right-i.result =
    record {
      value_length = c.requires.value_length;
      right_length = c.requires.right_length;
      within = c.loop-i-test.true;
      left_is = c.index-left-i.is;
      value_is = c.index-value-i.is;
      right_is = c.index-right-i.is;
    } in
    subst (λ xs. AreWithinBoundsOver xs c.in-Ok.multiple)
    (sym (before_next _ _ _ c.loop-i.i _ _ _ at))
    (c.in-Ok.ensures.least _ c.loop-i.invariant)
