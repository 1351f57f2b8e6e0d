use Rattle.std.proofs.Common.{◌+◌, ◌%◌, ap, ◌∙◌, arith}
use Rattle.gj_limit_faces.proofs.MendedRows.{mended_start, mended_more}
use Rattle.gj_limit_faces.proofs.square_row.mended.Goals as goal

pub loop-jump-init : goal.loop-jump-init
loop-jump-init c =
    mended_start c.args.shape.now c.order-order.ensures.limits c.args.terms c.args.a
    c.args.jumps.now c.moved-set.result c.requires.jumps c.requires.values.continuous
    c.moved-set.ensures

pub loop-jump-preserved : goal.loop-jump-preserved
loop-jump-preserved c =
    let t = c.args.terms in
    let a = c.args.a in
    let n = c.order-order.ensures.value in
    let first = c.index_before.ensures.below in
    let second = c.index_before-in-loop-jump.ensures.below in
    mended_more c.args.shape.now c.order-order.ensures.limits t a c.args.jumps.now
    c.loop-jump.jump-index c.wrapped-step.result c.index_before.result
    c.index_before-in-loop-jump.result c.loop-jump.set c.mend.new.set c.mend-in-loop-jump.new.set
    c.loop-jump.invariant
    (c.wrapped-step.ensures.value ∙ ap (λ q. (a + t.right + t.above) % q) n)
    (omega (arith, first, n)) (omega (arith, second, n))
    (λ d low is. c.index_before.ensures.value d (omega (arith, low, n))
    (ap (λ q. (d + t.above) % q) n ∙ is))
    (λ d low is. c.index_before-in-loop-jump.ensures.value d (omega (arith, low, n))
    (ap (λ q. (d + c.wrapped-step.result) % q) n ∙ is))
    c.mend.ensures.here c.mend.ensures.others c.mend-in-loop-jump.ensures.here
    c.mend-in-loop-jump.ensures.others
