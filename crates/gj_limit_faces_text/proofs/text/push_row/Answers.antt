use Rattle.std.proofs.Common.{◌<◌, refl, ap, subst, ◌∙◌}
use Rattle.gj_shape.specs.WalkOrder.{faces_of_square}
use Rattle.gj_limit_faces_text.specs.AdditiveRows.{IsAdditiveRow, one_less}
use Rattle.gj_limit_faces_text.proofs.Appended.{appends_more, appends_nothing}
use Rattle.gj_limit_faces_text.proofs.text.push_row.Goals as goal

pub loop-b-init : goal.loop-b-init
loop-b-init c = appends_nothing c.args.shape.now c.args.out.now.items c.args.out.now.items refl

pub loop-b-preserved : goal.loop-b-preserved
loop-b-preserved c =
    appends_more c.args.shape.now (faces_of_square c.args.a) c.loop-b.b c.args.out.now.items
    c.loop-b.out.items c.push_square.new.out.items
    c.loop-b.invariant
    (c.in_ok-push_square.ensures c.args.shape.now (record {
      bounds = c.order-order.ensures.limits;
      first = c.requires.within;
      second = subst (λ n. c.loop-b.b < n) c.order-order.ensures.value c.loop-b-test.true;
      is_here = c.of-here.ensures;
      is_before = subst (λ i. IsAdditiveRow c.args.shape.now i c.of-before.result)
          (c.one_less.ensures.value ∙ ap (λ n. one_less n c.args.a) c.order-order.ensures.value)
          c.of-before.ensures;
      is_back = c.one_less-in-loop-b.ensures.value
          ∙ ap (λ n. one_less n c.loop-b.b) c.order-order.ensures.value;
    }))
