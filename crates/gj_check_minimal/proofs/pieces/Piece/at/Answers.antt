use Rattle.std.proofs.Common.{◌≡◌, ◌+◌, ◌%◌, rules, ap, ◌∙◌}
use Rattle.gj_shape.proofs.NumeratorReadings.{rest_read}
use Rattle.gj_check_minimal.proofs.ReadNumbers.{next_index}
use Rattle.gj_check_minimal.proofs.pieces.Piece.at.Goals as goal

pub returns : goal.returns
returns c =
    let l = c.value_numerators.ensures.limits in
    let here : c.wrapped-here.result ≡ c.args.i % c.args.shape.now.order =
    c.wrapped-here.ensures ∙ ap (λ n. c.args.i % n) c.order-order.ensures.value in
    let next : c.wrapped-next.result ≡ (c.wrapped-here.result + 1) % c.args.shape.now.order =
    c.wrapped-next.ensures
    ∙ ap (λ n. (c.wrapped-here.result + 1) % n) c.order-order.ensures.value in
    let last = next_index c.args.i _ _ _ here next in
    record {
      value = rest_read _ _ c.args.i _ _ c.value_numerators.ensures.value l.value_length here
          (search rules);
      right = rest_read _ _ c.args.i _ _ c.right_numerators.ensures.value l.right_length here
          (search rules);
      left = rest_read _ _ (c.args.i + 1) _ _ c.left_numerators.ensures.value l.left_length last
          (search rules);
    }
