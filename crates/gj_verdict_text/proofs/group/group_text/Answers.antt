use Rattle.std.proofs.Common.{◌++◌, codes, ap, ap₂, ◌∙◌}
use Rattle.gj_function_lines.specs.FunctionLines.{line, order_line, place_line}
use Rattle.gj_verdict_text.specs.GroupText.{verdict_lines}
use Rattle.gj_verdict_text.proofs.group.group_text.Goals as goal

pub returns : goal.returns
returns c = record {
  text = record {
    place = c.f.result;
    place_is = c.f.ensures.value;
    spelled = c.in_ok-extend_from_slice.ensures.items
        ∙ ap (λ xs. xs ++ line (codes "end")) (c.in_ok-push_verdict.ensures.lines
        ∙ ap (λ xs. xs ++ verdict_lines c.args.answer.now) (c.in_ok-push_fraction_line.ensures
        ∙ ap (λ xs. xs ++ place_line c.f.result) (c.in_ok-push_order_line.ensures
        ∙ ap₂ (λ xs q. xs ++ order_line q) c.in_ok-text.ensures.items c.order.ensures.value)));
  };
}
