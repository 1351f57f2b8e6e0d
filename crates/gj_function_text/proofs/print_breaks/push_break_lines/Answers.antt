use Rattle.std.proofs.Common.{◌++◌, List, ℕ, flat_map, get_or, take, sym, ap, ap₂, ◌∙◌}
use Rattle.std.proofs.lemmas.List.{append-nil, flat_map_more, take_more, take_all}
use Rattle.gj_function_lines.specs.BreakLines.{break_line}
use Rattle.gj_function_text.proofs.print_breaks.push_break_lines.Goals as goal

pub loop-point-init : goal.loop-point-init
loop-point-init c = sym (append-nil c.args.out.now.items)

pub loop-point-preserved : goal.loop-point-preserved
loop-point-preserved c =
    let out = c.args.out.now.items in
    let points = c.args.points.now in
    let i = c.loop-point.point-index in
    let x = c.point-item.result in
    c.in_ok-push_break_line.ensures
    ∙ ap₂ (λ (text : List ℕ) p. text ++ break_line p) c.loop-point.invariant c.point-item.is
    ∙ flat_map_more break_line out (take i points) (get_or points i x)
    ∙ ap (λ ps. out ++ flat_map break_line ps) (sym (take_more points i x c.loop-point-test.true))

pub returns : goal.returns
returns c =
    c.loop-point.invariant
    ∙ ap (λ ps. c.args.out.now.items ++ flat_map break_line ps)
    (take_all c.loop-point.point-index c.args.points.now c.loop-point-test.false)
