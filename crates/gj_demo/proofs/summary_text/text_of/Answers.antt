use Rattle.std.proofs.Common.{◌++◌, ◌-◌, ap, ◌∙◌, codes}
use Rattle.gj_lex.specs.NumberText.{count_line}
use Rattle.gj_function_lines.specs.FunctionLines.{line, order_line}
use Rattle.gj_proof.specs.ProofText.{halves_line}
use Rattle.gj_demo.proofs.SummaryTexts.{nine_in_turn}
use Rattle.gj_demo.proofs.summary_text.text_of.Goals as goal

pub returns : goal.returns
returns c =
    let n = c.args.n in
    nine_in_turn (count_line (codes "demo ") n) (order_line c.args.order) (line (codes "f 1/2"))
    (count_line (codes "triangles ") c.args.triangles)
    (count_line (codes "covered ") c.args.covered)
    (count_line (codes "uncovered ") (c.args.order - c.args.covered))
    (count_line (codes "components ") c.args.components)
    (line (codes "verdict not-extreme"))
    (halves_line c.args.halves.now) c.push_count_line.new.out.items
    c.push_order_line.new.out.items
    c.extend_from_slice.new.self.items c.push_count_line-2.new.out.items
    c.push_count_line-3.new.out.items
    c.push_count_line-4.new.out.items c.push_count_line-5.new.out.items
    c.extend_from_slice-2.new.self.items
    c.push_halves_line.new.out.items
    (c.in_ok-push_count_line.ensures
    ∙ ap (λ xs. xs ++ count_line (codes "demo ") n) c.new-text.ensures.items)
    c.in_ok-push_order_line.ensures c.in_ok-extend_from_slice.ensures.items
    c.in_ok-push_count_line-2.ensures
    c.in_ok-push_count_line-3.ensures c.in_ok-push_count_line-4.ensures
    c.in_ok-push_count_line-5.ensures
    c.in_ok-extend_from_slice-2.ensures.items c.in_ok-push_halves_line.ensures
