use Rattle.std.proofs.Common.{◌++◌, flat_map, ap, subst, ◌∙◌}
use Rattle.gj_function_lines.specs.FaceLines.{cover_line}
use Rattle.gj_verdict_text.specs.FacesText.{ArePushed}
use Rattle.gj_limit_faces_text.proofs.Appended.{text_of_faces}
use Rattle.gj_limit_faces_text.proofs.text.limit_faces_text.Goals as goal

pub returns : goal.returns
returns c =
    let f = c.args.shape.now in
    let first = c.push_order_line.new.out.items in
    let second = c.push_maximal_faces.new.out.items in
    let third = c.push_cover_lines.new.out.items in
    let fourth = c.push_uncovered_lines.new.out.items in
    text_of_faces f c.order.result c.order-2.result c.in_ok-cover.cover c.in_ok-text.text.items
    first second third fourth
    c.extend_from_slice.new.self.items c.order.ensures.value c.order-2.ensures.value
    c.in_ok-cover.ensures.cover c.in_ok-text.ensures.items
    c.in_ok-push_order_line.ensures c.in_ok-push_maximal_faces.ensures
    (c.in_ok-push_cover_lines.ensures
    ∙ ap (λ xs. second ++ flat_map cover_line xs) c.as_slice.ensures)
    (subst (λ xs. ArePushed xs c.order-2.result third fourth) c.as_slice-2.ensures
    c.in_ok-push_uncovered_lines.ensures)
    c.in_ok-extend_from_slice.ensures.items
