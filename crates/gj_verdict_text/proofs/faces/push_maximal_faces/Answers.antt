use Rattle.std.proofs.Common.{◌++◌, All, length, flat_map, ap, subst, sym, ◌∙◌}
use Rattle.gj_function_lines.specs.FunctionLines.{line}
use Rattle.gj_function_lines.specs.FaceLines.{face_text}
use Rattle.gj_verdict_text.specs.FacePieces.{HasPieces}
use Rattle.gj_verdict_text.proofs.FacesTexts.{no_rows_pushed, one_row_pushed, row_has_pieces}
use Rattle.gj_verdict_text.proofs.faces.push_maximal_faces.Goals as goal

pub loop-a-init : goal.loop-a-init
loop-a-init c = record {
  pushed = no_rows_pushed c.args.shape.now c.args.out.now.items;
  ends = c.in_ok-ends.ensures.ends;
  count = c.in_ok-ends.ensures.count ∙ c.order.ensures.value;
  limits = c.order.ensures.limits;
}

pub push_face_lines-requires-clause-faces : goal.push_face_lines-requires-clause-faces
push_face_lines-requires-clause-faces c =
    let starts = c.starts_of.result in
    let ends = c.as_slice.result.now in
    subst (All (HasPieces starts ends)) (sym c.as_slice-in-loop-a.ensures.value)
    (row_has_pieces c.args.shape.now c.loop-a.a starts ends c.clear.new.self.items
    c.push_maximal_row.new.faces.items
    c.clear.ensures.items c.in_ok-push_maximal_row.ensures c.starts_of.ensures.row
    (ap length c.as_slice.ensures.value ∙ c.loop-a.invariant.count))

pub loop-a-preserved : goal.loop-a-preserved
loop-a-preserved c = record {
  pushed = one_row_pushed c.args.shape.now c.loop-a.a c.args.out.now.items c.loop-a.out.items
      c.push_face_lines.new.out.items
      c.clear.new.self.items c.push_maximal_row.new.faces.items c.loop-a.invariant.pushed
      c.clear.ensures.items
      c.in_ok-push_maximal_row.ensures
      (c.in_ok-push_face_lines.ensures
      ∙ ap (λ xs. c.loop-a.out.items ++ flat_map (λ face. line (face_text face)) xs)
      c.as_slice-in-loop-a.ensures.value);
  ends = c.loop-a.invariant.ends;
  count = c.loop-a.invariant.count;
  limits = c.loop-a.invariant.limits;
}
