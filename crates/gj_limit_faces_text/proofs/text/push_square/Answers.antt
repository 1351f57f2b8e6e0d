use Rattle.std.proofs.Common.{refl, ap, ◌∙◌}
use Rattle.gj_shape.specs.FunctionData.{FunctionData}
use Rattle.gj_limit_faces_text.proofs.Appended.{appends_face, appends_kind, appends_none, appends_nothing}
use Rattle.gj_limit_faces_text.proofs.text.push_square.Goals.{then-is_maximal+in_ok-push_face_line, else-is_maximal}
use Rattle.gj_limit_faces_text.proofs.text.push_square.Goals as goal

pub loop-kind-init : goal.loop-kind-init
loop-kind-init c = λ (f : FunctionData) rows. appends_nothing f c.args.out.now.items
    c.args.out.now.items refl

pub loop-kind-preserved : goal.loop-kind-preserved
loop-kind-preserved c =
    λ (f : FunctionData) rows.
    let told = c.is_maximal.ensures f c.args.a rows in
    appends_kind f _ c.loop-kind.kind-index _ c.args.a c.args.b c.args.out.now.items
    c.loop-kind.out.items c.if-is_maximal.out.items
    c.loop-kind-test.true refl (c.loop-kind.invariant f rows)
    (elim c.if-is_maximal.branch [
      | then-is_maximal+in_ok-push_face_line w ↦ appends_face f _ _ _ (told.0 w.if-is_maximal.true)
          (ap (λ v. v.items) w.out-is ∙ w.in_ok-push_face_line.ensures)
      | else-is_maximal w ↦ appends_none f _ _ _ (λ maximal. let wrong = told.1 maximal in
          let not = w.if-is_maximal.false in cc)
          (ap (λ v. v.items) w.out-is)
    ])
