use Rattle.std.proofs.Common.{refl}
use Rattle.gj_faces.specs.Added.{faces_of_row}
use Rattle.gj_limit_faces_text.proofs.Appended.{appends_more, appends_nothing}
use Rattle.gj_limit_faces_text.proofs.text.push_maximal_faces.Goals as goal

pub loop-a-init : goal.loop-a-init
loop-a-init c = appends_nothing c.args.shape.now c.args.out.now.items c.args.out.now.items refl

pub loop-a-preserved : goal.loop-a-preserved
loop-a-preserved c =
    appends_more c.args.shape.now (faces_of_row c.args.shape.now.order) c.loop-a.a
    c.args.out.now.items c.loop-a.out.items
    c.push_row.new.out.items c.loop-a.invariant c.in_ok-push_row.ensures
