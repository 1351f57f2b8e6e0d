use Rattle.std.proofs.Common.{arith}
use Rattle.gj_faces.specs.Picked.{none}
use Rattle.gj_faces.proofs.AddedFaces.{picked_row, all_rows_picked}
use Rattle.gj_faces.proofs.Held.{additive_in_listed}
use Rattle.gj_faces.proofs.TightGrids.{listed_tell_tight}
use Rattle.gj_faces.proofs.maximal_faces.maximal.Goals as goal

pub loop-a-init : goal.loop-a-init
loop-a-init c = rw c.new-faces.ensures.items none

pub loop-a-preserved : goal.loop-a-preserved
loop-a-preserved c =
    let f = c.args.shape.now in
    picked_row f f.order c.loop-a.a c.loop-a.faces.items c.push_maximal_row.new.faces.items
    c.loop-a.invariant c.in_ok-push_maximal_row.ensures

pub returns-clause-closures : goal.returns-clause-closures
returns-clause-closures c =
    let f = c.args.shape.now in
    additive_in_listed f c.loop-a.faces.items c.order-a-end.ensures.limits
    (all_rows_picked f c.loop-a.a c.loop-a.faces.items (omega arith) c.loop-a.invariant)

pub returns-clause-tight_pairs : goal.returns-clause-tight_pairs
returns-clause-tight_pairs c minimal =
    let f = c.args.shape.now in
    listed_tell_tight f c.loop-a.faces.items c.order-a-end.ensures.limits c.requires minimal
    (all_rows_picked f c.loop-a.a c.loop-a.faces.items (omega arith) c.loop-a.invariant)
