use Rattle.std.proofs.Common.{None}
use Rattle.gj_shape.specs.Additive.{IsAdditive}
use Rattle.gj_cover.specs.Links.{LeadsBy}
use Rattle.gj_cover.specs.Table.{IsTightInTable}
use Rattle.gj_cover.proofs.Adding.{both_added}
use Rattle.gj_cover.proofs.first_faces.joining_either.Goals as goal

pub returns : goal.returns
returns c =
    let t = c.args.table.now in
    both_added (LeadsBy t.order c.args.first c.args.second)
    (LeadsBy t.order c.args.second c.args.first) (IsAdditive (IsTightInTable t)) None
    c.add_joining.new.found c.add_joining-2.new.found c.add_joining.ensures c.add_joining-2.ensures
