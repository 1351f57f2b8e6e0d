use Rattle.std.proofs.Common.{◌&&◌, ap, ◌∙◌}
use Rattle.gj_loops.specs.IndexSets.{has}
use Rattle.gj_cover.proofs.Turns.{back_place}
use Rattle.gj_cover.proofs.table.Table.turned_back.Goals as goal

pub returns : goal.returns
returns c j =
    let t = c.args.self.now in
    let back = has c.turned_down.result j in
    c.and.ensures j ∙ ap (λ b. b && back) (t.within_is j)
    ∙ back_place t.order j (has c.args.set.now) back (c.turned_down.ensures j)
