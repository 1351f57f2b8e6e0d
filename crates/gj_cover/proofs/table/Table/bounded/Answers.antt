use Rattle.std.proofs.Common.{◌&&◌, ap, ◌∙◌}
use Rattle.gj_loops.specs.IndexSets.{has}
use Rattle.gj_cover.proofs.table.Table.bounded.Goals as goal

pub returns : goal.returns
returns c j = c.and.ensures j ∙ ap (λ b. b && has c.args.set.now j) (c.args.self.now.within_is j)
