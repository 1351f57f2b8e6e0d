use Rattle.std.proofs.Common.{Bool, ◌-◌, ap, ◌∙◌}
use Rattle.std.specs.Prelude.{◌==◌, if◌then◌else◌}
use Rattle.gj_loops.specs.IndexSets.{has}
use Rattle.gj_loops.proofs.Shifts.{moved_by_one}
use Rattle.gj_loops.proofs.index_set.IndexSet.turned_up.Goals as goal

pub returns : goal.returns
returns c j =
    moved_by_one (has c.args.self.now) j (c.args.n - 1) (has c.up-set.result j)
    (has c.put.new.self j) (c.up-set.ensures j)
    (c.put.ensures j ∙ ap (λ (wanted : Bool). if j == 0 then wanted else has c.up-set.result j)
    c.contains.ensures)
