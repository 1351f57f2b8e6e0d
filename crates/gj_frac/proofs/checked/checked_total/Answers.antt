use Rattle.std.proofs.Common.{◌+ℤ◌}
use Rattle.std.proofs.lemmas.Int.{to_z-of_z}
use Rattle.gj_frac.proofs.Refusals.{step_fits}
use Rattle.gj_frac.proofs.checked.checked_total.Goals as goal
use mir.Syntax.{w128}

pub returns : goal.returns
returns c =
    let n = to_z-of_z w128 c.args.n c.ranges.n in
    let m = to_z-of_z w128 c.args.m c.ranges.m in
    step_fits c.checked_add.result c.part.result (c.args.n +ℤ c.args.m)
    (simp (n, m) at c.checked_add.ensures) c.part.ensures
