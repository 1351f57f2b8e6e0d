use Rattle.std.proofs.Common.{pos, ◌^◌, sym, subst}
use Rattle.gj_loops.specs.Lanes.{AreInRange}
use Rattle.gj_perturb.proofs.FinerSlacks.{value_is_lane}
use Rattle.gj_perturb.proofs.slacks.two_periods.Goals as goal

pub write_periods-requires-clause-range : goal.write_periods-requires-clause-range
write_periods-requires-clause-range c =
    let read = c.value_numerators-values.ensures in
    subst (AreInRange (pos 0) (2 ^ 31)) (sym read.value)
    (λ i. value_is_lane c.args.shape.now i read.limits c.requires)
