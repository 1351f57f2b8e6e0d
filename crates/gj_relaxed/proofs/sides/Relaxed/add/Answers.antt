use Rattle.std.proofs.Common.{ap₂, ◌∙◌}
use Rattle.gj_problem.specs.Aggregates.{weighted}
use Rattle.gj_relaxed.proofs.RelaxedSides.{weighted_added}
use Rattle.gj_relaxed.proofs.sides.Relaxed.add.Goals as goal

pub returns-clause-added : goal.returns-clause-added
returns-clause-added c =
    let old = c.args.self.now in
    ap₂ weighted c.in_ok-push-2.ensures.items c.in_ok-push.ensures.items
    ∙ weighted_added old.multipliers.items old.constraints.items c.args.multiplier c.args.constraint
    c.requires
