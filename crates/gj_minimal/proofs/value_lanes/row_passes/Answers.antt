use Rattle.std.proofs.Common.{ℕ, ◌+◌, subst}
use Rattle.gj_minimal.specs.Failures.{PassesWithSum}
use Rattle.gj_minimal.proofs.FailedVertices.{ahead_by_sums}
use Rattle.gj_minimal.proofs.value_lanes.row_passes.Goals as goal

pub returns : goal.returns
returns g c passes =
    let f = c.args.shape.now in
    let rest = c.rest_of-rest.result in
    let again = subst (λ (q : ℕ). PassesWithSum f c.args.a (rest + q)) c.order.ensures.value
    (c.part_passes-2.ensures passes) in
    ahead_by_sums f c.args.a rest c.rest_of-rest.ensures.below c.rest_of-rest.ensures.sum
    (c.part_passes.ensures c.if-not-part_passes.false) again
