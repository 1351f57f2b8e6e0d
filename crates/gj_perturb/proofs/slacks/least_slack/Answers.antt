use Rattle.std.proofs.Common.{◌+◌, sym, subst, subst₂, ap}
use Rattle.gj_shape.specs.Perturbation.{IsLeastSlack}
use Rattle.gj_perturb.specs.Lanes.{HoldValues, AreSubadditive, AreLeast, IsLeastAt, IsInRows}
use Rattle.gj_perturb.proofs.FinerSlacks.{are_subadditive, is_least, is_least_at_corners}
use Rattle.gj_perturb.proofs.slacks.least_slack.Goals as goal

pub least_at_corners-least-requires : goal.least_at_corners-least-requires
least_at_corners-least-requires c =
    let f = c.args.shape.now in
    let lanes = c.as_slice-lanes.result.now in
    let periods : HoldValues f lanes =
    subst (HoldValues f) (sym c.as_slice-lanes.ensures.value) c.in_ok-periods.ensures in
    subst (AreSubadditive lanes) (sym c.order-order.ensures.value)
    (are_subadditive f lanes c.requires.minimal periods)

pub returns-then-times-eq1 : goal.returns-then-times-eq1
returns-then-times-eq1 c =
    let f = c.args.shape.now in
    let lanes = c.as_slice-lanes.result.now in
    let least = c.least_at_corners-least.result in
    let periods : HoldValues f lanes =
    subst (HoldValues f) (sym c.as_slice-lanes.ensures.value) c.in_ok-periods.ensures in
    let found = subst (λ q. IsLeastAt lanes q (IsInRows q q) least) c.order-order.ensures.value
    c.least_at_corners-least.ensures in
    subst₂ (IsLeastSlack f) (sym c.if-times-eq1.true) (ap (λ u. u + 1) (sym c.from.ensures))
    (is_least_at_corners f lanes c.order-order.ensures.limits c.requires.continuous
    c.requires.minimal periods least found)

pub least_slacks-least-requires : goal.least_slacks-least-requires
least_slacks-least-requires c =
    let f = c.args.shape.now in
    let lanes = c.as_slice-lanes.result.now in
    let periods : HoldValues f lanes =
    subst (HoldValues f) (sym c.as_slice-lanes.ensures.value) c.in_ok-periods.ensures in
    subst (AreSubadditive lanes) (sym c.order-order.ensures.value)
    (are_subadditive f lanes c.requires.minimal periods)

pub returns : goal.returns
returns c =
    let f = c.args.shape.now in
    let lanes = c.as_slice-lanes.result.now in
    let least = c.least_slacks-least.result in
    let on_grid = c.least_on_grid.ensures in
    let periods : HoldValues f lanes =
    subst (HoldValues f) (sym c.as_slice-lanes.ensures.value) c.in_ok-periods.ensures in
    let found = subst (λ q. AreLeast lanes q (IsInRows q q) least.any least.beside_zero)
    c.order-order.ensures.value c.least_slacks-least.ensures in
    is_least f c.args.times c.order-order.ensures.limits c.requires.continuous c.requires.minimal
    c.requires.low lanes least.any
    least.beside_zero c.least_on_grid.result periods found on_grid.corners on_grid.beside
    on_grid.met
