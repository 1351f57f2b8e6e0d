use Rattle.std.proofs.Common.{◌<◌, arith}
use Rattle.gj_shape.specs.SlopeRows.{component_in}
use Rattle.gj_jumps.specs.LimitCover.{IsTightAt}
use Rattle.gj_limit_system.proofs.Components.{has_interval, component_low}
use Rattle.gj_limit_system.proofs.FromRows.{columns_zero}
use Rattle.gj_limit_system.proofs.FromLimits.{limits_zero}
use Rattle.gj_limit_system.proofs.ListNumbers.{lists_by_columns, columns_by_lists}
use Rattle.gj_limit_system.proofs.law.rows_decide_the_limits.Goals as goal

pub returns-clause-columns : goal.returns-clause-columns
returns-clause-columns c f cover component bounds zero_value is all = (
  λ only x rows.
      columns_zero f bounds (component_in component) x rows only cover.count
      (has_interval f.order (IsTightAt f) cover component is all),
  λ only w solves.
      limits_zero f bounds zero_value cover component is all w solves only,
)

pub returns-clause-list : goal.returns-clause-list
returns-clause-list c f cover component bounds zero_value is all =
    let both = returns-clause-columns c f cover component bounds zero_value is all in
    let some : 0 < f.order = (let two = bounds.order_low in omega (arith, two)) in
    let few = component_low f.order (IsTightAt f) cover component is all in (
      λ only. lists_by_columns f component cover.count some few (both.0 only),
      λ only. both.1 (columns_by_lists f component cover.count some few only),
    )
