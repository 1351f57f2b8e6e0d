use Rattle.std.proofs.Common.{◌^◌, pos, ℕ, ℤ, List, sym, subst, subst₂}
use Rattle.gj_loops.specs.Lanes.{IsInRange, ArePeriods}
use Rattle.gj_shape.specs.FunctionData.{at}
use Rattle.gj_limit_halves.proofs.LeastLimits.{is_least, in_range, are_side_lanes}
use Rattle.gj_limit_halves.proofs.SideBounds.{left_up_to, value_up_to, right_up_to}
use Rattle.gj_limit_halves.proofs.least.least_limit.Goals as goal

abbrev InRange : List ℤ → ℕ → Type 0
InRange xs i = IsInRange (pos 0) (2 ^ 31) (at xs i)

abbrev Periods : List ℕ → List ℤ → Type 0
Periods lanes xs = ArePeriods (λ n. pos n) (pos 0) (2 ^ 31) lanes xs

pub periods-requires-clause-range : goal.periods-requires-clause-range
periods-requires-clause-range c = λ i.
    let f = c.args.shape.now in
    let bounds = c.left_numerators.ensures.limits in
    subst (λ xs. InRange xs i) (sym c.left_numerators.ensures.value)
    (in_range f.scale f.left bounds.scale_high (left_up_to f bounds c.requires.minimal) i)

pub periods-requires-2-clause-range : goal.periods-requires-2-clause-range
periods-requires-2-clause-range c = λ i.
    let f = c.args.shape.now in
    let bounds = c.left_numerators.ensures.limits in
    subst (λ xs. InRange xs i) (sym c.value_numerators.ensures.value)
    (in_range f.scale f.value bounds.scale_high (value_up_to f bounds c.requires.minimal) i)

pub periods-requires-3-clause-range : goal.periods-requires-3-clause-range
periods-requires-3-clause-range c = λ i.
    let f = c.args.shape.now in
    let bounds = c.left_numerators.ensures.limits in
    subst (λ xs. InRange xs i) (sym c.right_numerators.ensures.value)
    (in_range f.scale f.right bounds.scale_high (right_up_to f bounds c.requires.minimal) i)

pub least_of_all-least-requires : goal.least_of_all-least-requires
least_of_all-least-requires c =
    are_side_lanes c.args.shape.now c.as_slice.result.now c.as_slice-2.result.now
    c.as_slice-3.result.now
    c.left_numerators.ensures.limits c.requires.minimal
    (subst₂ Periods (sym c.as_slice.ensures.value) c.left_numerators.ensures.value
    c.in_ok-lefts.ensures)
    (subst₂ Periods (sym c.as_slice-2.ensures.value) c.value_numerators.ensures.value
    c.in_ok-values.ensures)
    (subst₂ Periods (sym c.as_slice-3.ensures.value) c.right_numerators.ensures.value
    c.in_ok-rights.ensures)

pub returns : goal.returns
returns c =
    let least = c.least_of_all-least.result in
    let grid = c.least_on_grid.ensures in
    is_least c.args.shape.now c.left_numerators.ensures.limits c.requires.minimal c.args.times
    c.least_on_grid.result least.any least.beside_zero c.requires.low c.least_of_all-least.ensures
    grid.corners
    grid.beside grid.met
