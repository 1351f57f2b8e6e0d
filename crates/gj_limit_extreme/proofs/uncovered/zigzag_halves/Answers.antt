use Rattle.std.proofs.Common.{◌<◌, sym, subst}
use Rattle.std.specs.Prelude.{All}
use Rattle.gj_limit_halves.specs.LimitHalves.{AreLimitHalvesOf}
use Rattle.gj_limit_extreme.specs.Faults.{of_split, IsMemoryFault}
use Rattle.gj_limit_extreme.proofs.FaultCases.{handed, split_memory}
use Rattle.gj_limit_extreme.proofs.ListedSides.{zigzag_sides_are, zigzag_can_split, zigzag_narrow}
use Rattle.gj_limit_extreme.proofs.Zigzags.{class_within}
use Rattle.gj_limit_extreme.proofs.uncovered.zigzag_halves.Goals as goal

pub zigzag_sides-requires-clause-within : goal.zigzag_sides-requires-clause-within
zigzag_sides-requires-clause-within c =
    subst (λ q. All (λ a. a < q) c.args.class.now) (sym c.order.ensures.value)
    (class_within c.args.shape.now c.args.class.now c.requires.least c.requires.some)

pub split_limits-requires-clause-perturbation : goal.split_limits-requires-clause-perturbation
split_limits-requires-clause-perturbation c =
    zigzag_can_split c.args.shape.now c.args.class.now c.in_ok-perturbation.perturbation
    c.order.result c.order.ensures.limits
    c.requires.minimal c.requires.least c.requires.some c.order.ensures.value
    c.in_ok-perturbation.ensures

pub returns-in_err-split_limits-clause-memory : goal.returns-in_err-split_limits-clause-memory
returns-in_err-split_limits-clause-memory c =
    handed IsMemoryFault c.from_residual-in_err-split_limits.result
    (of_split c.in_err-split_limits.field-0.0)
    c.from_residual-in_err-split_limits.ensures.0 c.from_residual-in_err-split_limits.ensures.1
    (split_memory c.in_err-split_limits.field-0.0
    (λ e. zigzag_narrow c.args.shape.now c.args.class.now c.in_ok-perturbation.perturbation
    c.order.result c.order.ensures.limits
    c.requires.minimal c.requires.least c.requires.some c.order.ensures.value
    c.in_ok-perturbation.ensures
    (c.in_err-split_limits.ensures.wide e)))

pub returns-clause-halves : goal.returns-clause-halves
returns-clause-halves c =
    let f = c.args.shape.now in
    record {
      intervals = c.args.class.now;
      least = c.requires.least;
      some = c.requires.some;
      halves = subst (λ w. AreLimitHalvesOf f 4 w c.in_ok-split_limits.field-0)
          (zigzag_sides_are f c.args.class.now c.in_ok-perturbation.perturbation c.order.result
          c.order.ensures.limits c.requires.minimal
          c.requires.least c.requires.some c.order.ensures.value c.in_ok-perturbation.ensures)
          c.in_ok-split_limits.ensures.halves;
    }
