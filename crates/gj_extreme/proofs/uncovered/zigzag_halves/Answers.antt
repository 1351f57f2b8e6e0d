use Rattle.std.proofs.Common.{◌*◌, map, ap, ◌∙◌}
use Rattle.std.specs.List.{range_with_len}
use Rattle.gj_shape.specs.Perturbation.{zigzag}
use Rattle.gj_perturb.proofs.Splittable.{zigzag_splits, zigzag_narrow}
use Rattle.gj_extreme.specs.Faults.{of_split, IsMemoryFault}
use Rattle.gj_extreme.proofs.DecidedHalves.{first_of_class}
use Rattle.gj_extreme.proofs.FaultCases.{handed, split_memory}
use Rattle.gj_extreme.proofs.ListedHalves.{zigzag_halves_are}
use Rattle.gj_extreme.proofs.uncovered.zigzag_halves.Goals as goal

pub split-requires-clause-perturbation : goal.split-requires-clause-perturbation
split-requires-clause-perturbation c =
    let one = first_of_class c.args.class.now c.requires.some in
    zigzag_splits c.args.shape.now c.args.class.now c.in_ok-perturbation.perturbation one.0
    c.order-order.ensures.limits
    c.requires.continuous c.requires.minimal c.requires.uncovered one.1
    c.in_ok-perturbation.ensures.times
    (c.in_ok-perturbation.ensures.values
    ∙ ap (λ q. map (zigzag q c.args.class.now) (range_with_len 0 (q * 4)))
    c.order-order.ensures.value)

pub returns-in_err-split-clause-memory : goal.returns-in_err-split-clause-memory
returns-in_err-split-clause-memory c =
    handed IsMemoryFault c.from_residual-in_err-split.result
    (of_split c.in_err-split.field-0.0) c.from_residual-in_err-split.ensures.0
    c.from_residual-in_err-split.ensures.1
    (split_memory c.in_err-split.field-0.0
    (λ e. zigzag_narrow c.args.shape.now c.args.class.now c.in_ok-perturbation.perturbation
    c.order-order.ensures.limits
    c.in_ok-perturbation.ensures.times
    (c.in_ok-perturbation.ensures.values
    ∙ ap (λ q. map (zigzag q c.args.class.now) (range_with_len 0 (q * 4)))
    c.order-order.ensures.value)
    (c.in_err-split.ensures.wide e)))

pub returns-clause-halves : goal.returns-clause-halves
returns-clause-halves c = record {
  intervals = c.args.class.now;
  least = c.requires.least;
  some = c.requires.some;
  halves = zigzag_halves_are c.args.shape.now c.args.class.now c.in_ok-perturbation.perturbation
      c.in_ok-split.field-0
      c.order-order.ensures.limits c.requires.continuous c.requires.minimal c.requires.uncovered
      c.in_ok-perturbation.ensures.times
      (c.in_ok-perturbation.ensures.values
      ∙ ap (λ q. map (zigzag q c.args.class.now) (range_with_len 0 (q * 4)))
      c.order-order.ensures.value)
      c.in_ok-split.ensures.halves;
}
