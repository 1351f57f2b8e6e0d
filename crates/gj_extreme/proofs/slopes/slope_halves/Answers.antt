use Rattle.std.proofs.Common.{◌≡◌, ◌<◌, length, map, sym, ap, subst, ◌∙◌}
use Rattle.std.specs.Prelude.{All, IfSome}
use Rattle.std.specs.List.{range_with_len}
use Rattle.gj_shape.specs.SlopeRows.{component_in}
use Rattle.gj_shape.specs.Elimination.{kernel}
use Rattle.gj_perturb.specs.SlopeSums.{slope_sum, IsWideSum}
use Rattle.gj_extreme.specs.Decision.{IsCause}
use Rattle.gj_extreme.specs.Faults.{of_elimination, of_split}
use Rattle.gj_extreme.proofs.FaultCases.{elimination_cause, split_cause, handed}
use Rattle.gj_extreme.proofs.FoundKernel.{kernel_same, kernel_found, kernel_covers}
use Rattle.gj_extreme.proofs.ListedHalves.{sums_are, sums_can_split, slope_halves_are}
use Rattle.gj_extreme.proofs.WideParts.{kernel_wide, sum_wide, scale_wide}
use Rattle.gj_extreme.proofs.slopes.slope_halves.Goals as goal

pub returns-in_err-kernel-clause-cause : goal.returns-in_err-kernel-clause-cause
returns-in_err-kernel-clause-cause c =
    handed (IsCause c.args.shape.now) c.from_residual.result
    (of_elimination c.in_err-kernel.field-0.0) c.from_residual.ensures.0
    c.from_residual.ensures.1
    (elimination_cause c.args.shape.now c.in_err-kernel.field-0.0 c.requires.minimal
    c.requires.continuous
    (λ e. kernel_wide c.args.shape.now c.requires.covered.0 (component_in c.args.component.now)
    (length c.args.rows.now.row.items)
    c.args.rows.now.basis.columns c.args.rows.now.basis.kept c.requires.covered.1
    c.requires.inserted.fits
    (kernel_same c.args.shape.now (component_in c.args.component.now)
    (length c.args.rows.now.row.items) c.args.rows.now
    c.requires.inserted)
    (c.in_err-kernel.ensures.wide e)))

pub from_slopes-requires : goal.from_slopes-requires
from_slopes-requires c =
    let n = length c.args.rows.now.row.items in
    let found = kernel_found c.args.shape.now (component_in c.args.component.now) n c.args.rows.now
    c.unwrap-numbers.result.items c.requires.inserted c.requires.fewer
    (subst (λ o. IfSome o
    (λ v. IfSome (kernel c.args.rows.now.basis.columns c.args.rows.now.basis.kept)
    (λ s. v.items ≡ s.numbers)))
    c.unwrap-numbers.ensures c.in_ok-kernel.ensures.value)
    c.in_ok-kernel.ensures.narrow in
    record {
      components = subst (λ xs. All (λ k. k < length xs) c.args.component.now)
          (sym c.as_slice.ensures.value)
          (kernel_covers c.args.shape.now c.requires.covered.0 c.args.component.now n
          c.unwrap-numbers.result.items c.requires.order
          c.requires.covered.1 found);
    }

pub returns-in_err-perturbation-clause-cause : goal.returns-in_err-perturbation-clause-cause
returns-in_err-perturbation-clause-cause c =
    let n = length c.args.rows.now.row.items in
    let found = kernel_found c.args.shape.now (component_in c.args.component.now) n c.args.rows.now
    c.unwrap-numbers.result.items c.requires.inserted c.requires.fewer
    (subst (λ o. IfSome o
    (λ v. IfSome (kernel c.args.rows.now.basis.columns c.args.rows.now.basis.kept)
    (λ s. v.items ≡ s.numbers)))
    c.unwrap-numbers.ensures c.in_ok-kernel.ensures.value)
    c.in_ok-kernel.ensures.narrow in
    handed (IsCause c.args.shape.now) c.from_residual-in_err-perturbation.result
    (of_split c.in_err-perturbation.field-0.0)
    c.from_residual-in_err-perturbation.ensures.0 c.from_residual-in_err-perturbation.ensures.1
    (split_cause c.args.shape.now c.in_err-perturbation.field-0.0 c.requires.minimal
    c.requires.continuous
    (λ e. sum_wide c.args.shape.now c.requires.covered.0 c.args.component.now n found.solution
    c.requires.order c.requires.covered.1
    c.requires.inserted.fits found.solves
    (subst (IsWideSum c.args.component.now) (c.as_slice.ensures.value ∙ found.same)
    (c.in_err-perturbation.ensures.wide e))))

pub split-requires-clause-perturbation : goal.split-requires-clause-perturbation
split-requires-clause-perturbation c =
    let n = length c.args.rows.now.row.items in
    let found = kernel_found c.args.shape.now (component_in c.args.component.now) n c.args.rows.now
    c.unwrap-numbers.result.items c.requires.inserted c.requires.fewer
    (subst (λ o. IfSome o
    (λ v. IfSome (kernel c.args.rows.now.basis.columns c.args.rows.now.basis.kept)
    (λ s. v.items ≡ s.numbers)))
    c.unwrap-numbers.ensures c.in_ok-kernel.ensures.value)
    c.in_ok-kernel.ensures.narrow in
    let sums = sums_are c.args.shape.now c.requires.covered.0 c.args.component.now n found.solution
    c.in_ok-perturbation.perturbation
    c.requires.limits c.requires.order c.requires.covered.1 found.solves
    c.in_ok-perturbation.ensures.times
    (c.in_ok-perturbation.ensures.values
    ∙ ap (λ xs. map (slope_sum c.args.component.now xs)
    (range_with_len 0 (length c.args.component.now)))
    (c.as_slice.ensures.value ∙ found.same)) in
    sums_can_split c.args.shape.now c.requires.covered.0 c.args.component.now n found.solution
    c.in_ok-perturbation.perturbation
    c.requires.limits c.requires.covered.1 found.solves sums c.in_ok-perturbation.ensures.narrow

pub returns-in_err-split-clause-cause : goal.returns-in_err-split-clause-cause
returns-in_err-split-clause-cause c =
    let n = length c.args.rows.now.row.items in
    let found = kernel_found c.args.shape.now (component_in c.args.component.now) n c.args.rows.now
    c.unwrap-numbers.result.items c.requires.inserted c.requires.fewer
    (subst (λ o. IfSome o
    (λ v. IfSome (kernel c.args.rows.now.basis.columns c.args.rows.now.basis.kept)
    (λ s. v.items ≡ s.numbers)))
    c.unwrap-numbers.ensures c.in_ok-kernel.ensures.value)
    c.in_ok-kernel.ensures.narrow in
    let sums = sums_are c.args.shape.now c.requires.covered.0 c.args.component.now n found.solution
    c.in_ok-perturbation.perturbation
    c.requires.limits c.requires.order c.requires.covered.1 found.solves
    c.in_ok-perturbation.ensures.times
    (c.in_ok-perturbation.ensures.values
    ∙ ap (λ xs. map (slope_sum c.args.component.now xs)
    (range_with_len 0 (length c.args.component.now)))
    (c.as_slice.ensures.value ∙ found.same)) in
    handed (IsCause c.args.shape.now) c.from_residual-in_err-split.result
    (of_split c.in_err-split.field-0.0)
    c.from_residual-in_err-split.ensures.0 c.from_residual-in_err-split.ensures.1
    (split_cause c.args.shape.now c.in_err-split.field-0.0 c.requires.minimal c.requires.continuous
    (λ e. scale_wide c.args.shape.now c.requires.covered.0 c.args.component.now n found.solution
    c.in_ok-perturbation.perturbation
    c.requires.limits c.requires.minimal c.requires.covered.1 c.requires.inserted.fits found.solves
    sums
    (c.in_err-split.ensures.wide e)))

pub returns-clause-halves : goal.returns-clause-halves
returns-clause-halves c =
    let n = length c.args.rows.now.row.items in
    let found = kernel_found c.args.shape.now (component_in c.args.component.now) n c.args.rows.now
    c.unwrap-numbers.result.items c.requires.inserted c.requires.fewer
    (subst (λ o. IfSome o
    (λ v. IfSome (kernel c.args.rows.now.basis.columns c.args.rows.now.basis.kept)
    (λ s. v.items ≡ s.numbers)))
    c.unwrap-numbers.ensures c.in_ok-kernel.ensures.value)
    c.in_ok-kernel.ensures.narrow in
    let sums = sums_are c.args.shape.now c.requires.covered.0 c.args.component.now n found.solution
    c.in_ok-perturbation.perturbation
    c.requires.limits c.requires.order c.requires.covered.1 found.solves
    c.in_ok-perturbation.ensures.times
    (c.in_ok-perturbation.ensures.values
    ∙ ap (λ xs. map (slope_sum c.args.component.now xs)
    (range_with_len 0 (length c.args.component.now)))
    (c.as_slice.ensures.value ∙ found.same)) in
    record {
      lines = c.requires.covered.0;
      component = component_in c.args.component.now;
      n = n;
      covered = c.requires.covered.1;
      fits = c.requires.inserted.fits;
      solution = found.solution;
      solves = found.solves;
      solution_fits = found.fits;
      halves = slope_halves_are c.args.shape.now c.args.component.now found.solution.numbers
          c.in_ok-perturbation.perturbation
          c.in_ok-split.field-0 sums c.in_ok-split.ensures.halves;
    }
