use Rattle.std.proofs.Common.{◌≡◌, ◌<◌, length, sym, ap, subst, ◌∙◌}
use Rattle.std.specs.Prelude.{All, IfSome}
use Rattle.gj_frac.specs.Fraction.{Fits}
use Rattle.gj_jumps.specs.LimitCover.{IsTightAt}
use Rattle.gj_shape.specs.Elimination.{at_column, kernel}
use Rattle.gj_shape.specs.SlopeRows.{component_in}
use Rattle.gj_limit_halves.specs.LimitHalves.{AreLimitHalvesOf, IsWideSplit}
use Rattle.gj_limit_halves.specs.Sides.{HasWide}
use Rattle.gj_limit_system.specs.Unknowns.{slope_column, limits_from}
use Rattle.gj_limit_system.proofs.Components.{length_is}
use Rattle.gj_limit_extreme.specs.Decision.{IsCause}
use Rattle.gj_limit_extreme.specs.Decision.IsWideBehind.{perturbation_passes, scale_passes}
use Rattle.gj_limit_extreme.specs.Faults.{of_elimination, of_split}
use Rattle.gj_limit_extreme.proofs.FaultCases.{elimination_cause, split_cause, handed}
use Rattle.gj_limit_extreme.proofs.FoundKernel.{kernel_found, kernel_wide, behind_wide, kernel_covers, numbers_fit}
use Rattle.gj_limit_extreme.proofs.ListedSides.{kernel_limits_are, kernel_sides_are, kernel_can_split}
use Rattle.gj_limit_extreme.proofs.kernel.kernel_halves.Goals as goal

pub returns-in_err-kernel-clause-cause : goal.returns-in_err-kernel-clause-cause
returns-in_err-kernel-clause-cause c =
    let f = c.args.shape.now in
    handed (IsCause f) c.from_residual.result (of_elimination c.in_err-kernel.field-0.0)
    c.from_residual.ensures.0 c.from_residual.ensures.1
    (elimination_cause f c.in_err-kernel.field-0.0
    (λ e. kernel_wide f c.requires.inserted.0 c.args.component.now c.args.rows.now
    c.requires.inserted.2 c.requires.inserted.1
    (c.in_err-kernel.ensures.wide e)))

pub limits_of-requires-clause-components : goal.limits_of-requires-clause-components
limits_of-requires-clause-components c =
    let f = c.args.shape.now in
    let found = kernel_found f c.requires.inserted.0 c.args.component.now c.args.rows.now
    c.requires.inserted.2
    c.unwrap-numbers.result.items c.requires.fewer
    (subst (λ o. IfSome o
    (λ v. IfSome (kernel c.args.rows.now.basis.columns c.args.rows.now.basis.kept)
    (λ s. v.items ≡ s.numbers)))
    c.unwrap-numbers.ensures c.in_ok-kernel.ensures.value)
    c.in_ok-kernel.ensures.narrow in
    subst (λ xs. All (λ k. slope_column (length c.args.component.now) k < length xs)
    c.args.component.now) (sym c.as_slice.ensures.value)
    (kernel_covers f c.requires.inserted.0 c.args.component.now c.unwrap-numbers.result.items
    c.requires.limits c.requires.inserted.1 found)

pub limits_of-requires-clause-fits : goal.limits_of-requires-clause-fits
limits_of-requires-clause-fits c =
    let f = c.args.shape.now in
    let found = kernel_found f c.requires.inserted.0 c.args.component.now c.args.rows.now
    c.requires.inserted.2
    c.unwrap-numbers.result.items c.requires.fewer
    (subst (λ o. IfSome o
    (λ v. IfSome (kernel c.args.rows.now.basis.columns c.args.rows.now.basis.kept)
    (λ s. v.items ≡ s.numbers)))
    c.unwrap-numbers.ensures c.in_ok-kernel.ensures.value)
    c.in_ok-kernel.ensures.narrow in
    subst (All Fits) (sym c.as_slice.ensures.value)
    (numbers_fit f c.requires.inserted.0 c.args.component.now c.unwrap-numbers.result.items
    c.requires.limits c.requires.inserted.1 found)

pub returns-in_err-perturbation-clause-cause : goal.returns-in_err-perturbation-clause-cause
returns-in_err-perturbation-clause-cause c =
    let f = c.args.shape.now in
    let comp = c.args.component.now in
    let found = kernel_found f c.requires.inserted.0 c.args.component.now c.args.rows.now
    c.requires.inserted.2
    c.unwrap-numbers.result.items c.requires.fewer
    (subst (λ o. IfSome o
    (λ v. IfSome (kernel c.args.rows.now.basis.columns c.args.rows.now.basis.kept)
    (λ s. v.items ≡ s.numbers)))
    c.unwrap-numbers.ensures c.in_ok-kernel.ensures.value)
    c.in_ok-kernel.ensures.narrow in
    let limits = kernel_limits_are f c.requires.inserted.0 comp found.solution c.as_slice.result.now
    c.requires.inserted.1
    (c.as_slice.ensures.value ∙ found.same) in
    let len = length_is f.order (IsTightAt f) c.requires.inserted.0 comp
    c.requires.inserted.1.is_cover c.requires.inserted.1.numbers in
    handed (IsCause f) c.from_residual-in_err-perturbation.result
    (of_split c.in_err-perturbation.field-0.0)
    c.from_residual-in_err-perturbation.ensures.0 c.from_residual-in_err-perturbation.ensures.1
    (split_cause f c.in_err-perturbation.field-0.0
    (λ e. behind_wide f c.requires.inserted.0 comp c.args.rows.now c.requires.inserted.2
    c.requires.inserted.1 _ found
    (perturbation_passes (subst (HasWide f.order) limits
    (subst (λ n. HasWide n
    (limits_from (length comp) (component_in comp) (at_column c.as_slice.result.now))) len
    (c.in_err-perturbation.ensures.wide e))))))

pub split_limits-requires-clause-perturbation : goal.split_limits-requires-clause-perturbation
split_limits-requires-clause-perturbation c =
    let f = c.args.shape.now in
    let found = kernel_found f c.requires.inserted.0 c.args.component.now c.args.rows.now
    c.requires.inserted.2
    c.unwrap-numbers.result.items c.requires.fewer
    (subst (λ o. IfSome o
    (λ v. IfSome (kernel c.args.rows.now.basis.columns c.args.rows.now.basis.kept)
    (λ s. v.items ≡ s.numbers)))
    c.unwrap-numbers.ensures c.in_ok-kernel.ensures.value)
    c.in_ok-kernel.ensures.narrow in
    kernel_can_split f c.requires.inserted.0 c.args.component.now found.solution
    c.as_slice.result.now c.in_ok-perturbation.perturbation
    c.requires.limits c.requires.inserted.1 found.solves (c.as_slice.ensures.value ∙ found.same)
    c.in_ok-perturbation.ensures.value
    c.in_ok-perturbation.ensures.within

pub returns-in_err-split_limits-clause-cause : goal.returns-in_err-split_limits-clause-cause
returns-in_err-split_limits-clause-cause c =
    let f = c.args.shape.now in
    let comp = c.args.component.now in
    let found = kernel_found f c.requires.inserted.0 c.args.component.now c.args.rows.now
    c.requires.inserted.2
    c.unwrap-numbers.result.items c.requires.fewer
    (subst (λ o. IfSome o
    (λ v. IfSome (kernel c.args.rows.now.basis.columns c.args.rows.now.basis.kept)
    (λ s. v.items ≡ s.numbers)))
    c.unwrap-numbers.ensures c.in_ok-kernel.ensures.value)
    c.in_ok-kernel.ensures.narrow in
    let sides = kernel_sides_are f c.requires.inserted.0 comp found.solution c.as_slice.result.now
    c.in_ok-perturbation.perturbation
    c.requires.limits c.requires.inserted.1 found.solves (c.as_slice.ensures.value ∙ found.same)
    c.in_ok-perturbation.ensures.value in
    handed (IsCause f) c.from_residual-in_err-split_limits.result
    (of_split c.in_err-split_limits.field-0.0)
    c.from_residual-in_err-split_limits.ensures.0 c.from_residual-in_err-split_limits.ensures.1
    (split_cause f c.in_err-split_limits.field-0.0
    (λ e. behind_wide f c.requires.inserted.0 comp c.args.rows.now c.requires.inserted.2
    c.requires.inserted.1 _ found
    (scale_passes (subst (IsWideSplit f 1) sides (c.in_err-split_limits.ensures.wide e)))))

pub returns-clause-halves : goal.returns-clause-halves
returns-clause-halves c =
    let f = c.args.shape.now in
    let comp = c.args.component.now in
    let found = kernel_found f c.requires.inserted.0 c.args.component.now c.args.rows.now
    c.requires.inserted.2
    c.unwrap-numbers.result.items c.requires.fewer
    (subst (λ o. IfSome o
    (λ v. IfSome (kernel c.args.rows.now.basis.columns c.args.rows.now.basis.kept)
    (λ s. v.items ≡ s.numbers)))
    c.unwrap-numbers.ensures c.in_ok-kernel.ensures.value)
    c.in_ok-kernel.ensures.narrow in
    let sides = kernel_sides_are f c.requires.inserted.0 comp found.solution c.as_slice.result.now
    c.in_ok-perturbation.perturbation
    c.requires.limits c.requires.inserted.1 found.solves (c.as_slice.ensures.value ∙ found.same)
    c.in_ok-perturbation.ensures.value in
    record {
      cover = c.requires.inserted.0;
      component = comp;
      covered = c.requires.inserted.1;
      fits = c.requires.inserted.2.fits;
      solution = found.solution;
      solves = found.solves;
      solution_fits = found.fits;
      halves = subst (λ w. AreLimitHalvesOf f 1 w c.in_ok-split_limits.field-0) sides
          c.in_ok-split_limits.ensures.halves;
    }
