use Rattle.std.proofs.Common.{◌<◌, length, sym, ap, subst, ◌∙◌}
use Rattle.std.specs.Prelude.{All}
use Rattle.gj_shape.specs.Additive.{IsTight}
use Rattle.gj_shape.specs.SlopeRows.{component_in}
use Rattle.gj_extreme.specs.Decision.{AreAllCovered}
use Rattle.gj_extreme.proofs.FaultCases.{memory_decision}
use Rattle.gj_extreme.proofs.CoveredNumbers.{numbers_below, numbers_length, are_all_covered}
use Rattle.gj_extreme.proofs.covered.extreme_or_slopes.Goals as goal

pub new-requires-clause-components : goal.new-requires-clause-components
new-requires-clause-components c =
    subst (All (λ k. k < c.args.cover.count)) (sym c.as_slice-2.ensures.value)
    (numbers_below c.args.shape.now.order (IsTight c.args.shape.now) c.args.cover
    c.in_ok-component.component.items c.requires.cover
    (c.in_ok-component.ensures ∙ c.as_slice.ensures))

pub rows_of-requires-clause-components : goal.rows_of-requires-clause-components
rows_of-requires-clause-components c =
    ap length (c.in_ok-system.ensures.component ∙ c.as_slice-2.ensures.value)
    ∙ numbers_length c.args.shape.now.order (IsTight c.args.shape.now) c.args.cover
    c.in_ok-component.component.items c.requires.cover
    (c.in_ok-component.ensures ∙ c.as_slice.ensures)

pub extreme_or_kernel-requires-clause-covered : goal.extreme_or_kernel-requires-clause-covered
extreme_or_kernel-requires-clause-covered c =
    let f = c.args.shape.now in
    let covered = are_all_covered f c.args.cover c.in_ok-component.component.items c.requires.cover
    (c.in_ok-component.ensures ∙ c.as_slice.ensures) in
    subst (λ m. AreAllCovered f c.args.cover.lines (component_in c.as_slice-in-Ok.result.now) m)
    (sym (c.in-Ok.ensures.rows.width ∙ c.in_ok-system.ensures.columns))
    (subst (λ xs. AreAllCovered f c.args.cover.lines (component_in xs) c.args.cover.count)
    (sym c.as_slice-in-Ok.ensures.value) covered)

pub returns-in_err-component : goal.returns-in_err-component
returns-in_err-component c =
    memory_decision c.args.shape.now c.from_residual.result c.in_err-component.field-0.0
    c.from_residual.ensures.0 c.from_residual.ensures.1

pub returns-in_err-system : goal.returns-in_err-system
returns-in_err-system c =
    memory_decision c.args.shape.now c.from_residual-in_err-system.result c.in_err-system.field-0.0
    c.from_residual-in_err-system.ensures.0
    c.from_residual-in_err-system.ensures.1
