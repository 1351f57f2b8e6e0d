use Rattle.std.proofs.Common.{pos, sym, subst, subst₂, arith}
use Rattle.gj_shape.specs.Gmic.{gmic_table, gmic_scale}
use Rattle.gj_family.specs.Families.{IsGmic}
use Rattle.gj_shape.specs.Entries.{HasEntries}
use Rattle.gj_shape.proofs.ListEntries.{entries_small}
use Rattle.gj_family.proofs.Shapes.{gmic_small, gmic_over}
use Rattle.gj_family.proofs.mixed_integer.gmic.Goals as goal

pub shape_over-requires-clause-limits_small : goal.shape_over-requires-clause-limits_small
shape_over-requires-clause-limits_small c =
    let q = c.in_ok-order.order in
    let k = c.in_ok-order.place in
    let entries : HasEntries (λ i. pos (gmic_table q k i)) q c.as_slice-values.result.now =
    subst (HasEntries (λ i. pos (gmic_table q k i)) q)
    (sym c.as_slice-values.ensures.value) c.in_ok-entries.ensures in
    entries_small (λ i. pos (gmic_table q k i)) q (gmic_scale q k) _ entries
    (λ i below. gmic_small q k i c.in_ok-order.ensures.place_fits.1 below)

pub shape_over-requires-clause-values_small : goal.shape_over-requires-clause-values_small
shape_over-requires-clause-values_small c = shape_over-requires-clause-limits_small c

pub returns-clause-closed_form : goal.returns-clause-closed_form
returns-clause-closed_form c =
    let q = c.in_ok-order.order in
    let k = c.in_ok-order.place in
    let low = c.in_ok-order.ensures.place_fits.0 in
    let entries : HasEntries (λ i. pos (gmic_table q k i)) q c.as_slice-values.result.now =
    subst (HasEntries (λ i. pos (gmic_table q k i)) q)
    (sym c.as_slice-values.ensures.value) c.in_ok-entries.ensures in
    subst₂ (λ a b. IsGmic a b c.in_ok-shape_over.field-0) c.in_ok-order.ensures.order
    c.in_ok-order.ensures.place
    (gmic_over q k c.as_slice-values.result.now c.in_ok-shape_over.field-0
    (omega arith) c.in_ok-order.ensures.place_fits.1 entries
    c.in_ok-shape_over.ensures)
