use Rattle.std.proofs.Common.{pos, sym, subst, subst₂, arith}
use Rattle.gj_family.specs.Families.{IsHalf}
use Rattle.gj_shape.specs.Entries.{HasEntries}
use Rattle.gj_family.specs.Numerators.{doubled_value}
use Rattle.gj_shape.proofs.ListEntries.{entries_small}
use Rattle.gj_family.proofs.Shapes.{doubled_small, half_over}
use Rattle.gj_family.proofs.halves.half.Goals as goal

pub shape_over-requires-clause-limits_small : goal.shape_over-requires-clause-limits_small
shape_over-requires-clause-limits_small c =
    let entries = subst (HasEntries (λ _. pos 1) c.in_ok-order.order)
    (sym c.as_slice.ensures.value) c.in_ok-limits.ensures in
    entries_small (λ _. pos 1) c.in_ok-order.order 2 _ entries (λ i below. omega arith)

pub shape_over-requires-clause-values_small : goal.shape_over-requires-clause-values_small
shape_over-requires-clause-values_small c =
    let k = c.in_ok-order.place in
    let entries = subst (HasEntries (doubled_value k) c.in_ok-order.order)
    (sym c.as_slice-2.ensures.value) c.in_ok-values.ensures in
    entries_small (doubled_value k) c.in_ok-order.order 2 _ entries (λ i below. doubled_small k i)

pub returns-clause-closed_form : goal.returns-clause-closed_form
returns-clause-closed_form c =
    let q = c.in_ok-order.order in
    let k = c.in_ok-order.place in
    let low = c.in_ok-order.ensures.place_fits.0 in
    let ones = subst (HasEntries (λ _. pos 1) q)
    (sym c.as_slice.ensures.value) c.in_ok-limits.ensures in
    let entries = subst (HasEntries (doubled_value k) q)
    (sym c.as_slice-2.ensures.value) c.in_ok-values.ensures in
    subst₂ (λ a b. IsHalf a b c.in_ok-shape_over.field-0) c.in_ok-order.ensures.order
    c.in_ok-order.ensures.place
    (half_over q k c.as_slice.result.now c.as_slice-2.result.now c.in_ok-shape_over.field-0
    (omega arith)
    c.in_ok-order.ensures.place_fits.1 ones entries c.in_ok-shape_over.ensures)
