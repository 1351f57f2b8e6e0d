use Rattle.std.proofs.Common.{ℕ, ◌+◌, ◌%◌, ◌^◌, length, sym, ap, ap₂, subst, ◌∙◌, arith}
use Rattle.gj_shape.specs.SlopeRows.{row_of as row_entries, component_in}
use Rattle.gj_theory.proofs.RiseCounts.{HasSubtracted, all_added_small, zeros_small, row_of_one, row_of_three}
use Rattle.gj_system.proofs.system_row.fill.Goals as goal

pub add_rises-requires-in-Pair-2-clause-small : goal.add_rises-requires-in-Pair-2-clause-small
add_rises-requires-in-Pair-2-clause-small c =
    all_added_small (component_in c.args.component.now) c.in-Pair.a 1
    (2 ^ 100) c.args.row.now c.add_rises-in-Pair.new.row
    record { at = c.add_rises-in-Pair.ensures } c.add_rises-in-Pair.auto.row
    (zeros_small c.args.row.now 1 c.requires.zeros (omega arith))
    (omega arith)

pub subtract_rises-requires-clause-small : goal.subtract_rises-requires-clause-small
subtract_rises-requires-clause-small c =
    all_added_small (component_in c.args.component.now) c.in-Pair.b (2 ^ 65)
    (2 ^ 100) c.add_rises-in-Pair.new.row c.add_rises-in-Pair-2.new.row
    record { at = c.add_rises-in-Pair-2.ensures } c.add_rises-in-Pair-2.auto.row
    (all_added_small (component_in c.args.component.now) c.in-Pair.a 1
    (2 ^ 65) c.args.row.now c.add_rises-in-Pair.new.row
    record { at = c.add_rises-in-Pair.ensures } c.add_rises-in-Pair.auto.row
    (zeros_small c.args.row.now 1 c.requires.zeros (omega arith))
    (omega arith))
    (omega arith)

pub returns-in-Period : goal.returns-in-Period
returns-in-Period c =
    row_of_one (component_in c.args.component.now) (length c.args.component.now) c.args.row.now
    c.add_rises.new.row
    record { at = c.add_rises.ensures } c.add_rises.auto.row c.requires.zeros
    ∙ ap (row_entries (component_in c.args.component.now) (length c.args.row.now)
    (length c.args.component.now) c.args.place) (sym c.in-Period.is)

pub returns-in-F : goal.returns-in-F
returns-in-F c =
    row_of_one (component_in c.args.component.now) c.args.place c.args.row.now
    c.add_rises-in-F.new.row
    record { at = c.add_rises-in-F.ensures } c.add_rises-in-F.auto.row c.requires.zeros
    ∙ ap (row_entries (component_in c.args.component.now) (length c.args.row.now)
    (length c.args.component.now) c.args.place) (sym c.in-F.is)

pub returns-in-Pair : goal.returns-in-Pair
returns-in-Pair c =
    let sum = ap₂ (λ m n. (m + n) % length c.args.component.now) c.from.ensures
    c.from-in-Pair.ensures in
    row_of_three (component_in c.args.component.now) c.in-Pair.a c.in-Pair.b
    ((c.in-Pair.a + c.in-Pair.b) % length c.args.component.now)
    c.args.row.now c.add_rises-in-Pair.new.row c.add_rises-in-Pair-2.new.row
    c.subtract_rises.new.row
    record { at = c.add_rises-in-Pair.ensures } c.add_rises-in-Pair.auto.row
    record { at = c.add_rises-in-Pair-2.ensures } c.add_rises-in-Pair-2.auto.row
    (subst (λ (s : ℕ). HasSubtracted
    (component_in c.args.component.now) s c.add_rises-in-Pair-2.new.row
    c.subtract_rises.new.row) sum
    record { at = c.subtract_rises.ensures }) c.subtract_rises.auto.row c.requires.zeros
    ∙ ap (row_entries (component_in c.args.component.now) (length c.args.row.now)
    (length c.args.component.now) c.args.place) (sym c.in-Pair.is)
