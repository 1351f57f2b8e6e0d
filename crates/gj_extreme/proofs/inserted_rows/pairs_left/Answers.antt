use Rattle.std.proofs.Common.{length, sym, subst, ◌-◌, ◌<◌, arith}
use Rattle.std.proofs.lemmas.List.{get_or_default}
use Rattle.gj_shape.specs.SlopeRows.{component_in}
use Rattle.gj_extreme.specs.PairsLeft.{AreIntervalsOf, ArePairsLeft}
use Rattle.gj_extreme.proofs.IntervalSets.{whole_row, part_of_row, pair_beside, pair_two_beside}
use Rattle.gj_extreme.proofs.inserted_rows.pairs_left.Goals as goal

pub returns-then-a-lt3 : goal.returns-then-a-lt3
returns-then-a-lt3 c =
    whole_row c.args.pairs.now (component_in c.args.system.now.component) c.args.a
    c.row-row.result.now
    (record { tells = c.row-row.ensures.tells; within = c.row-row.ensures.within })

pub returns-then-last-other : goal.returns-then-last-other
returns-then-last-other c =
    let component = component_in c.component-component.result.now in
    let is = c.component-component.ensures in
    let given = subst (λ xs. AreIntervalsOf (component_in xs) c.args.pairs.now.order
    c.args.intervals.now) (sym is) c.requires.intervals in
    let within = c.if-last-intervals.false in
    let below : component (c.args.a - 1) < length c.args.intervals.now = omega arith in
    subst (λ xs. ArePairsLeft c.args.pairs.now (component_in xs) c.args.a c.and_not-left.result) is
    (part_of_row c.args.pairs.now component c.args.a c.row-row.result.now c.and.result
    c.and_not-left.result
    (whole_row c.args.pairs.now component c.args.a c.row-row.result.now
    (record { tells = c.row-row.ensures.tells; within = c.row-row.ensures.within }))
    (pair_beside c.args.pairs.now component c.args.a c.args.intervals.now c.row.result.now
    c.down.result _ c.and.result (omega arith) below
    (sym (get_or_default _ _ _ _ below)) given
    (record { tells = c.row.ensures.tells; within = c.row.ensures.within }) c.down.ensures
    c.and.ensures) c.and_not-left.ensures)

pub returns : goal.returns
returns c =
    let component = component_in c.component-component.result.now in
    let is = c.component-component.ensures in
    let given = subst (λ xs. AreIntervalsOf (component_in xs) c.args.pairs.now.order
    c.args.intervals.now) (sym is) c.requires.intervals in
    let last_within = c.if-last-intervals.false in
    let last_below : component (c.args.a - 1) < length c.args.intervals.now = omega arith in
    let other_within = c.if-other-intervals.false in
    let other_below : component (c.args.a - 2) < length c.args.intervals.now = omega arith in
    let left = part_of_row c.args.pairs.now component c.args.a c.row-row.result.now c.and.result
    c.and_not-left.result
    (whole_row c.args.pairs.now component c.args.a c.row-row.result.now
    (record { tells = c.row-row.ensures.tells; within = c.row-row.ensures.within }))
    (pair_beside c.args.pairs.now component c.args.a c.args.intervals.now c.row.result.now
    c.down.result _ c.and.result (omega arith)
    last_below (sym (get_or_default _ _ _ _ last_below)) given
    (record { tells = c.row.ensures.tells; within = c.row.ensures.within })
    c.down.ensures c.and.ensures) c.and_not-left.ensures in
    subst (λ xs. ArePairsLeft c.args.pairs.now (component_in xs) c.args.a c.and_not.result) is
    (part_of_row c.args.pairs.now component c.args.a c.and_not-left.result c.and-3.result
    c.and_not.result left
    (pair_two_beside c.args.pairs.now component c.args.a c.args.intervals.now c.row-2.result.now
    c.down-2.result _ c.and-2.result
    c.down-moved.result _ c.and-3.result (omega arith) last_below
    (sym (get_or_default _ _ _ _ last_below)) other_below
    (sym (get_or_default _ _ _ _ other_below)) given
    (record { tells = c.row-2.ensures.tells; within = c.row-2.ensures.within })
    c.down-2.ensures c.and-2.ensures c.down-moved.ensures c.and-3.ensures) c.and_not.ensures)
