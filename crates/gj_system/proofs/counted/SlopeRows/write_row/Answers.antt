use Rattle.std.proofs.Common.{◌≡◌, ◌<◌, ◌+◌, ◌%◌, ◌^◌, length, sym, ap, ap₂, subst, ◌∙◌, arith}
use Rattle.std.specs.Prelude.{All, unsigned_abs}
use Rattle.gj_shape.specs.SlopeRows.{row_of, component_in}
use Rattle.gj_system.specs.Components.{rises_at}
use Rattle.gj_system.proofs.RowCounts.{length-rises_at, row_of_rises, row_of_slacks, entries_small}
use Rattle.gj_system.proofs.counted.SlopeRows.write_row.Goals as goal

pub write_counts-requires : goal.write_counts-requires
write_counts-requires c =
    ap length c.counts_before.ensures
    ∙ length-rises_at (component_in c.args.self.now.component) c.args.self.now.columns
    c.len-order.result ∙ sym c.requires.columns

pub write_counts-requires-in-F : goal.write_counts-requires-in-F
write_counts-requires-in-F c =
    ap length c.counts_before-in-F.ensures
    ∙ length-rises_at (component_in c.args.self.now.component) c.args.self.now.columns c.args.place
    ∙ sym c.requires.columns

pub write_slacks-requires-clause-first : goal.write_slacks-requires-clause-first
write_slacks-requires-clause-first c =
    ap length c.counts_before-in-Pair.ensures
    ∙ length-rises_at (component_in c.args.self.now.component) c.args.self.now.columns c.in-Pair.a
    ∙ sym c.requires.columns

pub write_slacks-requires-clause-second : goal.write_slacks-requires-clause-second
write_slacks-requires-clause-second c =
    ap length c.counts_before-in-Pair-2.ensures
    ∙ length-rises_at (component_in c.args.self.now.component) c.args.self.now.columns c.in-Pair.b
    ∙ sym c.requires.columns

pub write_slacks-requires-clause-third : goal.write_slacks-requires-clause-third
write_slacks-requires-clause-third c =
    ap length c.counts_before-in-Pair-3.ensures
    ∙ length-rises_at (component_in c.args.self.now.component) c.args.self.now.columns
    ((c.from.result + c.from-in-Pair.result) % c.len-order.result) ∙ sym c.requires.columns

pub returns-in-Period-clause-row : goal.returns-in-Period-clause-row
returns-in-Period-clause-row c =
    let f = component_in c.args.self.now.component in
    let n = c.args.self.now.columns in
    let order : c.len-order.result ≡ length c.args.self.now.component =
    c.len-order.ensures ∙ c.self.inside.component.ok.0
    ∙ ap (λ v. length v.component) c.self.view_is in
    row_of_rises f n (length c.args.self.now.component) c.counts_before.result.now
    c.write_counts.new.row
    (c.counts_before.ensures ∙ ap (rises_at f n) order)
    (c.write_counts.auto.row ∙ c.requires.columns)
    (λ i below. c.write_counts.ensures i (omega (arith, c.requires.columns)))
    ∙ ap (row_of f n (length c.args.self.now.component) c.args.place) (sym c.in-Period.is)

pub returns-in-Period-clause-small : goal.returns-in-Period-clause-small
returns-in-Period-clause-small c =
    let order : c.len-order.result ≡ length c.args.self.now.component =
    c.len-order.ensures ∙ c.self.inside.component.ok.0
    ∙ ap (λ v. length v.component) c.self.view_is in
    subst (All (λ x. unsigned_abs x < 2 ^ 127)) (sym (returns-in-Period-clause-row c))
    (entries_small (component_in c.args.self.now.component) c.args.self.now.columns
    (length c.args.self.now.component) c.args.place
    c.args.name (omega arith) c.requires.place_within c.requires.name_within)

pub returns-in-F-clause-row : goal.returns-in-F-clause-row
returns-in-F-clause-row c =
    let f = component_in c.args.self.now.component in
    let n = c.args.self.now.columns in
    row_of_rises f n c.args.place c.counts_before-in-F.result.now c.write_counts-in-F.new.row
    c.counts_before-in-F.ensures (c.write_counts-in-F.auto.row ∙ c.requires.columns)
    (λ i below. c.write_counts-in-F.ensures i (omega (arith, c.requires.columns)))
    ∙ ap (row_of f n (length c.args.self.now.component) c.args.place) (sym c.in-F.is)

pub returns-in-F-clause-small : goal.returns-in-F-clause-small
returns-in-F-clause-small c =
    let order : c.len-order.result ≡ length c.args.self.now.component =
    c.len-order.ensures ∙ c.self.inside.component.ok.0
    ∙ ap (λ v. length v.component) c.self.view_is in
    subst (All (λ x. unsigned_abs x < 2 ^ 127)) (sym (returns-in-F-clause-row c))
    (entries_small (component_in c.args.self.now.component) c.args.self.now.columns
    (length c.args.self.now.component) c.args.place
    c.args.name (omega arith) c.requires.place_within c.requires.name_within)

pub returns-in-Pair-clause-row : goal.returns-in-Pair-clause-row
returns-in-Pair-clause-row c =
    let f = component_in c.args.self.now.component in
    let n = c.args.self.now.columns in
    let order : c.len-order.result ≡ length c.args.self.now.component =
    c.len-order.ensures ∙ c.self.inside.component.ok.0
    ∙ ap (λ v. length v.component) c.self.view_is in
    let sum = ap₂ (λ x y. (x + y) % c.len-order.result) c.from.ensures c.from-in-Pair.ensures
    ∙ ap (λ q. (c.in-Pair.a + c.in-Pair.b) % q) order in
    row_of_slacks f n c.in-Pair.a c.in-Pair.b
    ((c.in-Pair.a + c.in-Pair.b) % length c.args.self.now.component)
    c.counts_before-in-Pair.result.now c.counts_before-in-Pair-2.result.now
    c.counts_before-in-Pair-3.result.now c.write_slacks.new.row
    c.counts_before-in-Pair.ensures c.counts_before-in-Pair-2.ensures
    (c.counts_before-in-Pair-3.ensures ∙ ap (rises_at f n) sum)
    (c.write_slacks.auto.row ∙ c.requires.columns)
    (λ i below. c.write_slacks.ensures i (omega (arith, c.requires.columns)))
    ∙ ap (row_of f n (length c.args.self.now.component) c.args.place) (sym c.in-Pair.is)

pub returns-in-Pair-clause-small : goal.returns-in-Pair-clause-small
returns-in-Pair-clause-small c =
    let order : c.len-order.result ≡ length c.args.self.now.component =
    c.len-order.ensures ∙ c.self.inside.component.ok.0
    ∙ ap (λ v. length v.component) c.self.view_is in
    subst (All (λ x. unsigned_abs x < 2 ^ 127)) (sym (returns-in-Pair-clause-row c))
    (entries_small (component_in c.args.self.now.component) c.args.self.now.columns
    (length c.args.self.now.component) c.args.place
    c.args.name (omega arith) c.requires.place_within c.requires.name_within)
