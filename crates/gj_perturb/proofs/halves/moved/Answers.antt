use Rattle.std.proofs.Common.{◌≡◌, ◌+◌, ◌++◌, ◌∷◌, [], map, ◌+ℤ◌, ◌*ℤ◌, pos, get_or, w64, sym, ap₂, ◌∙◌, rules}
use Rattle.std.specs.List.{range_with_len}
use Rattle.std.proofs.Math.Nat.{zero-add}
use Rattle.std.proofs.lemmas.Int.{to_z-of_z}
use Rattle.std.proofs.lemmas.List.FromFn.{map-range_with_len_more}
use Rattle.gj_perturb.specs.Moves.{moved_at}
use Rattle.gj_perturb.proofs.MovedEntries.{wide}
use Rattle.gj_perturb.proofs.halves.moved.Goals as goal
use mir.Syntax.{w128}

pub moved_entry-requires : goal.moved_entry-requires
moved_entry-requires c =
    let i = c.loop-i.i in
    let entry = get_or c.args.table.now i (pos 0) in
    let value = get_or c.args.values.now i (pos 0) in
    let small = c.requires.small i c.loop-i-test.true in
    let factor_read = to_z-of_z w128 c.args.factor c.ranges.factor in
    let step_read = to_z-of_z w128 c.args.step c.ranges.step in
    let entry_read : wide c.from.result ≡ entry =
    to_z-of_z w128 c.from.result (search rules) ∙ c.from.ensures
    ∙ to_z-of_z w64 entry (search rules) in
    let value_read : wide value ≡ value = to_z-of_z w128 value (search rules) in
    record {
      entry = rw (factor_read, entry_read) small.entry;
      moves = rw (step_read, value_read) small.move;
    }

pub loop-i-preserved : goal.loop-i-preserved
loop-i-preserved c =
    let i = c.loop-i.i in
    let factor = wide c.args.factor in
    let step = wide c.args.step in
    let entry = get_or c.args.table.now i (pos 0) in
    let value = get_or c.args.values.now i (pos 0) in
    let entry_read : wide c.from.result ≡ entry =
    to_z-of_z w128 c.from.result (search rules) ∙ c.from.ensures
    ∙ to_z-of_z w64 entry (search rules) in
    let value_read : wide value ≡ value = to_z-of_z w128 value (search rules) in
    let t = moved_at c.args.table.now factor c.args.values.now step in
    let next : wide c.moved_entry.result ≡ t i =
    to_z-of_z w128 c.moved_entry.result (search rules) ∙ c.moved_entry.ensures
    ∙ ap₂ (λ x y. factor *ℤ x +ℤ step *ℤ y) entry_read value_read in
    let more : map t (range_with_len 0 i) ++ t i ∷ [] ≡ map t (range_with_len 0 (i + 1)) =
    sym (map-range_with_len_more t 0 i i (zero-add i)) in
    rw (c.in_ok-push.ensures.items, c.loop-i.invariant, next) more
