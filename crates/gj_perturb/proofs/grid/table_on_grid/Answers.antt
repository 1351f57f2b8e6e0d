use Rattle.std.proofs.Common.{◌≡◌, ◌+◌, ◌++◌, ◌∷◌, [], map, w64, to_z, of_z, sym, ◌∙◌, rules}
use Rattle.std.specs.List.{range_with_len}
use Rattle.std.proofs.Math.Nat.{zero-add}
use Rattle.std.proofs.lemmas.Int.{to_z-of_z}
use Rattle.std.proofs.lemmas.List.FromFn.{map-range_with_len_more}
use Rattle.gj_shape.specs.Table.{table}
use Rattle.gj_perturb.proofs.grid.table_on_grid.Goals as goal

pub loop-i-preserved : goal.loop-i-preserved
loop-i-preserved c =
    let i = c.loop-i.i in
    let t = table c.args.shape.now c.args.times in
    let entry : to_z w64 (of_z w64 c.table_entry.result) ≡ t i =
    to_z-of_z w64 c.table_entry.result (search rules) ∙ c.table_entry.ensures in
    let more : map t (range_with_len 0 i) ++ t i ∷ [] ≡ map t (range_with_len 0 (i + 1)) =
    sym (map-range_with_len_more t 0 i i (zero-add i)) in
    rw (c.in_ok-push.ensures.items, c.loop-i.invariant, entry) more
