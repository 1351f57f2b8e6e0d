use Rattle.std.proofs.Common.{◌≡◌, ◌+◌, ◌++◌, ◌∷◌, [], map, ◌+ℤ◌, ◌*ℤ◌, pos, get_or, w64, sym, ap₂, ◌∙◌, rules}
use Rattle.std.specs.List.{range_with_len}
use Rattle.std.proofs.Math.Nat.{zero-add}
use Rattle.std.proofs.lemmas.Int.{to_z-of_z}
use Rattle.std.proofs.lemmas.List.FromFn.{map-range_with_len_more}
use Rattle.gj_shape.specs.Refinement.{refined}
use Rattle.gj_perturb.proofs.MovedEntries.{wide}
use Rattle.gj_limit_halves.specs.Moves.{moved_at}
use Rattle.gj_limit_halves.proofs.moved.moved.Goals as goal
use mir.Syntax.{w128}

pub loop-i-preserved : goal.loop-i-preserved
loop-i-preserved c =
    let f = c.args.shape.now in
    let i = c.loop-i.i in
    let factor = wide c.args.factor in
    let step = wide c.args.step in
    let entry = refined f c.args.entries.now c.args.times i in
    let number = get_or c.args.numbers.now i (pos 0) in
    let entry_read : wide c.from.result ≡ entry =
    to_z-of_z w128 c.from.result (search rules) ∙ c.from.ensures
    ∙ to_z-of_z w64 c.refined_entry-entry.result (search rules)
    ∙ c.refined_entry-entry.ensures in
    let number_read : wide number ≡ number = to_z-of_z w128 number (search rules) in
    let t = moved_at f c.args.entries.now c.args.times factor step c.args.numbers.now in
    let next : wide c.moved_entry.result ≡ t i =
    to_z-of_z w128 c.moved_entry.result (search rules) ∙ c.moved_entry.ensures
    ∙ ap₂ (λ x y. factor *ℤ x +ℤ step *ℤ y) entry_read number_read in
    let more : map t (range_with_len 0 i) ++ t i ∷ [] ≡ map t (range_with_len 0 (i + 1)) =
    sym (map-range_with_len_more t 0 i i (zero-add i)) in
    rw (c.in_ok-push.ensures.items, c.loop-i.invariant, next) more
