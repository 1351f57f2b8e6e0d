use Rattle.std.proofs.Common.{◌≡◌, ◌++◌, ◌∷◌, [], map, take, get_or, ◌+◌, w64, to_z, of_z, sym, ap, ◌∙◌, arith, rules}
use Rattle.std.proofs.lemmas.Int.{to_z-of_z}
use Rattle.std.proofs.lemmas.List.{map_more}
use Rattle.gj_shape.specs.Given.{numerator_over as over_scale}
use Rattle.gj_shape.proofs.numerators.numerators.Goals as goal

pub numerator_over-requires-clause-multiple : goal.numerator_over-requires-clause-multiple
numerator_over-requires-clause-multiple c =
    rw c.x-item.is (c.requires.common c.loop-x.x-index c.x-item.result c.loop-x-test.true)

pub loop-x-preserved : goal.loop-x-preserved
loop-x-preserved c =
    let n = c.loop-x.x-index in
    let xs = c.args.xs.now in
    let f = over_scale c.args.scale in
    let read : to_z w64 (of_z w64 c.numerator_over.result) ≡ c.numerator_over.result =
    to_z-of_z w64 c.numerator_over.result (search rules) in
    let next = read ∙ c.numerator_over.ensures ∙ ap f c.x-item.is in
    let more : map f (take n xs) ++ f (get_or xs n c.x-item.result) ∷ [] ≡ map f (take (n + 1) xs) =
    sym (map_more f xs n c.x-item.result c.loop-x-test.true) in (
      rw (c.push_reserved.ensures.items, c.loop-x.invariant.0, next) more,
      omega (arith, c.push_reserved.ensures.len, c.loop-x.invariant.1),
      omega (arith, c.push_reserved.ensures.capacity, c.loop-x.invariant.2),
    )
