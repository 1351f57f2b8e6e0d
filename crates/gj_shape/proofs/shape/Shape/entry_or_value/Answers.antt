use Rattle.std.proofs.Common.{◌≡◌, ◌<◌, ◌+◌, ◌-◌, ◌%◌, pos, ◌*ℤ◌, ◌+ℤ◌, length, get_or, w64, to_z, of_z, ap, ap₂, sym, ◌∙◌, rules, arith}
use Rattle.std.proofs.lemmas.Int.{ints, to_z-of_z}
use Rattle.gj_shape.proofs.ValueLemmas.{entry_of_list, entry_of_limits}
use Rattle.gj_shape.proofs.shape.Shape.entry_or_value.Goals as goal
use mir.Syntax.{w128}

pub returns-then-remainder-eq0-clause-value : goal.returns-then-remainder-eq0-clause-value
returns-then-remainder-eq0-clause-value c =
    let xs = c.args.entries.now in
    let within : c.args.index < length xs = omega arith in
    let read : to_z w64 (of_z w64 (get_or xs c.args.index (pos 0)))
    ≡ get_or xs c.args.index (pos 0) = to_z-of_z w64 _ (search rules) in
    to_z-of_z w128 c.weighted.result (search rules) ∙ c.weighted.ensures.value
    ∙ ap (λ z. pos c.args.steps *ℤ z) read
    ∙ sym (entry_of_list c.args.self.now xs c.args.steps c.args.index c.args.remainder
    c.if-remainder-eq0.true within)

pub returns-clause-value : goal.returns-clause-value
returns-clause-value c =
    let f = c.args.self.now in
    let i = c.args.index in
    let m = c.args.steps in
    let r = c.args.remainder in
    let sum : to_z w128 (of_z w128
    (to_z w128 (of_z w128 c.weighted-2.result) +ℤ to_z w128 (of_z w128 c.weighted-3.result)))
    ≡ c.weighted-2.result +ℤ c.weighted-3.result = omega (arith, ints) in
    let start : to_z w64 (of_z w64 (get_or c.right_numerators.result.now i (pos 0)))
    ≡ get_or f.right i (pos 0) =
    to_z-of_z w64 _ (search rules)
    ∙ ap (λ xs. get_or xs i (pos 0)) c.right_numerators.ensures.value in
    let behind : c.place_behind-next.result ≡ (i + 1) % f.order = c.place_behind-next.ensures
    ∙ ap (λ n. (i + 1) % n) c.order.ensures.value in
    let end : to_z w64 (of_z w64
    (get_or c.left_numerators.result.now c.place_behind-next.result (pos 0))) ≡ get_or f.left
    ((i + 1) % f.order) (pos 0) =
    to_z-of_z w64 _ (search rules)
    ∙ ap₂ (λ xs n. get_or xs n (pos 0)) c.left_numerators.ensures.value behind in
    sum ∙ ap₂ (λ x y. x +ℤ y) (c.weighted-2.ensures.value ∙ ap (λ z. pos (m - r) *ℤ z) start)
    (c.weighted-3.ensures.value ∙ ap (λ z. pos r *ℤ z) end)
    ∙ sym (entry_of_limits f c.args.entries.now m i r c.order.ensures.limits
    (omega arith) c.requires.index)
