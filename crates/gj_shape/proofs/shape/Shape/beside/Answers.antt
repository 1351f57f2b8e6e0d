use Rattle.std.proofs.Common.{◌≡◌, ◌<◌, ◌+◌, ◌-◌, ◌%◌, pos, ◌*ℤ◌, ◌+ℤ◌, length, get_or, w64, to_z, of_z, ap, ap₂, sym, ◌∙◌, rules, arith}
use Rattle.std.proofs.lemmas.Int.{to_z-of_z}
use Rattle.gj_shape.proofs.ValueLemmas.{entry_of_list, entry_of_limits, nothing_remains}
use Rattle.gj_shape.proofs.shape.Shape.beside.Goals as goal

pub returns-then-remainder-eq0 : goal.returns-then-remainder-eq0
returns-then-remainder-eq0 c m below =
    let f = c.args.self.now in
    let i = c.args.index in
    let r = c.args.remainder in
    let read : to_z w64 (of_z w64 (get_or c.value_numerators.result.now i (pos 0)))
    ≡ get_or f.value i (pos 0) =
    to_z-of_z w64 _ (search rules)
    ∙ ap (λ xs. get_or xs i (pos 0)) c.value_numerators.ensures.value in
    let limits = c.value_numerators.ensures.limits in
    let within : i < length f.value = omega (arith, limits.value_length, c.requires.index) in
    entry_of_list f f.value m i r c.if-remainder-eq0.true within ∙ ap (λ z. pos m *ℤ z) (sym read)
    ∙ nothing_remains m r _ c.if-remainder-eq0.true

pub returns : goal.returns
returns c m below =
    let f = c.args.self.now in
    let i = c.args.index in
    let r = c.args.remainder in
    let start : to_z w64 (of_z w64 (get_or c.right_numerators.result.now i (pos 0)))
    ≡ get_or f.right i (pos 0) =
    to_z-of_z w64 _ (search rules)
    ∙ ap (λ xs. get_or xs i (pos 0)) c.right_numerators.ensures.value in
    let behind : c.place_behind-next.result ≡ (i + 1) % f.order = c.place_behind-next.ensures
    ∙ ap (λ n. (i + 1) % n) c.order.ensures.value in
    let end : to_z w64 (of_z w64
    (get_or c.left_numerators.result.now c.place_behind-next.result (pos 0))) ≡ get_or f.left
    ((i + 1) % f.order) (pos 0) =
    to_z-of_z w64 _ (search rules)
    ∙ ap₂ (λ xs n. get_or xs n (pos 0)) c.left_numerators.ensures.value behind in
    entry_of_limits f f.value m i r c.order.ensures.limits (omega arith) c.requires.index
    ∙ sym (ap₂ (λ x y. pos (m - r) *ℤ x +ℤ pos r *ℤ y) start end)
