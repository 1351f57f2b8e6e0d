use Rattle.std.proofs.Common.{◌≡◌, ℤ, ◌+◌, ◌*◌, ◌*ℤ◌, pos, unsigned_abs, to_z, of_z, w64, sym, ap, ap₂, subst, subst₂, refl, ◌∙◌, rules, arith}
use Rattle.std.proofs.lemmas.Int.{to_z-of_z}
use Rattle.gj_frac.specs.Fraction.{IsRatio, numerator, denominator}
use Rattle.gj_lemmas.proofs.Quotients.{parts_of_place}
use Rattle.gj_shape.specs.Table.{table, entry}
use Rattle.gj_shape.specs.Values.{IsCongruent, IsValueAt}
use Rattle.gj_shape.proofs.ValueLemmas.{entry_of_values, value_from_place}
use Rattle.gj_shape.proofs.shape.Shape.small_value_at.Goals as goal
use mir.Syntax.{w128}
use mir.Val.{SFits}

pub returns-clause-value : goal.returns-clause-value
unfolding table
returns-clause-value c v is =
    let f = c.args.self.now in
    let d = c.in-Ok-Ok.den in
    let index = c.small_place-index.result.0 in
    let rest = c.small_place-index.result.1 in
    let place = index * d + rest in
    let limits = c.order.ensures.limits in
    let parts = parts_of_place place index d rest refl c.small_place-index.ensures.remainder in
    let read : pos c.in_ok-numerator.numerator ≡ table f d place =
    c.in_ok-numerator.ensures ∙ entry_of_values f d index rest
    ∙ sym (ap₂ (entry f d) parts.0 parts.1) in
    let number : to_z w128 (of_z w128 c.num.result) ≡ numerator c.args.x =
    to_z-of_z w128 c.num.result (search rules) ∙ c.num.ensures in
    let num : to_z w64 (of_z w64 c.in-Ok-Ok.num) ≡ numerator c.args.x =
    ap (λ z. to_z w64 (of_z w64 z)) (c.in-Ok-Ok.ensures.1 ∙ number)
    ∙ to_z-of_z w64 _ (subst (SFits w64) number c.in-Ok-Ok.ensures.0) in
    let den : d ≡ unsigned_abs (denominator c.args.x) = c.in-Ok-Ok.ensures'.1
    ∙ ap unsigned_abs (to_z-of_z w128 c.den.result (search rules) ∙ c.den.ensures) in
    let scale : unsigned_abs (to_z w128 (of_z w128 c.common_denominator.result)) * c.from.result
    ≡ f.scale * d =
    ap₂ (λ (z : ℤ) m. unsigned_abs z * m) (to_z-of_z w128 c.common_denominator.result (search rules)
    ∙ c.common_denominator.ensures.value) c.from.ensures in
    let congruent : IsCongruent (numerator c.args.x *ℤ pos f.order) (pos place) (f.order * d) =
    subst₂ (λ n q. IsCongruent (n *ℤ pos q) (pos place) (q * d)) num c.order.ensures.value
    c.small_place-index.ensures.congruent in
    subst (λ e. IsValueAt f (numerator c.args.x *ℤ pos f.order) e v) den
    (value_from_place f (numerator c.args.x *ℤ pos f.order) d place v limits (omega arith) congruent
    (subst₂ (λ x y. IsRatio v x y) read (ap pos scale) is))
