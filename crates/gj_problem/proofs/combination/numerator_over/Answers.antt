use Rattle.std.proofs.Common.{rules, ◌≡◌, ◌*ℤ◌, to_z, of_z, sym, ap, ◌∙◌}
use Rattle.std.proofs.lemmas.Int.{to_z-of_z}
use Rattle.gj_frac.proofs.Reduced.{read_part}
use Rattle.gj_lemmas.proofs.Integers.{mul_assoc_z}
use Rattle.gj_problem.proofs.combination.numerator_over.Goals as goal
use mir.Syntax.{w128}

pub returns-in-Ok : goal.returns-in-Ok
returns-in-Ok c =
    let x = c.args.x in
    let k = c.in_ok-scale.scale in
    let top : to_z w128 (of_z w128 c.num-2.result) ≡ x.num =
    ap (λ z. to_z w128 (of_z w128 z)) c.num-2.ensures ∙ read_part x.num x.lowest.num_fits in
    let bottom : to_z w128 (of_z w128 c.den-d.result) ≡ x.den =
    ap (λ z. to_z w128 (of_z w128 z)) c.den-d.ensures ∙ read_part x.den x.lowest.den_fits in
    let common = to_z-of_z w128 c.args.denominator c.ranges.denominator in
    let scale = to_z-of_z w128 c.in_ok-scale.scale (search rules) in
    let n_is : c.in-Ok.numerator ≡ x.num *ℤ k = simp (top, scale) at c.in-Ok.ensures.1 in
    let k_is : k *ℤ x.den ≡ c.args.denominator = simp (bottom, common) at c.in_ok-scale.ensures in
    ap (λ z. x.num *ℤ z) (sym k_is) ∙ sym (mul_assoc_z x.num k x.den)
    ∙ ap (λ z. z *ℤ x.den) (sym n_is ∙ sym (to_z-of_z w128 c.in-Ok.numerator (search rules)))
