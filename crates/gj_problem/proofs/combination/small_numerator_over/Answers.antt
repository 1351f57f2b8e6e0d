use Rattle.std.proofs.Common.{rules, ◌≡◌, ℤ, pos, ◌*ℤ◌, ◌/◌, to_z, of_z, sym, ap, subst, ◌∙◌}
use Rattle.std.proofs.lemmas.Int.{to_z-of_z}
use Rattle.gj_frac.specs.Fraction.{IsRatio}
use Rattle.gj_frac.proofs.Reduced.{read_part}
use Rattle.gj_lemmas.proofs.Integers.{pos_abs_z}
use Rattle.gj_problem.proofs.Combinations.{small_ratio}
use Rattle.gj_problem.proofs.combination.small_numerator_over.Goals as goal
use mir.Syntax.{w32, w128}

pub returns : goal.returns
returns c =
    let x = c.args.x in
    let common = c.in-Ok.common in
    let d = c.in-Ok-try_from.d in
    let n = to_z w32 (of_z w32 c.in-Ok-try_from-2.n) in
    let bottom : to_z w128 (of_z w128 c.den-2.result) ≡ x.den =
    ap (λ z. to_z w128 (of_z w128 z)) c.den-2.ensures ∙ read_part x.den x.lowest.den_fits in
    let top : to_z w128 (of_z w128 c.num-2.result) ≡ x.num =
    ap (λ z. to_z w128 (of_z w128 z)) c.num-2.ensures ∙ read_part x.num x.lowest.num_fits in
    let common_is : pos common ≡ c.args.denominator =
    ap pos c.in-Ok.ensures.1
    ∙ pos_abs_z (to_z w128 (of_z w128 c.args.denominator)) c.in-Ok.ensures.0.0
    ∙ to_z-of_z w128 c.args.denominator c.ranges.denominator in
    let d_is : pos d ≡ x.den =
    ap pos c.in-Ok-try_from.ensures.1
    ∙ pos_abs_z (to_z w128 (of_z w128 c.den-2.result)) c.in-Ok-try_from.ensures.0.0 ∙ bottom in
    let n_is : n ≡ x.num = to_z-of_z w32 c.in-Ok-try_from-2.n (search rules)
    ∙ c.in-Ok-try_from-2.ensures.1 ∙ top in
    let result_is : to_z w128 (of_z w128 c.short_product.result) ≡ n *ℤ pos (common / d) =
    to_z-of_z w128 c.short_product.result (search rules) ∙ c.short_product.ensures in
    subst (λ (z : ℤ). IsRatio x z c.args.denominator) (sym result_is)
    (small_ratio x c.args.denominator n common d common_is d_is n_is c.if-common-d-ne0.false)
