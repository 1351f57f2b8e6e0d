use Rattle.std.proofs.Common.{◌≡◌, ◌*ℤ◌, int_div, ap, ◌∙◌, rules, subst}
use Rattle.std.proofs.lemmas.Int.{quot_is, quot_fits, to_z-of_z}
use Rattle.gj_frac.proofs.Reduced.{quotient_of_divisor}
use Rattle.gj_frac.proofs.parts.quotient.Goals as goal
use mir.Syntax.{w128, w64}
use mir.Val.{SFits}

pub returns-in_default : goal.returns-in_default
returns-in_default c =
    ap (λ z. z *ℤ c.args.divisor) (quot_is w128 c.args.n c.args.divisor c.ranges.n c.ranges.divisor
    (quot_fits w128 c.args.n c.args.divisor c.ranges.n c.requires.positive))
    ∙ quotient_of_divisor c.args.n c.args.divisor c.requires.divides

pub returns-in-Ok-Ok : goal.returns-in-Ok-Ok
returns-in-Ok-Ok c =
    let n = to_z-of_z w128 c.args.n c.ranges.n in
    let divisor = to_z-of_z w128 c.args.divisor c.ranges.divisor in
    let n_fits : SFits w64 c.args.n = subst (SFits w64) n c.in-Ok-Ok.ensures.0 in
    let divisor_fits : SFits w64 c.args.divisor = subst (SFits w64) divisor c.in-Ok-Ok.ensures'.0 in
    let n_is : c.in-Ok-Ok.n ≡ c.args.n = c.in-Ok-Ok.ensures.1 ∙ n in
    let divisor_is : c.in-Ok-Ok.divisor ≡ c.args.divisor = c.in-Ok-Ok.ensures'.1 ∙ divisor in
    let small = quot_is w64 c.args.n c.args.divisor n_fits divisor_fits
    (quot_fits w64 c.args.n c.args.divisor n_fits c.requires.positive) in
    let is : c.from.result ≡ int_div c.args.n c.args.divisor =
    simp (n_is, divisor_is) at c.from.ensures ∙ small in
    ap (λ z. z *ℤ c.args.divisor) (to_z-of_z w128 c.from.result (search rules) ∙ is)
    ∙ quotient_of_divisor c.args.n c.args.divisor c.requires.divides
