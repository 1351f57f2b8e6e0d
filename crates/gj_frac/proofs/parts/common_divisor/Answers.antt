use Rattle.std.proofs.Common.{◌≡◌, ◌∙◌, pos, unsigned_abs, ap, sym, refl, arith, to_z}
use Rattle.std.specs.Int.{IsGcd}
use Rattle.std.proofs.lemmas.Int.{to_z-of_z, ints}
use Rattle.gj_frac.proofs.Reduced.{divisor_of_positive, gcd_along}
use Rattle.gj_frac.proofs.parts.common_divisor.Goals as goal
use mir.Syntax.{w128}

-- the divisor of the absolute values
divisor : (c : goal.After-gcd) → IsGcd (unsigned_abs c.args.n) (unsigned_abs c.args.d) c.gcd.result
divisor c =
    gcd_along _ _ _ _ _ _ (c.unsigned_abs.ensures.value
    ∙ ap unsigned_abs (to_z-of_z w128 c.args.n c.ranges.n))
    (c.unsigned_abs-2.ensures.value ∙ ap unsigned_abs (to_z-of_z w128 c.args.d c.ranges.d)) refl
    c.gcd.ensures

pub overflow_cast-result : goal.overflow_cast-result
overflow_cast-result c = let h = divisor_of_positive _ _ c.requires.zero (divisor c).1 in
    omega (arith, ints)

pub returns-clause-positive : goal.returns-clause-positive
returns-clause-positive c = let h = divisor_of_positive _ _ c.requires.zero (divisor c).1 in
    omega (arith, ints)

pub returns-clause-greatest : goal.returns-clause-greatest
returns-clause-greatest c =
    let h = divisor_of_positive _ _ c.requires.zero (divisor c).1 in
    let same : to_z w128 c.gcd.result ≡ pos c.gcd.result = omega (arith, ints) in
    gcd_along _ _ _ _ _ _ refl refl (sym (ap unsigned_abs same)) (divisor c)
