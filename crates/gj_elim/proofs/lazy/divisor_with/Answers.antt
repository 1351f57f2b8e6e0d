use Rattle.std.proofs.Common.{ap, ◌∙◌, ◌^◌, unsigned_abs}
use Rattle.std.proofs.lemmas.Int.{to_z-of_z}
use mir.Syntax.{w64}
use Rattle.gj_elim.proofs.SmallDivisors.{gcd_low, gcd_swapped, fits_below}
use Rattle.gj_elim.proofs.lazy.divisor_with.Goals as goal

pub returns-clause-value : goal.returns-clause-value
returns-clause-value c =
    gcd_swapped c.from.result c.from-2.result (unsigned_abs c.args.x) c.args.divisor c.gcd.result
    (c.from.ensures ∙ c.unsigned_abs.ensures.value
    ∙ ap unsigned_abs (to_z-of_z w64 c.args.x c.ranges.x)) c.from-2.ensures c.gcd.ensures

pub returns-clause-small : goal.returns-clause-small
returns-clause-small c =
    gcd_low c.args.divisor (unsigned_abs c.args.x) c.gcd.result (2 ^ 63)
    (gcd_swapped c.from.result c.from-2.result (unsigned_abs c.args.x) c.args.divisor c.gcd.result
    (c.from.ensures ∙ c.unsigned_abs.ensures.value
    ∙ ap unsigned_abs (to_z-of_z w64 c.args.x c.ranges.x)) c.from-2.ensures c.gcd.ensures)
    c.requires.divisor c.requires.small

pub overflow_cast-result : goal.overflow_cast-result
overflow_cast-result c =
    let small = gcd_low c.args.divisor (unsigned_abs c.args.x) c.gcd.result (2 ^ 63)
    (gcd_swapped c.from.result c.from-2.result (unsigned_abs c.args.x) c.args.divisor c.gcd.result
    (c.from.ensures ∙ c.unsigned_abs.ensures.value
    ∙ ap unsigned_abs (to_z-of_z w64 c.args.x c.ranges.x)) c.from-2.ensures c.gcd.ensures)
    c.requires.divisor c.requires.small in
    fits_below c.gcd.result small
