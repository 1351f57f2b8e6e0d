use Rattle.std.proofs.Common.{rules, unsigned_abs, ◌∙◌}
use Rattle.std.proofs.lemmas.Int.{to_z-of_z}
use Rattle.gj_lemmas.proofs.Divisors.{gcd_exists}
use Rattle.gj_frac.proofs.Sums.{common_some, difference_is}
use Rattle.gj_frac.proofs.Refusals.{difference_together}
use Rattle.gj_frac.proofs.operators.FracSub.sub.Goals as goal
use mir.Syntax.{w128}

pub difference-requires : goal.difference-requires
difference-requires c =
    let (g, h) = gcd_exists (unsigned_abs c.args.self.den) (unsigned_abs c.args.other.den) in
    let first = to_z-of_z w128 c.over_common_denominator-first.result.first (search rules)
    ∙ c.over_common_denominator-first.ensures.first g h in
    let second = to_z-of_z w128 c.over_common_denominator-first.result.second (search rules)
    ∙ c.over_common_denominator-first.ensures.second g h in
    simp (first, second) ((c.requires g h).difference)

pub reduced-requires-clause-zero : goal.reduced-requires-clause-zero
reduced-requires-clause-zero c =
    let (g, h) = gcd_exists (unsigned_abs c.args.self.den) (unsigned_abs c.args.other.den) in
    let bottom = to_z-of_z w128 c.over_common_denominator-first.result.bottom (search rules)
    ∙ c.over_common_denominator-first.ensures.bottom g h in
    simp bottom (common_some c.args.self c.args.other g h)

pub reduced-requires-clause-num_fits : goal.reduced-requires-clause-num_fits
reduced-requires-clause-num_fits c =
    let (g, h) = gcd_exists (unsigned_abs c.args.self.den) (unsigned_abs c.args.other.den) in
    let first = to_z-of_z w128 c.over_common_denominator-first.result.first (search rules)
    ∙ c.over_common_denominator-first.ensures.first g h in
    let second = to_z-of_z w128 c.over_common_denominator-first.result.second (search rules)
    ∙ c.over_common_denominator-first.ensures.second g h in
    let difference = to_z-of_z w128 c.difference.result (search rules)
    ∙ simp (first, second) at c.difference.ensures in
    simp difference ((c.requires g h).difference)

pub reduced-requires-clause-den_fits : goal.reduced-requires-clause-den_fits
reduced-requires-clause-den_fits c =
    let (g, h) = gcd_exists (unsigned_abs c.args.self.den) (unsigned_abs c.args.other.den) in
    let bottom = to_z-of_z w128 c.over_common_denominator-first.result.bottom (search rules)
    ∙ c.over_common_denominator-first.ensures.bottom g h in
    simp bottom ((c.requires g h).bottom)

pub returns : goal.returns
returns c =
    let (g, h) = gcd_exists (unsigned_abs c.args.self.den) (unsigned_abs c.args.other.den) in
    let first = to_z-of_z w128 c.over_common_denominator-first.result.first (search rules)
    ∙ c.over_common_denominator-first.ensures.first g h in
    let second = to_z-of_z w128 c.over_common_denominator-first.result.second (search rules)
    ∙ c.over_common_denominator-first.ensures.second g h in
    let bottom = to_z-of_z w128 c.over_common_denominator-first.result.bottom (search rules)
    ∙ c.over_common_denominator-first.ensures.bottom g h in
    let difference = to_z-of_z w128 c.difference.result (search rules)
    ∙ simp (first, second) at c.difference.ensures in
    difference_is c.args.self c.args.other g c.reduced.result.num c.reduced.result.den h
    (simp (difference, bottom) at c.reduced.ensures)

pub over_common_denominator-first-requires : goal.over_common_denominator-first-requires
over_common_denominator-first-requires c = difference_together c.args.self c.args.other c.requires
