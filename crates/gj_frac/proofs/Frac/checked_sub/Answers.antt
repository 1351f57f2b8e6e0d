use Rattle.std.proofs.Common.{rules, unsigned_abs, ◌∙◌}
use Rattle.std.proofs.lemmas.Int.{to_z-of_z}
use Rattle.gj_frac.specs.Fits.{FitsDifference}
use Rattle.gj_lemmas.proofs.Divisors.{gcd_exists}
use Rattle.gj_frac.proofs.Refusals.{on_err, difference_from, difference_together}
use Rattle.gj_frac.proofs.Sums.{common_some, difference_is}
use Rattle.gj_frac.proofs.Frac.checked_sub.Goals as goal
use mir.Syntax.{w128}

pub returns-in_err-first-clause-wide : goal.returns-in_err-first-clause-wide
returns-in_err-first-clause-wide c =
    let refused = c.in_err-first.ensures.wide in
    let wide : FitsDifference c.args.self c.args.other →
    ⊥ = λ fits. refused (difference_together c.args.self c.args.other fits) in
    on_err _ _ wide

pub returns-in_err-difference-clause-wide : goal.returns-in_err-difference-clause-wide
returns-in_err-difference-clause-wide c =
    let (g, h) = gcd_exists (unsigned_abs c.args.self.den) (unsigned_abs c.args.other.den) in
    let first = to_z-of_z w128 c.in_ok-first.field-0.first (search rules)
    ∙ c.in_ok-first.ensures.first g h in
    let second = to_z-of_z w128 c.in_ok-first.field-0.second (search rules)
    ∙ c.in_ok-first.ensures.second g h in
    let refused = simp (first, second) at c.in_err-difference.ensures in
    let wide : FitsDifference c.args.self c.args.other →
    ⊥ = λ fits. refused ((fits g h).difference) in
    on_err _ _ wide

pub reduced-requires-clause-zero : goal.reduced-requires-clause-zero
reduced-requires-clause-zero c =
    let (g, h) = gcd_exists (unsigned_abs c.args.self.den) (unsigned_abs c.args.other.den) in
    let bottom = to_z-of_z w128 c.in_ok-first.field-0.bottom (search rules)
    ∙ c.in_ok-first.ensures.bottom g h in
    simp bottom (common_some c.args.self c.args.other g h)

pub reduced-requires-clause-den_fits : goal.reduced-requires-clause-den_fits
reduced-requires-clause-den_fits c =
    let (g, h) = gcd_exists (unsigned_abs c.args.self.den) (unsigned_abs c.args.other.den) in
    let bottom = to_z-of_z w128 c.in_ok-first.field-0.bottom (search rules)
    ∙ c.in_ok-first.ensures.bottom g h in
    simp bottom ((c.in_ok-first.ensures.fits g h).bottom)

pub returns-clause-fits : goal.returns-clause-fits
returns-clause-fits c =
    difference_from c.args.self c.args.other c.in_ok-first.ensures.fits
    (λ g h.
    let first = to_z-of_z w128 c.in_ok-first.field-0.first (search rules)
    ∙ c.in_ok-first.ensures.first g h in
    let second = to_z-of_z w128 c.in_ok-first.field-0.second (search rules)
    ∙ c.in_ok-first.ensures.second g h in
    simp (first, second) at c.in_ok-difference.ensures.0)

pub returns-clause-value : goal.returns-clause-value
returns-clause-value c =
    let (g, h) = gcd_exists (unsigned_abs c.args.self.den) (unsigned_abs c.args.other.den) in
    let first = to_z-of_z w128 c.in_ok-first.field-0.first (search rules)
    ∙ c.in_ok-first.ensures.first g h in
    let second = to_z-of_z w128 c.in_ok-first.field-0.second (search rules)
    ∙ c.in_ok-first.ensures.second g h in
    let bottom = to_z-of_z w128 c.in_ok-first.field-0.bottom (search rules)
    ∙ c.in_ok-first.ensures.bottom g h in
    let difference = to_z-of_z w128 c.in_ok-difference.difference (search rules)
    ∙ simp (first, second) at c.in_ok-difference.ensures.1 in
    difference_is c.args.self c.args.other g c.reduced.result.num c.reduced.result.den h
    (simp (difference, bottom) at c.reduced.ensures)
