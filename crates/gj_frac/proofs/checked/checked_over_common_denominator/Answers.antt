use Rattle.std.proofs.Common.{rules, unsigned_abs, ◌∙◌}
use Rattle.std.proofs.lemmas.Int.{to_z-of_z}
use Rattle.gj_frac.specs.Fits.{FitsTogether}
use Rattle.gj_lemmas.proofs.Divisors.{gcd_exists}
use Rattle.gj_frac.proofs.Reduced.{read_part}
use Rattle.gj_frac.proofs.Sums.{first_quotient, second_quotient}
use Rattle.gj_frac.proofs.Refusals.{on_err}
use Rattle.gj_frac.proofs.checked.checked_over_common_denominator.Goals as goal
use mir.Syntax.{w128}

pub returns-in_err-first-clause-wide : goal.returns-in_err-first-clause-wide
returns-in_err-first-clause-wide c =
    let (g, h) = gcd_exists (unsigned_abs c.args.x.den) (unsigned_abs c.args.y.den) in
    let num = read_part c.args.x.num c.args.x.lowest.num_fits in
    let other = second_quotient c.args.x c.args.y c.coprime_quotients-scale.result.1
    (search rules) c.coprime_quotients-scale.ensures.second g h in
    let refused = simp (num, other) at c.in_err-first.ensures in
    let wide : FitsTogether c.args.x c.args.y → ⊥ = λ fits. refused ((fits g h).first) in
    on_err _ _ wide

pub returns-in_err-second-clause-wide : goal.returns-in_err-second-clause-wide
returns-in_err-second-clause-wide c =
    let (g, h) = gcd_exists (unsigned_abs c.args.x.den) (unsigned_abs c.args.y.den) in
    let num' = read_part c.args.y.num c.args.y.lowest.num_fits in
    let scale = first_quotient c.args.x c.args.y c.coprime_quotients-scale.result.0
    (search rules) c.coprime_quotients-scale.ensures.first g h in
    let refused = simp (num', scale) at c.in_err-second.ensures in
    let wide : FitsTogether c.args.x c.args.y → ⊥ = λ fits. refused ((fits g h).second) in
    on_err _ _ wide

pub returns-in_err-bottom-clause-wide : goal.returns-in_err-bottom-clause-wide
returns-in_err-bottom-clause-wide c =
    let (g, h) = gcd_exists (unsigned_abs c.args.x.den) (unsigned_abs c.args.y.den) in
    let den' = read_part c.args.y.den c.args.y.lowest.den_fits in
    let scale = first_quotient c.args.x c.args.y c.coprime_quotients-scale.result.0
    (search rules) c.coprime_quotients-scale.ensures.first g h in
    let refused = simp (den', scale) at c.in_err-bottom.ensures in
    let wide : FitsTogether c.args.x c.args.y → ⊥ = λ fits. refused ((fits g h).bottom) in
    on_err _ _ wide

pub returns-clause-fits : goal.returns-clause-fits
returns-clause-fits c g h =
    let num = read_part c.args.x.num c.args.x.lowest.num_fits in
    let num' = read_part c.args.y.num c.args.y.lowest.num_fits in
    let den' = read_part c.args.y.den c.args.y.lowest.den_fits in
    let other = second_quotient c.args.x c.args.y c.coprime_quotients-scale.result.1
    (search rules) c.coprime_quotients-scale.ensures.second g h in
    let scale = first_quotient c.args.x c.args.y c.coprime_quotients-scale.result.0
    (search rules) c.coprime_quotients-scale.ensures.first g h in
    record {
      first = simp (num, other) at c.in_ok-first.ensures.0;
      second = simp (num', scale) at c.in_ok-second.ensures.0;
      bottom = simp (den', scale) at c.in_ok-bottom.ensures.0;
    }

pub returns-clause-first : goal.returns-clause-first
returns-clause-first c g h =
    let num = read_part c.args.x.num c.args.x.lowest.num_fits in
    let other = second_quotient c.args.x c.args.y c.coprime_quotients-scale.result.1
    (search rules) c.coprime_quotients-scale.ensures.second g h in
    to_z-of_z w128 c.in_ok-first.first (search rules) ∙ simp (num, other) at c.in_ok-first.ensures.1

pub returns-clause-second : goal.returns-clause-second
returns-clause-second c g h =
    let num' = read_part c.args.y.num c.args.y.lowest.num_fits in
    let scale = first_quotient c.args.x c.args.y c.coprime_quotients-scale.result.0
    (search rules) c.coprime_quotients-scale.ensures.first g h in
    to_z-of_z w128 c.in_ok-second.second (search rules)
    ∙ simp (num', scale) at c.in_ok-second.ensures.1

pub returns-clause-bottom : goal.returns-clause-bottom
returns-clause-bottom c g h =
    let den' = read_part c.args.y.den c.args.y.lowest.den_fits in
    let scale = first_quotient c.args.x c.args.y c.coprime_quotients-scale.result.0
    (search rules) c.coprime_quotients-scale.ensures.first g h in
    to_z-of_z w128 c.in_ok-bottom.bottom (search rules)
    ∙ simp (den', scale) at c.in_ok-bottom.ensures.1
