use Rattle.std.proofs.Common.{rules, unsigned_abs, ◌∙◌}
use Rattle.std.proofs.lemmas.Int.{to_z-of_z}
use Rattle.gj_lemmas.proofs.Divisors.{gcd_exists}
use Rattle.gj_frac.proofs.Reduced.{read_part}
use Rattle.gj_frac.proofs.Sums.{first_quotient, second_quotient}
use Rattle.gj_frac.proofs.operators.over_common_denominator.Goals as goal
use mir.Syntax.{w128}

pub product-requires : goal.product-requires
product-requires c =
    let (g, h) = gcd_exists (unsigned_abs c.args.x.den) (unsigned_abs c.args.y.den) in
    let num = read_part c.args.x.num c.args.x.lowest.num_fits in
    let scale = second_quotient c.args.x c.args.y c.coprime_quotients-scale.result.1
    (search rules) c.coprime_quotients-scale.ensures.second g h in
    simp (num, scale) ((c.requires g h).first)

pub product-requires-2 : goal.product-requires-2
product-requires-2 c =
    let (g, h) = gcd_exists (unsigned_abs c.args.x.den) (unsigned_abs c.args.y.den) in
    let num = read_part c.args.y.num c.args.y.lowest.num_fits in
    let scale = first_quotient c.args.x c.args.y c.coprime_quotients-scale.result.0
    (search rules) c.coprime_quotients-scale.ensures.first g h in
    simp (num, scale) ((c.requires g h).second)

pub product-requires-3 : goal.product-requires-3
product-requires-3 c =
    let (g, h) = gcd_exists (unsigned_abs c.args.x.den) (unsigned_abs c.args.y.den) in
    let den' = read_part c.args.y.den c.args.y.lowest.den_fits in
    let scale = first_quotient c.args.x c.args.y c.coprime_quotients-scale.result.0
    (search rules) c.coprime_quotients-scale.ensures.first g h in
    simp (den', scale) ((c.requires g h).bottom)

pub returns-clause-first : goal.returns-clause-first
returns-clause-first c g h =
    let num = read_part c.args.x.num c.args.x.lowest.num_fits in
    let scale = second_quotient c.args.x c.args.y c.coprime_quotients-scale.result.1
    (search rules) c.coprime_quotients-scale.ensures.second g h in
    to_z-of_z w128 c.product.result (search rules) ∙ simp (num, scale) at c.product.ensures

pub returns-clause-second : goal.returns-clause-second
returns-clause-second c g h =
    let num = read_part c.args.y.num c.args.y.lowest.num_fits in
    let scale = first_quotient c.args.x c.args.y c.coprime_quotients-scale.result.0
    (search rules) c.coprime_quotients-scale.ensures.first g h in
    to_z-of_z w128 c.product-2.result (search rules) ∙ simp (num, scale) at c.product-2.ensures

pub returns-clause-bottom : goal.returns-clause-bottom
returns-clause-bottom c g h =
    let den' = read_part c.args.y.den c.args.y.lowest.den_fits in
    let scale = first_quotient c.args.x c.args.y c.coprime_quotients-scale.result.0
    (search rules) c.coprime_quotients-scale.ensures.first g h in
    to_z-of_z w128 c.product-3.result (search rules) ∙ simp (den', scale) at c.product-3.ensures
