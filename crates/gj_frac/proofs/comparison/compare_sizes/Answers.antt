use Rattle.std.proofs.Common.{◌*◌, unsigned_abs, ap, ◌∙◌}
use Rattle.std.specs.Ordering.{nat_cmp}
use Rattle.gj_frac.proofs.Reduced.{read_part}
use Rattle.gj_frac.proofs.comparison.compare_sizes.Goals as goal

pub returns : goal.returns
returns c =
    let num = c.unsigned_abs.ensures.value
    ∙ ap unsigned_abs (read_part c.args.x.num c.args.x.lowest.num_fits) in
    let den = c.unsigned_abs-2.ensures.value
    ∙ ap unsigned_abs (read_part c.args.x.den c.args.x.lowest.den_fits) in
    let num' = c.unsigned_abs-3.ensures.value
    ∙ ap unsigned_abs (read_part c.args.y.num c.args.y.lowest.num_fits) in
    let den' = c.unsigned_abs-4.ensures.value
    ∙ ap unsigned_abs (read_part c.args.y.den c.args.y.lowest.den_fits) in
    c.compare_ratios.ensures ∙ (λ i. nat_cmp (num i * den' i) (num' i * den i))
