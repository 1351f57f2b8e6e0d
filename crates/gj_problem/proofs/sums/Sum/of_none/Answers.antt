use Rattle.std.proofs.Common.{List, length, pos, ap, ◌∙◌}
use Rattle.std.proofs.lemmas.List.{length-replicate}
use Rattle.gj_frac.specs.declared.Frac.{Frac}
use Rattle.gj_fields.specs.Rational.{Rational}
use Rattle.gj_problem.specs.Rows.{dot}
use Rattle.gj_problem.proofs.AddedSums.{whole_ratio, dot_zero}
use Rattle.gj_problem.proofs.sums.Sum.of_none.Goals as goal

pub returns-clause-count : goal.returns-clause-count
returns-clause-count c =
    ap (λ (cs : List Frac). length cs)
    (c.in_ok-coefficients.ensures.items_if_clones_equal (λ (y : Frac) h. h))
    ∙ length-replicate c.args.columns c.ratio.result

pub returns-clause-none : goal.returns-clause-none
returns-clause-none c = λ (point : List Rational).
    ap (λ (cs : List Frac). dot cs point)
    (c.in_ok-coefficients.ensures.items_if_clones_equal (λ (y : Frac) h. h))
    ∙ dot_zero c.args.columns c.ratio.result point
    (whole_ratio c.ratio.result (pos 0) c.ratio.ensures)
