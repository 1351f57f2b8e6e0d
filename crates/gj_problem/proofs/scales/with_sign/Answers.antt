use Rattle.std.proofs.Common.{◌≡◌, ℕ, pos, sym, ap, ◌∙◌}
use Rattle.gj_fields.specs.Rational.{whole, rational, neg_ℚ}
use Rattle.gj_fields.proofs.RationalLaws.{whole_neg}
use Rattle.gj_problem.specs.declared.problem.Sense.{Sense}
use Rattle.gj_problem.specs.Aggregates.{signed}
use Rattle.gj_problem.proofs.AddedSums.{negation_value}
use Rattle.gj_problem.proofs.scales.with_sign.Goals as goal

pub returns-in-AtMost : goal.returns-in-AtMost
returns-in-AtMost c = λ (n : ℕ) (is : rational c.args.scale ≡ whole (pos n)).
    negation_value c.args.scale c.neg.result c.neg.ensures ∙ ap neg_ℚ is ∙ sym (whole_neg (pos n))
    ∙ ap (λ (sense : Sense). whole (signed sense n)) (sym c.in-AtMost.is)
