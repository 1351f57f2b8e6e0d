use Rattle.std.proofs.Common.{Bool, sym, ap, ◌∙◌}
use Rattle.gj_fields.specs.Rational.{whole, rational, ◌*ℚ◌}
use Rattle.gj_fields.proofs.RationalLaws.{one_mul_q}
use Rattle.gj_problem.proofs.AddedSums.{negation_value}
use Rattle.gj_relaxed.specs.RelaxedSteps.{sign_of}
use Rattle.gj_relaxed.proofs.forms.with_sign.Goals as goal

pub returns-then-is_turned : goal.returns-then-is_turned
returns-then-is_turned c =
    negation_value c.args.x c.neg.result c.neg.ensures
    ∙ ap (λ (b : Bool). whole (sign_of b) *ℚ rational c.args.x) (sym c.if-is_turned.true)

pub returns-else-is_turned : goal.returns-else-is_turned
returns-else-is_turned c =
    sym (one_mul_q (rational c.args.x)) ∙ ap (λ (b : Bool). whole (sign_of b) *ℚ rational c.args.x)
    (sym c.if-is_turned.false)
