use Rattle.std.proofs.Common.{Bool, neg_ℤ, sym, ap, subst, ◌∙◌}
use Rattle.gj_fields.specs.Rational.{neg_ℚ}
use Rattle.gj_fields.proofs.RationalLaws.{whole_neg}
use Rattle.gj_problem.specs.Aggregates.{IsLowerBound}
use Rattle.gj_problem.proofs.AddedSums.{negation_value}
use Rattle.gj_problem.proofs.OneColumn.{ceiling_from_floor}
use Rattle.gj_problem.proofs.bounds.lower_bound.Goals as goal

pub returns-then-is_whole : goal.returns-then-is_whole
returns-then-is_whole c =
    let floor = c.rounded_down.ensures in
    let bound = c.neg-then-is_whole.result in
    subst (λ (is_whole : Bool). IsLowerBound is_whole c.args.lower bound) (sym c.if-is_whole.true) (
      neg_ℤ floor.0,
      ceiling_from_floor c.args.lower c.neg.result floor.0 c.neg.ensures floor.1,
      negation_value c.rounded_down.result bound c.neg-then-is_whole.ensures ∙ ap neg_ℚ floor.2
          ∙ sym (whole_neg floor.0),
    )
