use Rattle.std.proofs.Common.{◌⊎◌, ⊎_elim, inr, List, ap, subst, ◌∙◌}
use Rattle.gj_frac.proofs.Refusals.{on_err}
use Rattle.gj_frac.specs.declared.Frac.{Frac}
use Rattle.gj_fields.specs.Rational.{Rational, rational, ◌+ℚ◌, ◌*ℚ◌, ◌-ℚ◌}
use Rattle.gj_problem.specs.Problems.{sum_at}
use Rattle.gj_problem.specs.Rows.{dot}
use Rattle.gj_problem.specs.Steps.{IsWideAt, IsWideWithin}
use Rattle.gj_problem.proofs.AddedSums.{inequality_added}
use Rattle.gj_problem.proofs.sums.Sum.add.Goals as goal

pub returns-clause-added : goal.returns-clause-added
returns-clause-added c = λ (point : List Rational).
    let d = dot c.args.self.now.coefficients.items point in
    inequality_added d (dot c.add_entries.new.self.coefficients.items point)
    (sum_at point c.args.entries.now) c.add_entries.new.self.right
    c.in_ok-self.field-0 c.args.factor c.args.right (c.in_ok-add_entries.ensures.added point)
    c.in_ok-self.ensures.value
    ∙ ap (λ (r : Frac). (d -ℚ rational r) +ℚ rational c.args.factor
    *ℚ (sum_at point c.args.entries.now -ℚ rational c.args.right))
    c.add_entries.ensures.right

pub returns-in_err-self-clause-wide : goal.returns-in_err-self-clause-wide
returns-in_err-self-clause-wide c =
    on_err c.from_residual-in_err-self.result
    (IsWideWithin c.args.self.now.coefficients.items c.args.factor c.args.entries.now
    ⊎ IsWideAt c.args.self.now.right c.args.factor c.args.right)
    (inr (subst (λ (r : Frac). IsWideAt r c.args.factor c.args.right) c.add_entries.ensures.right
    c.in_err-self.ensures.wide))

pub returns-clause-narrow : goal.returns-clause-narrow
returns-clause-narrow c =
    ⊎_elim c.in_ok-add_entries.ensures.narrow
    (subst (λ (r : Frac). IsWideAt r c.args.factor c.args.right →
    ⊥) c.add_entries.ensures.right c.in_ok-self.ensures.narrow)
