-- What a check answers of a step.
use Rattle.std.proofs.Common.{◌≡◌, ⊎_elim, inr, Option, Some, None, IfSome, pos, ◌<ℤ◌, sym, subst}
use Rattle.gj_frac.specs.declared.Frac.{Frac}
use Rattle.gj_frac.specs.Fraction.{numerator}
use Rattle.gj_shape.specs.FunctionData.{FunctionData, IsWithinBounds}
use Rattle.gj_fields.specs.Rational.{rational, ◌≤ℚ◌}
use Rattle.gj_problem.specs.declared.problem.Inequality.{Inequality}
use Rattle.gj_problem.specs.declared.problem.Problem.{Problem}
use Rattle.gj_problem.specs.declared.sums.Sum.{Sum}
use Rattle.gj_derivation.specs.declared.base.Base.TheVariants as base
use Rattle.gj_derivation.specs.declared.moves.Moved.{Moved}
use Rattle.gj_derivation.specs.declared.moves.Moved.TheVariants as moved
use Rattle.gj_derivation.specs.declared.step.Combination.{Combination}
use Rattle.gj_derivation.specs.declared.step.Step.{Step}
use Rattle.gj_derivation.specs.declared.step.StepRule.{StepRule}
use Rattle.gj_derivation.specs.declared.step.Verdict.{Verdict}
use Rattle.gj_derivation.specs.declared.step.Verdict.TheVariants.{Accepted, Right, Wide}
use Rattle.gj_derivation.specs.Derivations.{Line, coefficient_in, times, IsUsable, HasFunctionFor, IsRightOf, IsShown}
use Rattle.gj_derivation.specs.Checks.{line_of_sum, IsBaseOf, IsFirstUnmovable, IsMovedRight, IsWideFor, IsVerdict, IsCompared}

-- ---- functions

pub usable_function : (f : Option FunctionData) (rule : StepRule) → IfSome f IsWithinBounds →
    HasFunctionFor f rule → IfSome f IsUsable
usable_function None rule bounds h = tt
usable_function (Some f) rule bounds h = record { bounds = bounds; minimal = h.0; continuous = h.1 }

-- ---- verdicts

-- the step that claims this of a combination
abbrev pub step_of : Combination → Inequality → Step
step_of c q = record { combination = c; claim = q }

module _ (f : Option FunctionData) (p : Problem) (c : Combination) (q : Inequality) (sum : Sum)
    (made : IsBaseOf f p c (base.Line sum)) where
  pub shown_by : (b : Frac) → pos 0 <ℤ numerator c.factor →
      IsMovedRight p.columns c.factor (line_of_sum sum) (coefficient_in q.entries) (moved.Right b) →
      IsShown f p (step_of c q) (rational b)
  shown_by b positive h = record {
    base = made.0;
    base_is = made.1;
    factor_positive = positive;
    right_is = subst (λ (l : Line). IsRightOf p.columns c.factor l (coefficient_in q.entries)
        (rational b)) made.2.same h;
  }

  pub verdict_from : (m : Moved) (v : Verdict) → pos 0 <ℤ numerator c.factor →
      IsMovedRight p.columns c.factor (line_of_sum sum) (coefficient_in q.entries) m →
      IsCompared m q.right v → IsVerdict f p (step_of c q) v
  verdict_from (moved.Bound j) v positive h is =
      subst (λ (w : Verdict). IsVerdict f p (step_of c q) w) (sym is) (
        made.0,
        made.1,
        subst (λ (l : Line). IsFirstUnmovable p.columns (times c.factor l)
            (coefficient_in q.entries) j) made.2.same h,
      )
  verdict_from (moved.Right b) v positive h is =
      ⊎_elim
      (λ (k : (v ≡ Accepted) × (rational q.right ≤ℚ rational b)).
      subst (λ (w : Verdict). IsVerdict f p (step_of c q) w) (sym k.0) (
        rational b,
        shown_by b positive h,
        k.1,
      ))
      (λ (k : (v ≡ Right b) × (rational q.right ≤ℚ rational b → ⊥)).
      subst (λ (w : Verdict). IsVerdict f p (step_of c q) w) (sym k.0) (shown_by b positive h, k.1))
      is

  pub wide_for : IsWideFor p.columns c.factor (line_of_sum sum) q.entries →
      IsVerdict f p (step_of c q) Wide
  wide_for wide = inr (
    made.0,
    made.1,
    subst (λ (l : Line). IsWideFor p.columns c.factor l
        q.entries) made.2.same wide,
  )
