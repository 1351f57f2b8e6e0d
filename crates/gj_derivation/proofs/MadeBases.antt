-- The base of a step as it is made.
use Rattle.std.proofs.Common.{◌≡◌, Option, length, refl, sym, subst}
use Rattle.gj_shape.specs.FunctionData.{FunctionData}
use Rattle.gj_problem.specs.declared.problem.Inequality.{Inequality}
use Rattle.gj_problem.specs.declared.problem.Problem.{Problem}
use Rattle.gj_problem.specs.declared.sums.Sum.{Sum}
use Rattle.gj_safe_cut.specs.declared.cut.SafeCut.{SafeCut}
use Rattle.gj_safe_cut.specs.declared.cut.SafeCut.TheVariants.{Cut, Integral, OtherFraction, Free, Wide}
use Rattle.gj_derivation.specs.declared.base.Base.{Base}
use Rattle.gj_derivation.specs.declared.base.Base.TheVariants.{Line, Against}
use Rattle.gj_derivation.specs.declared.step.Combination.{Combination}
use Rattle.gj_derivation.specs.declared.step.StepRule.{StepRule}
use Rattle.gj_derivation.specs.declared.step.StepRule.TheVariants.{Linear, Gmic, Function}
use Rattle.gj_derivation.specs.declared.step.Verdict.{Verdict}
use Rattle.gj_derivation.specs.declared.step.Verdict.TheVariants as verdict
use Rattle.gj_derivation.specs.Derivations.{line_of, added, AreSigned, IsCutOf, IsBaseBy}
use Rattle.gj_derivation.specs.Checks.{IsSumOf, IsWideAdded, IsWideBy, IsBaseless, IsBaseOf, IsBaseFrom}
use Rattle.gj_derivation.proofs.CheckedSums.{sum_is_added}

-- ---- sums

pub sum_is_base : (f : Option FunctionData) (p : Problem) (c : Combination) (sum : Sum) →
    c.rule ≡ Linear → AreSigned c.rule p c.multipliers →
    IsSumOf p c.multipliers sum → IsBaseOf f p c (Line sum)
sum_is_base f p c sum linear signed h = (
  added p c.multipliers,
  (
    signed,
    subst (λ (rule : StepRule). IsBaseBy rule f p c (added p c.multipliers)) (sym linear)
        refl,
  ),
  sum_is_added p c.multipliers sum h,
)

pub wide_sum : (f : Option FunctionData) (p : Problem) (c : Combination) → c.rule ≡ Linear →
    AreSigned c.rule p c.multipliers →
    IsWideAdded p c.multipliers → IsBaseless f p c verdict.Wide
wide_sum f p c linear signed wide = (
  signed,
  subst (λ (rule : StepRule). IsWideBy rule f p c)
      (sym linear) wide,
)

-- ---- cuts

by_cut : (rule : StepRule) (f : Option FunctionData) (p : Problem) (c : Combination)
    (q : Inequality) → (rule ≡ Linear → ⊥) → IsCutOf f p c (Cut q) →
    IsBaseBy rule f p c (line_of q)
by_cut Linear f p c q other h = absurd (other refl)
by_cut Gmic f p c q other h = (q, h, refl)
by_cut Function f p c q other h = (q, h, refl)

pub cut_is_base : (f : Option FunctionData) (p : Problem) (c : Combination) (cut : SafeCut)
    (made : Base) → (c.rule ≡ Linear → ⊥) →
    AreSigned c.rule p c.multipliers → IsCutOf f p c cut → IsBaseFrom (length p.columns) cut made →
    IsBaseOf f p c made
cut_is_base f p c (Cut q) (Line sum) other signed h from =
    (line_of q, (signed, by_cut c.rule f p c q other h), from)
cut_is_base f p c (Cut q) (Against v) other signed h from = absurd from
cut_is_base f p c Integral (Line sum) other signed h from = absurd from
cut_is_base f p c Integral (Against v) other signed h from =
    subst (λ (w : Verdict). IsBaseless f p c w) (sym from) (signed, h)
cut_is_base f p c OtherFraction (Line sum) other signed h from = absurd from
cut_is_base f p c OtherFraction (Against v) other signed h from =
    subst (λ (w : Verdict). IsBaseless f p c w) (sym from) (signed, h)
cut_is_base f p c (Free j) (Line sum) other signed h from = absurd from
cut_is_base f p c (Free j) (Against v) other signed h from =
    subst (λ (w : Verdict). IsBaseless f p c w) (sym from) (signed, h)
cut_is_base f p c Wide made other signed h from = absurd from
