-- The claim of a draft as it is found.
use Rattle.std.proofs.Common.{inl, inr, ℕ, Option, pos, ◌<ℤ◌, sym, subst}
use Rattle.gj_frac.specs.Fraction.{numerator}
use Rattle.gj_shape.specs.FunctionData.{FunctionData}
use Rattle.gj_problem.specs.declared.problem.Problem.{Problem}
use Rattle.gj_problem.specs.declared.sums.Sum.{Sum}
use Rattle.gj_derivation.specs.declared.base.Base.TheVariants as base
use Rattle.gj_derivation.specs.declared.draft.Claim.TheVariants.{Absent}
use Rattle.gj_derivation.specs.declared.draft.Filled.{Filled}
use Rattle.gj_derivation.specs.declared.draft.Filled.TheVariants.{Claim, Against}
use Rattle.gj_derivation.specs.declared.step.Combination.{Combination}
use Rattle.gj_derivation.specs.declared.step.Verdict.{Verdict}
use Rattle.gj_derivation.specs.declared.step.Verdict.TheVariants.{Accepted, Sign, Free, Integral, Other, Bound, Right, Wide}
use Rattle.gj_derivation.specs.Derivations.{Line, times}
use Rattle.gj_derivation.specs.Checks.{line_of_sum, IsBaseless, IsBaseOf}
use Rattle.gj_derivation.specs.Drafts.{IsFirstNotFound, IsFoundClaim, IsFoundIn, IsWideFinding, IsAgainst, IsFilled}

module _ (f : Option FunctionData) (grid : Option ℕ) (p : Problem) (c : Combination) where
  -- a base that is not there stands against the claim
  pub baseless : (v : Verdict) → IsBaseless f p c v → IsAgainst f grid p c Absent v
  baseless (Sign i) h = h
  baseless (Free j) h = h
  baseless Integral h = h
  baseless Other h = h
  baseless Wide h = inl h
  baseless Accepted h = absurd h
  baseless (Bound j) h = absurd h
  baseless (Right b) h = absurd h

  module _ (sum : Sum) (made : IsBaseOf f p c (base.Line sum)) where
    pub found_filled : (filled : Filled) → pos 0 <ℤ numerator c.factor →
        IsFoundIn grid p.columns c.factor (line_of_sum sum) filled →
        IsFilled f grid p c Absent filled
    found_filled (Claim q) positive h = (
      positive,
      made.0,
      made.1,
      subst (λ (l : Line). IsFoundClaim grid p.columns c.factor l q)
          made.2.same h,
    )
    found_filled (Against v) positive (j, is, h) =
        subst (λ (w : Verdict). IsAgainst f grid p c Absent w) (sym is) (
          made.0,
          made.1,
          subst (λ (l : Line). IsFirstNotFound grid p.columns (times c.factor l) j)
              made.2.same h,
        )

    pub found_wide : IsWideFinding grid p.columns c.factor (line_of_sum sum) →
        IsAgainst f grid p c Absent Wide
    found_wide wide = inr (
      made.0,
      made.1,
      subst (λ (l : Line). IsWideFinding grid p.columns
          c.factor l) made.2.same wide,
    )
