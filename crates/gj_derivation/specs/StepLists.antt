-- What a check of a derivation answers (own).
use Rattle.std.specs.Prelude.{◌≡◌, ◌⊎◌, ℕ, ◌<◌, Option, List, [], ◌∷◌, ◌++◌, length}
use Rattle.gj_shape.specs.FunctionData.{FunctionData}
use Rattle.gj_problem.specs.declared.problem.Problem.{Problem}
use Rattle.gj_derivation.specs.declared.step.Step.{Step}
use Rattle.gj_derivation.specs.declared.step.Verdict.TheVariants.{Accepted, Wide}
use Rattle.gj_derivation.specs.declared.steps.Failure.{Failure}
use Rattle.gj_derivation.specs.declared.steps.Checked.{Checked}
use Rattle.gj_derivation.specs.declared.steps.Checked.TheVariants as checked
use Rattle.gj_derivation.specs.Derivations.{with_claim, IsDerivation}
use Rattle.gj_derivation.specs.Checks.{IsVerdict}

-- the problem with the claims of the steps as more constraints, in their order
abbrev pub with_claims : Problem → List Step → Problem
with_claims p [] = p
with_claims p (s ∷ steps) = with_claims (with_claim p s.claim) steps

-- the steps before it are a derivation, and over the problem with their claims it is not accepted
pub record IsFailure (f : Option FunctionData) (p : Problem) (steps : List Step)
    (failure : Failure) : Type 0 where
  pub before : List Step
  pub step : Step
  pub after : List Step
  pub place : steps ≡ before ++ step ∷ after
  pub index : failure.step ≡ length before
  pub derivation_before : IsDerivation f p before
  pub verdict : IsVerdict f (with_claims p before) step failure.verdict
  pub refused : failure.verdict ≡ Accepted → ⊥

abbrev pub IsChecked : Option FunctionData → Problem → List Step → Checked → Type 0
IsChecked f p steps checked.Accepted = IsDerivation f p steps
IsChecked f p steps (checked.Failed failure) = IsFailure f p steps failure

-- over the problem with the claims of the steps before it, a number of the i-th step does not fit
pub record IsWideStep (f : Option FunctionData) (p : Problem) (steps : List Step) (i : ℕ) : Type 0
  where
    pub before : List Step
    pub step : Step
    pub after : List Step
    pub place : steps ≡ before ++ step ∷ after
    pub index : i ≡ length before
    pub wide : IsVerdict f (with_claims p before) step Wide

-- a step before the i-th is not accepted, or the i-th, since a number does not fit
abbrev pub FailsBy : ℕ → Checked → Type 0
FailsBy i c = (failure : Failure) × (c ≡ checked.Failed failure)
    × ((failure.step < i) ⊎ ((failure.step ≡ i) × (failure.verdict ≡ Wide)))

-- the answer does not pass over a step with a number that does not fit
abbrev pub TellsWide : Option FunctionData → Problem → List Step → Checked → Type 0
TellsWide f p steps c = (i : ℕ) → IsWideStep f p steps i → FailsBy i c

-- at some step a number did not fit
abbrev pub IsWideFailure : Checked → Type 0
IsWideFailure c = (failure : Failure) × (c ≡ checked.Failed failure) × (failure.verdict ≡ Wide)
