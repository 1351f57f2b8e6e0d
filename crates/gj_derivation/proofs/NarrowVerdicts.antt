-- Where all numbers of a step fit, none is said not to.
use Rattle.std.proofs.Common.{◌≡◌, ◌⊎◌, ⊎_elim, Option, refl, sym, subst, ◌∙◌}
use Rattle.gj_shape.specs.FunctionData.{FunctionData}
use Rattle.gj_problem.specs.declared.problem.Problem.{Problem}
use Rattle.gj_problem.specs.declared.sums.Sum.{Sum}
use Rattle.gj_safe_cut.specs.declared.cut.SafeCut.TheVariants as cut
use Rattle.gj_derivation.specs.declared.base.Base.TheVariants as base
use Rattle.gj_derivation.specs.declared.step.Combination.{Combination}
use Rattle.gj_derivation.specs.declared.step.Verdict.{Verdict}
use Rattle.gj_derivation.specs.declared.step.Verdict.TheVariants.{Accepted, Sign, Free, Integral, Other, Bound, Right, Wide}
use Rattle.gj_derivation.specs.Derivations.{Line, IsUsableFor, IsBase}
use Rattle.gj_derivation.specs.Checks.{line_of_sum, IsBaseless, IsBaseOf}
use Rattle.gj_derivation.proofs.ExactVerdicts.{not_signed, no_base}
use Rattle.gj_derivation.proofs.OneBase.{one_base}

module _ (f : Option FunctionData) (p : Problem) (c : Combination)
    (usable : IsUsableFor f c.rule) where
  -- what stands against a base leaves none
  pub base_or_against : (v : Verdict) (line : Line) → (v ≡ Wide → ⊥) → IsBaseless f p c v →
      IsBase f p c line → ⊥
  base_or_against (Sign i) line narrow h is = not_signed c.rule p c.multipliers i h is.0
  base_or_against (Free j) line narrow h is =
      no_base f p c line (cut.Free j) usable (λ e. cc) (λ q e. cc) is h.1
  base_or_against Integral line narrow h is =
      no_base f p c line cut.Integral usable (λ e. cc) (λ q e. cc) is h.1
  base_or_against Other line narrow h is =
      no_base f p c line cut.OtherFraction usable (λ e. cc) (λ q e. cc) is h.1
  base_or_against Wide line narrow h is = narrow refl
  base_or_against Accepted line narrow h is = h
  base_or_against (Bound j) line narrow h is = h
  base_or_against (Right b) line narrow h is = h

  -- a number of the base does not fit, or with the base one is wide
  abbrev pub IsWideWith : (Line → Type 0) → Type 0
  IsWideWith IsWide = IsBaseless f p c Wide ⊎ ((line : Line) × IsBase f p c line × IsWide line)

  pub narrow_with_base : (IsWide : Line → Type 0) (sum : Sum) → IsBaseOf f p c (base.Line sum) →
      (IsBaseless f p c Wide → ⊥) → (IsWide (line_of_sum sum) → ⊥) → IsWideWith IsWide → ⊥
  narrow_with_base IsWide sum (line, is, made) narrow fits =
      ⊎_elim narrow
      (λ (k : (other : Line) × IsBase f p c other × IsWide other).
      fits (subst IsWide (one_base f p c k.0 line usable k.1 is ∙ sym made.same) k.2))

  pub narrow_against : (IsWide : Line → Type 0) (v : Verdict) → IsBaseless f p c v →
      (IsBaseless f p c Wide → ⊥) → IsWideWith IsWide → ⊥
  narrow_against IsWide v h narrow =
      ⊎_elim narrow
      (λ (k : (other : Line) × IsBase f p c other × IsWide other).
      base_or_against v k.0 (λ wide. narrow (subst (IsBaseless f p c) wide h)) h k.1)
