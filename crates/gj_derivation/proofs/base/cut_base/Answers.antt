use Rattle.std.proofs.Common.{◌≡◌, ◌<◌, inr, Option, refl, ℕ, List, Bool, length, All, sym, subst}
use Rattle.std.proofs.lemmas.List.Elements.{All-weaker}
use Rattle.std.proofs.lemmas.Result.{IfOk-weaker, on_ok_weaker}
use Rattle.std.specs.Option.{option_copied}
use Rattle.gj_frac.specs.declared.Frac.{Frac}
use Rattle.gj_derivation.specs.declared.base.Base.{Base}
use Rattle.gj_derivation.specs.declared.step.Multiplier.{Multiplier}
use Rattle.gj_derivation.specs.Derivations.{IsSigned, AreMultipliers, AreAtUpper, IsCutOf}
use Rattle.gj_derivation.specs.declared.step.Combination.{Combination}
use Rattle.gj_derivation.specs.declared.step.StepRule.{StepRule}
use Rattle.gj_derivation.specs.declared.step.StepRule.TheVariants.{Linear, Gmic, Function}
use Rattle.gj_shape.specs.FunctionData.{FunctionData}
use Rattle.gj_problem.specs.declared.problem.Problem.{Problem}
use Rattle.gj_safe_cut.specs.declared.cut.SafeCut.TheVariants as cut
use Rattle.gj_derivation.specs.Checks.{IsWideBy, IsBaseOf, IsBaseFrom, IsWideNamed}
use Rattle.gj_derivation.proofs.MadeBases.{cut_is_base}
use Rattle.gj_derivation.proofs.NarrowBases.{narrow_cut}
use Rattle.gj_derivation.proofs.NamedLines.{line_below}
use Rattle.gj_derivation.proofs.base.cut_base.Goals as goal

pub multipliers_of-requires : goal.multipliers_of-requires
multipliers_of-requires c =
    let p = c.args.problem.now in
    let k = c.args.combination.now in
    subst (λ (ms : List Multiplier). All (λ m. m.line < length p.constraints) ms)
    (sym c.as_slice.ensures)
    (All-weaker (IsSigned k.rule p) (λ m. m.line < length p.constraints)
    (λ m h. line_below k.rule p m h) k.multipliers c.requires.signed)

pub returns-clause-is : goal.returns-clause-is
returns-clause-is c =
    let f = option_copied c.args.function in
    let p = c.args.problem.now in
    let k = c.args.combination.now in
    let safe = c.in_ok-cut.cut in
    let made : IsCutOf f p k safe = record {
      multipliers = c.in_ok-multipliers.multipliers;
      multipliers_are = subst (λ (named : List Multiplier). AreMultipliers p named
          c.in_ok-multipliers.multipliers) c.as_slice.ensures
          c.in_ok-multipliers.ensures.are;
      at_upper = c.as_slice-3.result.now;
      at_upper_are = subst (λ (us : List Bool). AreAtUpper p k.at_upper us)
          (sym c.as_slice-3.ensures.value)
          (subst (λ (named : List ℕ). AreAtUpper p named c.in_ok-at_upper.at_upper.items)
          c.as_slice-2.ensures c.in_ok-at_upper.ensures);
      cut_is = c.in_ok-cut.ensures.is;
    } in
    IfOk-weaker c.base_from.result (IsBaseFrom (length p.columns) safe) (IsBaseOf f p k)
    (λ (b : Base) (h : IsBaseFrom (length p.columns) safe b). cut_is_base f p k safe b c.requires.rule
    c.requires.signed made h) c.base_from.ensures.is

pub returns-clause-narrow : goal.returns-clause-narrow
returns-clause-narrow c =
    let f = option_copied c.args.function in
    let p = c.args.problem.now in
    let k = c.args.combination.now in
    let safe = c.in_ok-cut.cut in
    let made : IsCutOf f p k safe = record {
      multipliers = c.in_ok-multipliers.multipliers;
      multipliers_are = subst (λ (named : List Multiplier). AreMultipliers p named
          c.in_ok-multipliers.multipliers) c.as_slice.ensures
          c.in_ok-multipliers.ensures.are;
      at_upper = c.as_slice-3.result.now;
      at_upper_are = subst (λ (us : List Bool). AreAtUpper p k.at_upper us)
          (sym c.as_slice-3.ensures.value)
          (subst (λ (named : List ℕ). AreAtUpper p named c.in_ok-at_upper.at_upper.items)
          c.as_slice-2.ensures c.in_ok-at_upper.ensures);
      cut_is = c.in_ok-cut.ensures.is;
    } in
    on_ok_weaker c.base_from.result
    (narrow_cut f p k safe made c.requires.rule
    (subst (λ (named : List Multiplier). IsWideNamed named → ⊥) c.as_slice.ensures
    c.in_ok-multipliers.ensures.narrow)
    c.in_ok-cut.ensures.narrow)
    c.base_from.ensures.narrow

-- a cut that is wide makes the rule so, unless the rule is that of sums
wide_by : (rule : StepRule) (f : Option FunctionData) (p : Problem) (k : Combination) →
    (rule ≡ Linear → ⊥) → IsCutOf f p k cut.Wide → IsWideBy rule f p k
wide_by Linear f p k other is = absurd (other refl)
wide_by Gmic f p k other is = inr is
wide_by Function f p k other is = inr is

pub returns-clause-wide : goal.returns-clause-wide
returns-clause-wide c = λ fault.
    let f = option_copied c.args.function in
    let p = c.args.problem.now in
    let k = c.args.combination.now in
    let safe = c.in_ok-cut.cut in
    let made : IsCutOf f p k safe = record {
      multipliers = c.in_ok-multipliers.multipliers;
      multipliers_are = subst (λ (named : List Multiplier). AreMultipliers p named
          c.in_ok-multipliers.multipliers) c.as_slice.ensures
          c.in_ok-multipliers.ensures.are;
      at_upper = c.as_slice-3.result.now;
      at_upper_are = subst (λ (us : List Bool). AreAtUpper p k.at_upper us)
          (sym c.as_slice-3.ensures.value)
          (subst (λ (named : List ℕ). AreAtUpper p named c.in_ok-at_upper.at_upper.items)
          c.as_slice-2.ensures c.in_ok-at_upper.ensures);
      cut_is = c.in_ok-cut.ensures.is;
    } in (
      c.requires.signed,
      wide_by k.rule f p k c.requires.rule
          (subst (IsCutOf f p k) (c.base_from.ensures.wide fault) made),
    )
