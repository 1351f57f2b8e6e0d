use Rattle.std.proofs.Common.{◌≡◌, rules, List, subst}
use Rattle.std.specs.Option.{option_copied}
use Rattle.gj_safe_cut.proofs.PointCuts.{is_true}
use Rattle.gj_derivation.specs.declared.step.Multiplier.{Multiplier}
use Rattle.gj_derivation.specs.declared.step.StepRule.{StepRule}
use Rattle.gj_derivation.specs.declared.step.StepRule.TheVariants.{Linear}
use Rattle.gj_derivation.specs.Derivations.{AreSigned}
use Rattle.gj_derivation.specs.Checks.{IsSumOf, IsWideAdded, IsFirstUnsigned}
use Rattle.gj_derivation.proofs.ExactVerdicts.{not_signed}
use Rattle.gj_derivation.proofs.NarrowBases.{narrow_linear}
use Rattle.gj_derivation.proofs.MadeBases.{sum_is_base, wide_sum}
use Rattle.gj_derivation.proofs.base.base_of.Goals as goal

pub sum_of-requires : goal.sum_of-requires
sum_of-requires c =
    let linear : c.args.combination.now.rule ≡ Linear =
    c.is_linear.ensures.0 (is_true c.is_linear.result c.if-is_linear.true) in
    subst (λ (rule : StepRule). AreSigned rule c.args.problem.now c.as_slice-multipliers.result.now)
    linear c.in_default.ensures

pub returns-in_err-sum_of-clause-wide : goal.returns-in_err-sum_of-clause-wide
returns-in_err-sum_of-clause-wide c = λ fault.
    let linear : c.args.combination.now.rule ≡ Linear =
    c.is_linear.ensures.0 (is_true c.is_linear.result c.if-is_linear.true) in
    let p = c.args.problem.now in
    let k = c.args.combination.now in
    wide_sum (option_copied c.args.function) p k linear
    (subst (λ (ms : List Multiplier). AreSigned k.rule p ms) c.as_slice-multipliers.ensures
    c.in_default.ensures)
    (subst (λ (ms : List Multiplier). IsWideAdded p ms) c.as_slice-multipliers.ensures
    (c.in_err-sum_of.ensures.wide (search rules)))

pub cut_base-requires-clause-signed : goal.cut_base-requires-clause-signed
cut_base-requires-clause-signed c =
    subst (λ (ms : List Multiplier). AreSigned c.args.combination.now.rule c.args.problem.now ms)
    c.as_slice-multipliers.ensures c.in_default.ensures

pub returns-in_ok-sum_of-clause-is : goal.returns-in_ok-sum_of-clause-is
returns-in_ok-sum_of-clause-is c =
    let linear : c.args.combination.now.rule ≡ Linear =
    c.is_linear.ensures.0 (is_true c.is_linear.result c.if-is_linear.true) in
    let p = c.args.problem.now in
    let k = c.args.combination.now in
    sum_is_base (option_copied c.args.function) p k c.in_ok-sum_of.field-0 linear
    (subst (λ (ms : List Multiplier). AreSigned k.rule p ms) c.as_slice-multipliers.ensures
    c.in_default.ensures)
    (subst (λ (ms : List Multiplier). IsSumOf p ms c.in_ok-sum_of.field-0)
    c.as_slice-multipliers.ensures c.in_ok-sum_of.ensures.is)

pub returns-in-Some-clause-narrow : goal.returns-in-Some-clause-narrow
returns-in-Some-clause-narrow c wide =
    let p = c.args.problem.now in
    let k = c.args.combination.now in
    let first : IsFirstUnsigned k.rule p k.multipliers c.in-Some.line =
    subst (λ (ms : List Multiplier). IsFirstUnsigned k.rule p ms c.in-Some.line)
    c.as_slice-multipliers.ensures c.in-Some.ensures in
    not_signed k.rule p k.multipliers c.in-Some.line first wide.0

pub returns-in_ok-sum_of-clause-narrow : goal.returns-in_ok-sum_of-clause-narrow
returns-in_ok-sum_of-clause-narrow c =
    let linear : c.args.combination.now.rule ≡ Linear =
    c.is_linear.ensures.0 (is_true c.is_linear.result c.if-is_linear.true) in
    let p = c.args.problem.now in
    let k = c.args.combination.now in
    narrow_linear (option_copied c.args.function) p k linear
    (subst (λ (ms : List Multiplier). IsWideAdded p ms → ⊥) c.as_slice-multipliers.ensures
    c.in_ok-sum_of.ensures.narrow)
