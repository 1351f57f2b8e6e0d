use Rattle.std.proofs.Common.{rules, List, subst}
use Rattle.std.specs.Option.{option_copied}
use Rattle.gj_problem.specs.declared.problem.Entry.{Entry}
use Rattle.gj_derivation.specs.declared.base.Base.{Base}
use Rattle.gj_derivation.specs.declared.base.Base.TheVariants as base
use Rattle.gj_derivation.specs.Derivations.{Line, coefficient_in}
use Rattle.gj_derivation.specs.Checks.{line_of_sum, IsBaseOf, IsMovedRight, IsWideFor}
use Rattle.gj_derivation.proofs.CheckedSteps.{verdict_from, wide_for}
use Rattle.gj_derivation.proofs.NarrowVerdicts.{narrow_with_base, narrow_against}
use Rattle.gj_derivation.proofs.check.verdict_of.Goals as goal

pub returns-in_err-moved-in-Line-clause-wide : goal.returns-in_err-moved-in-Line-clause-wide
returns-in_err-moved-in-Line-clause-wide c = λ fault.
    let f = option_copied c.args.function in
    let p = c.args.problem.now in
    let k = c.args.combination.now in
    let q = c.args.claim.now in
    let made : IsBaseOf f p k (base.Line c.in-Line.sum) = subst (λ (b : Base). IsBaseOf f p k b)
    c.in-Line.is c.in_ok-sum.ensures.is in
    wide_for f p k q c.in-Line.sum made
    (subst (λ (es : List Entry). IsWideFor p.columns k.factor (line_of_sum c.in-Line.sum) es)
    c.as_slice-entries.ensures
    (c.in_err-moved-in-Line.ensures.wide (search rules)))

pub returns-in_ok-moved-in-Line-clause-is : goal.returns-in_ok-moved-in-Line-clause-is
returns-in_ok-moved-in-Line-clause-is c =
    let f = option_copied c.args.function in
    let p = c.args.problem.now in
    let k = c.args.combination.now in
    let q = c.args.claim.now in
    let made : IsBaseOf f p k (base.Line c.in-Line.sum) = subst (λ (b : Base). IsBaseOf f p k b)
    c.in-Line.is c.in_ok-sum.ensures.is in
    verdict_from f p k q c.in-Line.sum made c.in_ok-moved-in-Line.moved c.compared.result
    c.requires.factor_positive
    (subst (λ (es : List Entry). IsMovedRight p.columns k.factor (line_of_sum c.in-Line.sum)
    (coefficient_in es) c.in_ok-moved-in-Line.moved)
    c.as_slice-entries.ensures c.in_ok-moved-in-Line.ensures.is) c.compared.ensures

pub returns-in_ok-moved-in-Line-clause-narrow : goal.returns-in_ok-moved-in-Line-clause-narrow
returns-in_ok-moved-in-Line-clause-narrow c usable =
    let f = option_copied c.args.function in
    let p = c.args.problem.now in
    let k = c.args.combination.now in
    let q = c.args.claim.now in
    narrow_with_base f p k usable (λ (l : Line). IsWideFor p.columns k.factor l q.entries)
    c.in-Line.sum (subst (λ (b : Base). IsBaseOf f p k b) c.in-Line.is c.in_ok-sum.ensures.is)
    c.in_ok-sum.ensures.narrow
    (subst (λ (es : List Entry). IsWideFor p.columns k.factor (line_of_sum c.in-Line.sum) es → ⊥)
    c.as_slice-entries.ensures c.in_ok-moved-in-Line.ensures.narrow)

pub returns-in-Against-clause-narrow : goal.returns-in-Against-clause-narrow
returns-in-Against-clause-narrow c usable =
    let f = option_copied c.args.function in
    let p = c.args.problem.now in
    let k = c.args.combination.now in
    let q = c.args.claim.now in
    narrow_against f p k usable (λ (l : Line). IsWideFor p.columns k.factor l q.entries)
    c.in-Against.verdict
    (subst (λ (b : Base). IsBaseOf f p k b) c.in-Against.is c.in_ok-sum.ensures.is)
    c.in_ok-sum.ensures.narrow
