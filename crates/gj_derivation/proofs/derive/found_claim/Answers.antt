use Rattle.std.proofs.Common.{subst}
use Rattle.std.proofs.lemmas.Result.{IfOk-weaker, on_ok_weaker}
use Rattle.std.specs.Option.{option_copied}
use Rattle.gj_derivation.specs.declared.base.Base.{Base}
use Rattle.gj_derivation.specs.declared.base.Base.TheVariants as base
use Rattle.gj_derivation.specs.declared.draft.Claim.TheVariants.{Absent}
use Rattle.gj_derivation.specs.Derivations.{Line, IsUsableFor}
use Rattle.gj_derivation.specs.Checks.{line_of_sum, IsBaseOf}
use Rattle.gj_derivation.specs.Drafts.{IsFoundIn, IsFilled, IsWideFinding}
use Rattle.gj_derivation.proofs.NarrowVerdicts.{narrow_with_base, narrow_against}
use Rattle.gj_derivation.proofs.FilledClaims.{found_filled, found_wide}
use Rattle.gj_derivation.proofs.derive.found_claim.Goals as goal

pub returns-in-Line-clause-is : goal.returns-in-Line-clause-is
returns-in-Line-clause-is c =
    let f = option_copied c.args.function in
    let p = c.args.problem.now in
    let k = c.args.combination.now in
    let made : IsBaseOf f p k (base.Line c.in-Line.sum) =
    subst (λ (b : Base). IsBaseOf f p k b) c.in-Line.is c.in_ok-sum.ensures.is in
    IfOk-weaker c.found_in.result (IsFoundIn c.args.grid p.columns k.factor
    (line_of_sum c.in-Line.sum)) (IsFilled f c.args.grid p k Absent)
    (λ filled h. found_filled f c.args.grid p k c.in-Line.sum made filled
    c.requires.ready.factor_positive h) c.found_in.ensures.is

pub returns-in-Line-clause-wide : goal.returns-in-Line-clause-wide
returns-in-Line-clause-wide c = λ fault.
    let f = option_copied c.args.function in
    let p = c.args.problem.now in
    let k = c.args.combination.now in
    let made : IsBaseOf f p k (base.Line c.in-Line.sum) =
    subst (λ (b : Base). IsBaseOf f p k b) c.in-Line.is c.in_ok-sum.ensures.is in
    found_wide f c.args.grid p k c.in-Line.sum made (c.found_in.ensures.wide fault)

pub returns-in-Line-clause-narrow : goal.returns-in-Line-clause-narrow
returns-in-Line-clause-narrow c =
    let f = option_copied c.args.function in
    let p = c.args.problem.now in
    let k = c.args.combination.now in
    on_ok_weaker c.found_in.result
    (λ (narrow : IsWideFinding c.args.grid p.columns k.factor (line_of_sum c.in-Line.sum) → ⊥)
    (usable : IsUsableFor f k.rule).
    narrow_with_base f p k usable (λ (l : Line). IsWideFinding c.args.grid p.columns k.factor l)
    c.in-Line.sum (subst (λ (b : Base). IsBaseOf f p k b) c.in-Line.is c.in_ok-sum.ensures.is)
    c.in_ok-sum.ensures.narrow narrow)
    c.found_in.ensures.narrow

pub returns-in-Against-clause-narrow : goal.returns-in-Against-clause-narrow
returns-in-Against-clause-narrow c usable =
    let f = option_copied c.args.function in
    let p = c.args.problem.now in
    let k = c.args.combination.now in
    narrow_against f p k usable (λ (l : Line). IsWideFinding c.args.grid p.columns k.factor l)
    c.in-Against.verdict
    (subst (λ (b : Base). IsBaseOf f p k b) c.in-Against.is c.in_ok-sum.ensures.is)
    c.in_ok-sum.ensures.narrow
