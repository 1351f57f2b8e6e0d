use Rattle.std.proofs.Common.{◌≡◌, subst}
use Rattle.std.proofs.lemmas.Result.{IfOk-weaker}
use Rattle.std.specs.Option.{option_copied}
use Rattle.gj_derivation.specs.declared.draft.Shown.{Shown}
use Rattle.gj_derivation.specs.declared.draft.Shown.TheVariants.{Against}
use Rattle.gj_derivation.specs.declared.step.Combination.{Combination}
use Rattle.gj_derivation.specs.declared.step.Verdict.TheVariants.{Wide}
use Rattle.gj_derivation.specs.Derivations.{IsUsableFor}
use Rattle.gj_derivation.specs.Drafts.{IsAgainst}
use Rattle.gj_derivation.proofs.CheckedSteps.{usable_function}
use Rattle.gj_derivation.proofs.OneBase.{usable_from}
use Rattle.gj_derivation.proofs.derive.derived_step.Goals as goal

pub returns-clause-narrow : goal.returns-clause-narrow
returns-clause-narrow c =
    let f = option_copied c.args.function in
    let p = c.args.problem.now in
    let d = c.args.draft.now in
    let usable : IsUsableFor f d.combination.rule =
    usable_from f d.combination.rule
    (usable_function f d.combination.rule c.read_bounds.ensures c.requires.ready.function) in
    let Tells : Combination → Shown → Type 0 = λ k x. IsUsableFor f k.rule →
    IsAgainst f c.args.grid p k d.claim Wide → x ≡ Against Wide in
    IfOk-weaker c.shown_by.result (Tells c.in_ok-combination.combination)
    (λ x. IsAgainst f c.args.grid p d.combination d.claim Wide → x ≡ Against Wide)
    (λ x tells. subst (λ (k : Combination). Tells k x) c.in_ok-combination.ensures tells usable)
    c.shown_by.ensures.narrow
