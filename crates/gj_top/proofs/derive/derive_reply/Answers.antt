use Rattle.std.proofs.Common.{◌≡◌, IfSome, Option, sym, ap, subst, ◌∙◌}
use Rattle.std.specs.Option.{option_copied}
use Rattle.gj_shape.specs.FunctionData.{FunctionData}
use Rattle.gj_derivation.specs.Derivations.{IsUsable}
use Rattle.gj_derivation_text.specs.Readable.{AreReadable}
use Rattle.gj_proof.specs.CutRules.{MakesContinuousCuts}
use Rattle.gj_proof.specs.ProofText.{IsBoundedRule}
use Rattle.gj_top.specs.Derivation.{function_of}
use Rattle.gj_top.specs.Derive.{IsDeriveReply}
use Rattle.gj_top.proofs.DerivationReplies.{same_function, usable, derived_objection}
use Rattle.gj_top.proofs.derive.derive_reply.Goals as goal

pub returns-in-Some : goal.returns-in-Some
returns-in-Some c =
    let objection = c.in-Some.objection in
    derived_objection (record { text = c.args.input.now; told = c.args.told }) objection.end
    objection.text.items
    (rw c.rule_in_front-rule.ensures at (rw c.in-Some.is at c.in_ok-objection.ensures.some))

pub derived_reply-requires-clause-readable : goal.derived_reply-requires-clause-readable
derived_reply-requires-clause-readable c =
    let drafts = c.args.told.drafts in
    let same : option_copied c.function_in.result ≡ c.args.told.function =
    c.function_in.ensures ∙ ap function_of c.rule_in_front-rule.ensures
    ∙ same_function c.args.told.function in
    subst (λ (g : Option FunctionData). AreReadable g drafts) (sym same) c.requires

pub derived_reply-requires-clause-usable : goal.derived_reply-requires-clause-usable
derived_reply-requires-clause-usable c =
    let f = c.args.told.function in
    let makes : MakesContinuousCuts c.rule_in_front-rule.result =
    rw c.in_default.is at c.in_ok-objection.ensures.none in
    let bounded : IsBoundedRule c.rule_in_front-rule.result =
    rw c.in_default.is at c.in_ok-objection.ensures.bounded in
    let is = c.rule_in_front-rule.ensures in
    let same : option_copied c.function_in.result ≡ f = c.function_in.ensures ∙ ap function_of is
    ∙ same_function f in
    subst (λ (g : Option FunctionData). IfSome g IsUsable) (sym same)
    (usable f (subst IsBoundedRule is bounded) (subst MakesContinuousCuts is makes))

pub returns : goal.returns
returns c =
    let drafts = c.args.told.drafts in
    let reply = c.in_ok-reply.reply in
    let same : option_copied c.function_in.result ≡ c.args.told.function =
    c.function_in.ensures ∙ ap function_of c.rule_in_front-rule.ensures
    ∙ same_function c.args.told.function in
    subst (λ (g : Option FunctionData). IsDeriveReply
    (record { text = c.args.input.now; told = record { function = g; drafts = drafts } })
    reply.end reply.text.items) same c.in_ok-reply.ensures
