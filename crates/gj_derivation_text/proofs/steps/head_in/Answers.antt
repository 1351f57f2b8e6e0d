use Rattle.std.proofs.Common.{refl}
use Rattle.gj_derivation_text.proofs.StepsRead.{head_breaks}
use Rattle.gj_derivation_text.proofs.steps.head_in.Goals as goal

pub returns-in-Some-clause-broken : goal.returns-in-Some-clause-broken
returns-in-Some-clause-broken c =
    head_breaks c.args.has_function c.args.drafts.now _ _ _ _
    (c.if-not-is_step.ensures.0 refl) c.in-Ok.ensures.found c.in-Some.ensures
