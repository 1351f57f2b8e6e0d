-- A proof text that a command writes is one that the checker accepts.
use Rattle.std.proofs.Common.{◌≡◌, inl, inr, ℕ, ◌≤◌, false, IfSome, List, length, subst, refl, arith}
use Rattle.gj_shape.specs.FunctionData.{FunctionData}
use Rattle.gj_proof.specs.declared.claim.Claim.TheVariants as claim
use Rattle.gj_proof.specs.ProofText.{longest_extreme_text}
use Rattle.gj_proof.specs.Rules.{MeetsRules}
use Rattle.gj_limit_proof.specs.LimitRules.{MeetsLimitRules}
use Rattle.gj_derivation.specs.declared.steps.Checked.{Checked}
use Rattle.gj_derivation.specs.declared.steps.Checked.TheVariants as checked
use Rattle.gj_derivation.specs.Derivations.{IsUsable}
use Rattle.gj_derivation.specs.StepLists.{IsChecked}
use Rattle.gj_derivation_text.specs.declared.input.DerivationInput.{DerivationInput}
use Rattle.gj_extreme.proofs.DecidedTexts.{decided_is_bounded, decided_text_is_short}
use Rattle.gj_top.specs.declared.reply.End.{End}
use Rattle.gj_top.specs.declared.reply.End.TheVariants as end
use Rattle.gj_top.specs.declared.status.Status.{Status}
use Rattle.gj_top.specs.declared.status.Status.TheVariants.{Done}
use Rattle.gj_top.specs.Task.{IsReply}
use Rattle.gj_top.specs.Forms.{IsFunctionInput}
use Rattle.gj_top.specs.Minimal.{IsVerdict, minimal}
use Rattle.gj_top.specs.Check.Checkable.{of_claim, of_limit_claim, of_steps}
use Rattle.gj_top.specs.Check.{Checkable, SpellsCheckable, IsCheckReply, check}
use Rattle.gj_top.specs.Cut.{cut}
use Rattle.gj_top.specs.Derivation.{IsDerivationReply}
use Rattle.gj_top.specs.Extreme.{extreme}
use Rattle.gj_top.specs.LimitExtreme.{IsJumpsExtremality}
use Rattle.gj_top.specs.Told.{Told}
use Rattle.gj_top.specs.Written.{IsWrittenProof, IsWrittenVerdict}
use Rattle.gj_top.specs.InputRead.{input_limit}
use Rattle.gj_top.specs.Answer.{IsAnswerTo}
use Rattle.gj_top.specs.Answer.IsAnswerTo.{too_long, refused, replied}
use Rattle.gj_check.proofs.DemandsOfClaims.{no_failure}
use Rattle.gj_top.proofs.CutForm.{lines_are_bounded}
use Rattle.gj_top.proofs.DerivationReplies.{none_against}
use Rattle.gj_limit_check.proofs.FirstLimitDemand.{no_failure as no_limit_failure}
use Rattle.gj_top.proofs.LimitTexts.{limit_decided_bounded}
use Rattle.gj_top.proofs.OneCheck.{one_checkable}
use Rattle.gj_top.proofs.Sound.{check_sound}
use Rattle.gj_top.proofs.TextLaws.{function_is_bounded, minimal_proof, not_minimal_proof, proof_text_is_short}

-- a check accepts the steps, and cuts by the function in front hold
pub record AreGoodSteps (d : DerivationInput) : Type 0 where
  pub usable : IfSome d.function IsUsable
  pub accepted : (c : Checked) → IsChecked d.function d.problem d.steps c → c ≡ checked.Accepted

-- every rule of a claim holds, or the steps are good
abbrev pub MeetsAll : Checkable → Type 0
MeetsAll (of_claim c) = MeetsRules c
MeetsAll (of_limit_claim c) = MeetsLimitRules c
MeetsAll (of_steps t) = AreGoodSteps t.told

-- the text is the proof of a claim of which every rule holds, or tells steps that are good
pub record IsGoodProof (text : List ℕ) : Type 0 where
  pub about : Checkable
  pub proof : SpellsCheckable text about
  pub rules : MeetsAll about

good_proof : (f : FunctionData) (input text : List ℕ) → IsFunctionInput input f → IsVerdict f text →
    IsGoodProof text
good_proof f input text form (inl v) = record {
  about = of_claim (claim.Minimal f);
  proof = minimal_proof f text (function_is_bounded input f form) v.2;
  rules = v.1;
}
good_proof f input text form (inr v) = record {
  about = of_claim (claim.NotMinimal f v.0);
  proof = not_minimal_proof f v.0 text (function_is_bounded input f form) v.4;
  rules = v.3;
}

-- a verdict is short
verdict_is_short : (f : FunctionData) (input text : List ℕ) → IsFunctionInput input f →
    IsVerdict f text → length text ≤ 1000000
verdict_is_short f input text form (inl v) =
    proof_text_is_short text (claim.Minimal f) tt
    (minimal_proof f text (function_is_bounded input f form) v.2)
verdict_is_short f input text form (inr v) =
    proof_text_is_short text (claim.NotMinimal f v.0) tt
    (not_minimal_proof f v.0 text (function_is_bounded input f form) v.4)

good_steps_end : (t : Told DerivationInput) (e : End) (answer : List ℕ) → AreGoodSteps t.told →
    IsDerivationReply t e answer → e ≡ end.Done
good_steps_end t end.Done answer good h = refl
good_steps_end t end.Rejected answer good (usable, h) =
    let no : checked.Failed h.failure ≡ checked.Accepted =
    good.accepted (checked.Failed h.failure) h.first in absurd (cc)
good_steps_end t e answer good h = absurd (none_against t.told.function e answer good.usable h)

-- the checker's reply to such a claim, or to such steps, ends with Done
good_end : (thing : Checkable) (e : End) (answer : List ℕ) → MeetsAll thing →
    IsCheckReply thing e answer → e ≡ end.Done
good_end (of_claim c) end.Done answer rules j = refl
good_end (of_claim c) end.Rejected answer rules j =
    absurd (no_failure c j.at_line j.rule j.first rules)
good_end (of_claim c) e answer rules j = absurd j
good_end (of_limit_claim c) end.Done answer rules j = refl
good_end (of_limit_claim c) end.Rejected answer rules j =
    absurd (no_limit_failure c j.at_line j.rule j.first rules)
good_end (of_limit_claim c) e answer rules j = absurd j
good_end (of_steps t) e answer rules j = good_steps_end t e answer rules j

-- so the reply to such a text ends with Done
pub accepted_reply : (text answer : List ℕ) (e : End) → IsGoodProof text →
    IsReply check text e answer → e ≡ end.Done
accepted_reply text answer e g r =
    let same : g.about ≡ r.thing = one_checkable text g.about r.thing g.proof r.spelled in
    good_end r.thing e answer (subst MeetsAll same g.rules) r.replied

-- and within the limit of length it is answered so
pub accepted : (text answer : List ℕ) (s : Status) → length text ≤ input_limit → IsGoodProof text →
    IsAnswerTo check text s answer → s ≡ Done
accepted text answer s short g (too_long a) =
    let long = a.long in
    absurd (omega arith)
accepted text answer s short g (refused a) =
    absurd (check_sound.form text answer g.about g.proof a.refused)
accepted text answer s short g (replied a) =
    let ended : a.end ≡ end.Done = accepted_reply text answer a.end g a.reply in
    let is = a.status_is in
    rw ended at is

-- ---- what the commands write

good_verdict : (input text : List ℕ) → IsReply (minimal false) input end.Done text →
    IsGoodProof text
good_verdict input text r = good_proof r.thing input text r.spelled r.replied

good_decision : (input text : List ℕ) → IsReply (extreme false) input end.Done text →
    IsGoodProof text
good_decision input text r = record {
  about = of_claim r.replied.claim;
  proof = record {
    bounded = decided_is_bounded r.thing r.replied.claim
        (function_is_bounded input r.thing r.spelled) r.replied.decided;
    spelled = r.replied.spelled;
  };
  rules = r.replied.rules;
}

-- the decision with `--jumps`, and its length
good_jumps : (f : FunctionData) (input text : List ℕ) → IsFunctionInput input f →
    IsJumpsExtremality false f end.Done text → IsGoodProof text
good_jumps f input text form (inl d) =
    good_decision input text (record { thing = f; spelled = form; replied = d })
good_jumps f input text form (inr d) = record {
  about = of_limit_claim d.claim;
  proof = record {
    bounded = limit_decided_bounded f d.claim (function_is_bounded input f form) d.decided;
    spelled = d.spelled;
  };
  rules = d.rules;
}

jumps_are_short : (f : FunctionData) (input text : List ℕ) → IsFunctionInput input f →
    IsJumpsExtremality false f end.Done text →
    length text ≤ longest_extreme_text
jumps_are_short f input text form (inl d) =
    decided_text_is_short f d.claim text (function_is_bounded input f form) d.decided d.spelled
jumps_are_short f input text form (inr d) = d.short

good_cuts : (input text : List ℕ) → IsReply cut input end.Done text → IsGoodProof text
good_cuts input text r = record {
  about = of_claim (claim.Cut r.thing.rule r.replied.1.cuts.lines);
  proof = record {
    bounded = lines_are_bounded input r.thing r.replied.1.cuts.lines r.spelled
        r.replied.1.cuts.lines_are;
    spelled = r.replied.1.cuts.spelled;
  };
  rules = r.replied.1.rules;
}

verdict_is_good : (input text : List ℕ) → IsWrittenVerdict input text → IsGoodProof text
verdict_is_good input text (inl r) = good_verdict input text r
verdict_is_good input text (inr (inl r)) = good_decision input text r
verdict_is_good input text (inr (inr r)) = good_jumps r.thing input text r.spelled r.replied

pub written_is_good : (input text : List ℕ) → IsWrittenProof input text → IsGoodProof text
written_is_good input text (inl r) = verdict_is_good input text r
written_is_good input text (inr r) = good_cuts input text r

pub written_is_short : (input text : List ℕ) → IsWrittenVerdict input text →
    length text ≤ input_limit
written_is_short input text (inl r) =
    let short : length text ≤ 1000000 = verdict_is_short r.thing input text r.spelled r.replied in
    omega arith
written_is_short input text (inr (inl r)) =
    let d = r.replied in
    let short : length text ≤ longest_extreme_text =
    decided_text_is_short r.thing d.claim text (function_is_bounded input r.thing r.spelled)
    d.decided d.spelled in
    omega arith
written_is_short input text (inr (inr r)) =
    let short : length text ≤ longest_extreme_text =
    jumps_are_short r.thing input text r.spelled r.replied in
    omega arith
