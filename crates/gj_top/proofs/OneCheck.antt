-- The commands `check` and `derive` have one answer.
use Rattle.std.proofs.Common.{inl, inr, ap}
use Rattle.gj_proof.proofs.OneText.{one_fault as one_proof_fault}
use Rattle.gj_derivation_text.specs.DerivationInputs.{IsDerivationText, IsDraftText}
use Rattle.gj_derivation_text.proofs.ReadableText.{derivation_is_readable, drafts_are_readable}
use Rattle.gj_top.specs.Check.Checkable.{of_claim, of_limit_claim, of_steps}
use Rattle.gj_top.specs.Check.{check_form, RefusesCheckable, IsCheckReply, check}
use Rattle.gj_top.specs.Derive.{derive}
use Rattle.gj_top.proofs.DerivationForms.{one_draft_fault, one_derivation_fault, one_drafts, one_derivation, one_told, proof_begins_otherwise, derivation_begins}
use Rattle.gj_top.proofs.Determined.{SpellsOne, RefusesOne, RepliesOne, IsDetermined, one_named_fault}
use Rattle.gj_limit_proof.proofs.LimitOneText.{one_fault as one_limit_fault}
use Rattle.gj_top.proofs.LimitTexts.{limit_begins_otherwise, one_limit_proof, texts_differ}
use Rattle.gj_top.proofs.OneLimitVerdict.{one_limit_judgement}
use Rattle.gj_top.proofs.OneSteps.{one_check_reply, one_derive_reply}
use Rattle.gj_top.proofs.OneVerdict.{one_judgement}
use Rattle.gj_top.proofs.TextLaws.{one_proof}

pub one_checkable : SpellsOne check_form
one_checkable input (of_claim c) (of_claim d) h k = ap of_claim (one_proof input c d h k)
one_checkable input (of_claim c) (of_limit_claim d) h k =
    absurd (texts_differ c d input h.spelled k.spelled)
one_checkable input (of_claim c) (of_steps t) h k =
    absurd (proof_begins_otherwise c input h.spelled (derivation_begins input t.told k.1))
one_checkable input (of_limit_claim c) (of_claim d) h k =
    absurd (texts_differ d c input k.spelled h.spelled)
one_checkable input (of_limit_claim c) (of_limit_claim d) h k =
    ap of_limit_claim (one_limit_proof input c d h k)
one_checkable input (of_limit_claim c) (of_steps t) h k =
    absurd (limit_begins_otherwise c input h.spelled (derivation_begins input t.told k.1))
one_checkable input (of_steps t) (of_claim c) h k =
    absurd (proof_begins_otherwise c input k.spelled (derivation_begins input t.told h.1))
one_checkable input (of_steps t) (of_limit_claim c) h k =
    absurd (limit_begins_otherwise c input k.spelled (derivation_begins input t.told h.1))
one_checkable input (of_steps t) (of_steps u) h k =
    ap of_steps (one_told IsDerivationText one_derivation input t u h k)

one_refusal : RefusesOne RefusesCheckable
one_refusal input x y (inl (begins, h)) (inl (begins', k)) =
    one_named_fault _ (λ n m e d. one_derivation_fault input n m e d) x y h k
one_refusal input x y (inl (begins, h)) (inr (inl (not, limits, k))) = absurd (not begins)
one_refusal input x y (inl (begins, h)) (inr (inr (not, none, k))) = absurd (not begins)
one_refusal input x y (inr (inl (not, limits, h))) (inl (begins, k)) = absurd (not begins)
one_refusal input x y (inr (inl (not, limits, h))) (inr (inl (not', limits', k))) =
    one_named_fault _ (λ n m e d. one_limit_fault input n m e d) x y h k
one_refusal input x y (inr (inl (not, limits, h))) (inr (inr (not', none, k))) =
    absurd (none limits)
one_refusal input x y (inr (inr (not, none, h))) (inl (begins, k)) = absurd (not begins)
one_refusal input x y (inr (inr (not, none, h))) (inr (inl (not', limits, k))) =
    absurd (none limits)
one_refusal input x y (inr (inr (not, none, h))) (inr (inr (not', none', k))) =
    one_named_fault _ (λ n m e d. one_proof_fault input n m e d) x y h k

one_reply : RepliesOne check_form IsCheckReply
one_reply input (of_claim c) spelled e d x y h k = one_judgement c e d x y h k
one_reply input (of_limit_claim c) spelled e d x y h k = one_limit_judgement c e d x y h k
one_reply input (of_steps t) spelled e d x y h k =
    one_check_reply t (derivation_is_readable input t.told spelled.1).0.function e d x y h k

pub check_is_determined : IsDetermined check
check_is_determined = record { spells = one_checkable; refuses = one_refusal; replies = one_reply }

pub derive_is_determined : IsDetermined derive
derive_is_determined = record {
  spells = one_told IsDraftText one_drafts;
  refuses = λ input x y h k. one_named_fault _ (λ n m e d. one_draft_fault input n m e d) x y h k;
  replies = λ input t spelled. one_derive_reply t
      (drafts_are_readable input t.told spelled.1).function;
}
