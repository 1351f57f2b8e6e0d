-- A claim about a function that jumps has one judgement, and such a function one verdict.
use Rattle.std.proofs.Common.{◌≡◌, ◌≢◌, ◌↔◌, ◌⊎◌, ◌<◌, ◌≤◌, inl, inr, ℕ, Bool, true, false, List, length, refl, sym, ap₂, subst, ◌∙◌, arith}
use Rattle.gj_shape.specs.FunctionData.{FunctionData, IsWithinBounds, IsContinuous}
use Rattle.gj_shape.specs.Table.{IsMinimal}
use Rattle.gj_proof.specs.ProofText.{longest_extreme_text}
use Rattle.gj_limit_proof.specs.declared.claim.LimitClaim.{LimitClaim}
use Rattle.gj_limit_proof.specs.LimitText.{IsLimitProofText}
use Rattle.gj_limit_proof.proofs.LimitOneText.{one_text}
use Rattle.gj_limit_check.proofs.FirstLimitDemand.{one_failure, no_failure}
use Rattle.gj_limit_extreme.specs.Decision.{IsLimitDecided, IsLimitTooWide}
use Rattle.gj_limit_extreme.proofs.NotTooWide.{decided_not_wide}
use Rattle.gj_limit_extreme.proofs.OneDecision.{one_decision}
use Rattle.gj_top.specs.declared.reply.End.{End}
use Rattle.gj_top.specs.declared.reply.End.TheVariants as end
use Rattle.gj_top.specs.Check.{IsLimitJudgement, IsLimitRejected, rejected_line}
use Rattle.gj_top.specs.Continuity.{Jumps}
use Rattle.gj_top.specs.Extreme.{IsExtremality}
use Rattle.gj_top.specs.LimitExtreme.{HasLongProof, IsLimitDecisionText, IsLimitWideText, IsLimitExtremality, IsJumpsExtremality}
use Rattle.gj_top.specs.Report.{limit_claims, IsToldReply, IsToldBy}
use Rattle.gj_top.proofs.Determined.{AnswersOne}
use Rattle.gj_top.proofs.JumpsReplies.{IsSplit, split, unjumping, jumping}
use Rattle.gj_top.proofs.LimitTexts.{limit_decided_bounded}
use Rattle.gj_top.proofs.OneReported.{one_told_reply, one_told_limit_reply}
use Rattle.gj_top.proofs.OneVerdict.{one_extremality}

-- ---- what the checker says

one_rejection : (c : LimitClaim) (x y : List ℕ) → IsLimitRejected c x → IsLimitRejected c y → x ≡ y
one_rejection c x y h k =
    let same = one_failure c h.at_line k.at_line h.rule k.rule h.first k.first in
    h.spelled ∙ ap₂ rejected_line same.0 same.1 ∙ sym k.spelled

pub one_limit_judgement : (c : LimitClaim) (e d : End) (x y : List ℕ) → IsLimitJudgement c e x →
    IsLimitJudgement c d y → (e ≡ d) × (x ≡ y)
one_limit_judgement c end.Done end.Done x y h k = (refl, h.spelled ∙ sym k.spelled)
one_limit_judgement c end.Done end.Rejected x y h k =
    absurd (no_failure c k.at_line k.rule k.first h.rules)
one_limit_judgement c end.Rejected end.Done x y h k =
    absurd (no_failure c h.at_line h.rule h.first k.rules)
one_limit_judgement c end.Rejected end.Rejected x y h k = (refl, one_rejection c x y h k)
one_limit_judgement c end.Done d x y h k = absurd k
one_limit_judgement c end.Rejected d x y h k = absurd k
one_limit_judgement c e d x y h k = absurd h

-- ---- decisions on functions that jump

-- the decision has one proof text
one_proof_text : (f : FunctionData) (c d : LimitClaim) (x y : List ℕ) → IsWithinBounds f →
    IsLimitDecided f c → IsLimitDecided f d →
    IsLimitProofText c x → IsLimitProofText d y → x ≡ y
one_proof_text f c d x y l h k p q =
    let same : d ≡ c = one_decision f d c l k h in
    one_text c x y (limit_decided_bounded f c l h) p
    (subst (λ (claim : LimitClaim). IsLimitProofText claim y) same q)

decided_narrow : (f : FunctionData) (x : List ℕ) → IsWithinBounds f → IsLimitDecisionText f x →
    IsLimitTooWide f ⊎ HasLongProof f → ⊥
decided_narrow f x l h (inl wide) = decided_not_wide f h.claim l h.spelled.has_text h.decided wide
decided_narrow f x l h (inr long) =
    let same : x ≡ long.proof =
    one_proof_text f h.claim long.claim x long.proof l h.decided long.decided h.spelled
    long.spelled in
    let short : length long.proof ≤ longest_extreme_text =
    subst (λ t. length t ≤ longest_extreme_text) same h.short in
    let more = long.long in
    omega arith

pub one_limit_extremality : AnswersOne IsLimitExtremality
one_limit_extremality f l end.Done end.Done x y h k =
    (refl, one_proof_text f h.claim k.claim x y l h.decided k.decided h.spelled k.spelled)
one_limit_extremality f l end.Done end.Wide x y h k = absurd (decided_narrow f x l h k.wide)
one_limit_extremality f l end.Wide end.Done x y h k = absurd (decided_narrow f y l k h.wide)
one_limit_extremality f l end.Wide end.Wide x y h k = (refl, h.spelled ∙ sym k.spelled)
one_limit_extremality f l end.Done d x y h k = absurd k
one_limit_extremality f l end.Wide d x y h k = absurd k
one_limit_extremality f l e d x y h k = absurd h

-- ---- with `--jumps`

never_both : (json : Bool) (f : FunctionData) (e d : End) (x y : List ℕ) → IsWithinBounds f →
    IsToldReply json IsExtremality f e x →
    e ≢ end.NotContinuous → IsToldBy limit_claims json IsLimitExtremality f d y → ⊥
never_both json f e d x y l h other k = let facts = jumping json f d y k in
    facts.1 (unjumping json f e x l h other facts.0)

pub one_jumps_extremality : (json : Bool) → AnswersOne (IsJumpsExtremality json)
one_jumps_extremality json f l e d x y h k = go (split json f e x h) (split json f d y k)
  where
    go : IsSplit json f e x → IsSplit json f d y → (e ≡ d) × (x ≡ y)
    go (inl (a, _)) (inl (b, _)) = one_told_reply json IsExtremality one_extremality f l e d x y a b
    go (inl (a, other)) (inr b) = absurd (never_both json f e d x y l a other b)
    go (inr a) (inl (b, other)) = absurd (never_both json f d e y x l b other a)
    go (inr a) (inr b) =
        one_told_limit_reply json IsLimitExtremality one_limit_extremality f l e d x y a b
