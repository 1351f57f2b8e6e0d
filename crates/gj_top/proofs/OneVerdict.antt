-- A claim has one judgement, and a function one verdict.
use Rattle.std.proofs.Common.{◌≡◌, inl, inr, ℕ, Bool, true, false, pos, ◌++◌, List, codes, decimal, refl, sym, ap, ap₂, subst, ◌∙◌, arith}
use Rattle.std.proofs.lemmas.Bool.{cases_lt}
use Rattle.std.proofs.lemmas.Int.{ints}
use Rattle.gj_frac.specs.Fraction.{IsRatio}
use Rattle.gj_frac.proofs.SameValues.{same_from_is}
use Rattle.gj_function_lines.specs.FunctionLines.{line, fraction_line}
use Rattle.gj_shape.specs.FunctionData.{FunctionData, IsWithinBounds, IsContinuous, IsFirstJump}
use Rattle.gj_shape.specs.Table.{IsMinimal}
use Rattle.gj_shape.specs.declared.violations.Violation.{Violation}
use Rattle.gj_theory.proofs.Violations.{violation_denies}
use Rattle.gj_function_text.proofs.OneText.{one_first_fault as one_function_fault}
use Rattle.gj_json.proofs.OneReason.{one_reason as one_json_reason}
use Rattle.gj_proof.specs.declared.claim.Claim.{Claim}
use Rattle.gj_proof.specs.declared.claim.Claim.TheVariants.{Minimal, NotMinimal, Cut, Extreme, ExtremeByResidues, NotExtreme}
use Rattle.gj_proof.specs.ProofText.{IsProofText}
use Rattle.gj_proof.proofs.OneText.{one_text}
use Rattle.gj_check.proofs.DemandsOfClaims.{one_failure, no_failure}
use Rattle.gj_extreme.proofs.DecidedTexts.{decided_is_bounded}
use Rattle.gj_extreme.proofs.NotTooWide.{decided_not_wide}
use Rattle.gj_extreme.proofs.OneDecision.{one_decision}
use Rattle.gj_extreme.proofs.OneViolation.{one_violation}
use Rattle.gj_top.specs.declared.reply.End.{End}
use Rattle.gj_top.specs.declared.reply.End.TheVariants as end
use Rattle.gj_top.specs.Continuity.{NamesFirstJump, IsContinuousReply}
use Rattle.gj_top.specs.Check.{IsJudgement, IsRejected, rejected_line}
use Rattle.gj_top.specs.Extreme.{IsDecisionText, IsExtremality, IsJumpText, IsWideText}
use Rattle.gj_top.specs.Forms.{RefusesFunction, json_refused_line, function_task}
use Rattle.gj_top.specs.Minimal.{IsVerdict}
use Rattle.gj_top.proofs.Determined.{RefusesOne, AnswersOne, IsDetermined, one_named_fault}
use Rattle.gj_top.proofs.JumpsReplies.{decided_continuous, no_jump_named}
use Rattle.gj_top.proofs.TextLaws.{spelled_is_bounded, one_spelled}

-- ---- the forms

one_refusal : (json : Bool) → RefusesOne (RefusesFunction json)
one_refusal false input x y h k =
    one_named_fault _ (λ n m e d. one_function_fault input n m e d) x y h k
one_refusal true input x y h k =
    h.spelled ∙ ap json_refused_line (one_json_reason input h.reason k.reason h.first k.first)
    ∙ sym k.spelled

-- a task about functions
pub of_functions : (json : Bool) (headline : FunctionData → List ℕ → Type 0)
    (replies : FunctionData → End → List ℕ → Type 0) →
    AnswersOne replies → IsDetermined (function_task json headline replies)
of_functions json headline replies one = record {
  spells = one_spelled json;
  refuses = one_refusal json;
  replies = λ input f spelled. one f (spelled_is_bounded json input f spelled);
}

-- ---- the first jump

-- a function has one first jump
pub one_jump : (f : FunctionData) (i j : ℕ) → IsFirstJump f i → IsFirstJump f j → i ≡ j
one_jump f i j h k = elim (cases_lt i j) [
  | inl less ↦ absurd (k.first i less h.jump)
  | inr more ↦ elim (cases_lt j i) [
    | inl less ↦ absurd (h.first j less k.jump)
    | inr same ↦ omega arith
  ]
]

pub one_jump_text : (f : FunctionData) (x y : List ℕ) → IsWithinBounds f → NamesFirstJump f x →
    NamesFirstJump f y → x ≡ y
one_jump_text f x y l h k =
    let same : k.index ≡ h.index = one_jump f k.index h.index k.first h.first in
    let low = l.order_low in
    let point : h.point ≡ k.point =
    same_from_is h.point k.point (pos h.index) (pos f.order) (omega (arith, ints)) h.point_is
    (subst (λ (i : ℕ). IsRatio k.point (pos i) (pos f.order)) same k.point_is) in
    h.spelled ∙ ap (fraction_line (codes "not continuous ")) point ∙ sym k.spelled

-- a function has one reply if it has one as a continuous function
pub one_continuous : (replies : FunctionData → End → List ℕ → Type 0) → AnswersOne replies →
    AnswersOne (IsContinuousReply replies)
one_continuous replies one f l end.NotContinuous end.NotContinuous x y h k =
    (refl, one_jump_text f x y l h k)
one_continuous replies one f l end.NotContinuous d x y h k = absurd (no_jump_named f x k.0 h)
one_continuous replies one f l e end.NotContinuous x y h k = absurd (no_jump_named f y h.0 k)
one_continuous replies one f l e d x y h k = one f l e d x y h.1 k.1

-- ---- verdicts on minimality

pub one_verdict : (f : FunctionData) (x y : List ℕ) → IsWithinBounds f → IsVerdict f x →
    IsVerdict f y → x ≡ y
one_verdict f x y l (inl h) (inl k) = one_text (Minimal f) x y l h.2 k.2
one_verdict f x y l (inl h) (inr k) = absurd (violation_denies f k.0 l k.2 h.0)
one_verdict f x y l (inr h) (inl k) = absurd (violation_denies f h.0 l h.2 k.0)
one_verdict f x y l (inr h) (inr k) =
    let same : k.0 ≡ h.0 = one_violation f k.0 h.0 l k.1 h.1 in
    one_text (NotMinimal f h.0) x y l h.4
    (subst (λ (v : Violation). IsProofText (NotMinimal f v) y) same k.4)

-- ---- what the checker says

one_rejection : (c : Claim) (x y : List ℕ) → IsRejected c x → IsRejected c y → x ≡ y
one_rejection c x y h k =
    let same = one_failure c h.at_line k.at_line h.rule k.rule h.first k.first in
    h.spelled ∙ ap₂ rejected_line same.0 same.1 ∙ sym k.spelled

pub one_judgement : (c : Claim) (e d : End) (x y : List ℕ) → IsJudgement c e x → IsJudgement c d y →
    (e ≡ d) × (x ≡ y)
one_judgement c end.Done end.Done x y h k = (refl, h.spelled ∙ sym k.spelled)
one_judgement c end.Done end.Rejected x y h k =
    absurd (no_failure c k.at_line k.rule k.first h.rules)
one_judgement c end.Rejected end.Done x y h k =
    absurd (no_failure c h.at_line h.rule h.first k.rules)
one_judgement c end.Rejected end.Rejected x y h k = (refl, one_rejection c x y h k)
one_judgement c end.Done d x y h k = absurd k
one_judgement c end.Rejected d x y h k = absurd k
one_judgement c e d x y h k = absurd h

-- ---- decisions on extremality

one_decision_text : (f : FunctionData) (x y : List ℕ) → IsWithinBounds f → IsDecisionText f x →
    IsDecisionText f y → x ≡ y
one_decision_text f x y l h k =
    let same : k.claim ≡ h.claim = one_decision f k.claim h.claim l k.decided h.decided in
    one_text h.claim x y (decided_is_bounded f h.claim l h.decided) h.spelled
    (subst (λ (c : Claim). IsProofText c y) same k.spelled)

decided_no_jump : (f : FunctionData) (x y : List ℕ) → IsWithinBounds f → IsDecisionText f x →
    IsJumpText f y → ⊥
decided_no_jump f x y l h k = no_jump_named f y (decided_continuous f h.claim l k.0 h.decided) k.1

decided_narrow : (f : FunctionData) (x y : List ℕ) → IsWithinBounds f → IsDecisionText f x →
    IsWideText f y → ⊥
decided_narrow f x y l h k = decided_not_wide f h.claim l k.0 h.spelled.has_text h.decided k.2

pub one_extremality : AnswersOne IsExtremality
one_extremality f l end.Done end.Done x y h k = (refl, one_decision_text f x y l h k)
one_extremality f l end.Done end.NotContinuous x y h k = absurd (decided_no_jump f x y l h k)
one_extremality f l end.Done end.Wide x y h k = absurd (decided_narrow f x y l h k)
one_extremality f l end.NotContinuous end.Done x y h k = absurd (decided_no_jump f y x l k h)
one_extremality f l end.NotContinuous end.NotContinuous x y h k =
    (refl, one_jump_text f x y l h.1 k.1)
one_extremality f l end.NotContinuous end.Wide x y h k = absurd (no_jump_named f x k.1 h.1)
one_extremality f l end.Wide end.Done x y h k = absurd (decided_narrow f y x l k h)
one_extremality f l end.Wide end.NotContinuous x y h k = absurd (no_jump_named f y h.1 k.1)
one_extremality f l end.Wide end.Wide x y h k = (refl, h.3 ∙ sym k.3)
one_extremality f l end.Done d x y h k = absurd k
one_extremality f l end.NotContinuous d x y h k = absurd k
one_extremality f l end.Wide d x y h k = absurd k
one_extremality f l e d x y h k = absurd h
