-- The proof text of a decision on a function that jumps keeps what is promised of it, and calls the
-- function extreme exactly if it is.
use Rattle.std.proofs.Common.{◌≡◌, ◌↔◌, ℕ, inl, inr, Bool, true, false, List, sym, subst}
use Rattle.gj_shape.specs.FunctionData.{FunctionData, IsWithinBounds}
use Rattle.gj_shape.specs.Table.{IsMinimal}
use Rattle.gj_shape.specs.declared.extremality.LimitHalves.{LimitHalves}
use Rattle.gj_limit_averages.specs.Averages.{IsExtremeFunction}
use Rattle.gj_limit_proof.specs.declared.claim.LimitClaim.{LimitClaim}
use Rattle.gj_limit_proof.specs.declared.claim.LimitClaim.TheVariants.{Extreme, NotExtreme}
use Rattle.gj_limit_proof.specs.LimitText.{IsLimitProofText}
use Rattle.gj_limit_proof.proofs.LimitOneText.{one_claim}
use Rattle.gj_limit_proof.specs.LimitMeaning.{LimitClaimHolds, ShowLimitHalves}
use Rattle.gj_limit_extreme.specs.Decision.{IsLimitDecided}
use Rattle.gj_top.specs.declared.reply.End.TheVariants as end
use Rattle.gj_top.specs.Continuity.{Jumps}
use Rattle.gj_top.specs.Decisive.{CallsExtremeByLimits}
use Rattle.gj_top.specs.Extreme.{IsDecisionText, IsExtremality, IsTrueExtremality}
use Rattle.gj_top.specs.LimitExtreme.{IsLimitDecisionText, IsLimitExtremeText, IsLimitNotExtremeText, IsTrueLimitExtremality, IsJumpsExtremality, IsTrueJumpsExtremality}
use Rattle.gj_top.specs.Report.{claims, limit_claims, Tells, TellsBy}
use Rattle.gj_top.proofs.Extremality.{extremality_true}
use Rattle.gj_top.proofs.LimitTexts.{limit_decided_bounded, texts_differ}
use Rattle.gj_top.proofs.JumpsReplies.{unjumping}
use Rattle.gj_top.proofs.OneReport.{also_reported, told, told_by, told_exactly_by}

-- ---- what is promised

-- a function that two halves average to is not extreme
pub halves_deny : (f : FunctionData) (h : LimitHalves) → ShowLimitHalves f h → IsExtremeFunction f →
    ⊥
halves_deny f h (m, c, scale, parts) extreme = extreme.no_average m c _ _ parts

by_claim : (f : FunctionData) (c : LimitClaim) (text : List ℕ) → Jumps f → IsLimitDecided f c →
    LimitClaimHolds c → IsLimitProofText c text →
    IsTrueLimitExtremality f text
by_claim f (Extreme numbers g lines rows) text jumps d extreme p =
    let e : g ≡ f = d.0 in
    inl (
      (
        numbers,
        lines,
        rows,
        subst
            (λ (k : FunctionData). IsLimitProofText (Extreme numbers k lines rows) text) e p,
      ),
      jumps,
      subst IsExtremeFunction e extreme,
    )
by_claim f (NotExtreme g h) text jumps d (minimal, shown) p =
    let e : g ≡ f = d.0 in
    let here : ShowLimitHalves f h = subst (λ (k : FunctionData). ShowLimitHalves k h) e shown in
    inr (
      h,
      subst (λ (k : FunctionData). IsLimitNotExtremeText k h text) e p,
      jumps,
      subst IsMinimal e minimal,
      here,
      halves_deny f h here,
    )

pub limit_extremality_true : (f : FunctionData) (text : List ℕ) → IsLimitDecisionText f text →
    IsTrueLimitExtremality f text
limit_extremality_true f text d = by_claim f d.claim text d.jumps d.decided d.holds d.spelled

pub jumps_extremality_true : (json : Bool) (f : FunctionData) (text : List ℕ) → IsWithinBounds f →
    IsJumpsExtremality json f end.Done text →
    IsTrueJumpsExtremality json f text
jumps_extremality_true json f text l (inl h) =
    inl (told json (IsDecisionText f) (IsTrueExtremality f)
    (λ proof. extremality_true f proof l) text h)
jumps_extremality_true json f text l (inr h) =
    inr (told_by limit_claims json (IsLimitDecisionText f) (IsTrueLimitExtremality f)
    (limit_extremality_true f) text h)

-- ---- both ways

to_extreme : (f : FunctionData) (text : List ℕ) → IsWithinBounds f → IsLimitDecisionText f text →
    IsLimitExtremeText f text → IsExtremeFunction f
to_extreme f text l d (numbers, lines, rows, p) =
    let same : d.claim ≡ Extreme numbers f lines rows =
    one_claim d.claim (Extreme numbers f lines rows) text
    (limit_decided_bounded f d.claim l d.decided) l d.spelled p in
    subst LimitClaimHolds same d.holds

from_extreme : (f : FunctionData) (text : List ℕ) → IsTrueLimitExtremality f text →
    IsExtremeFunction f → IsLimitExtremeText f text
from_extreme f text (inl e) extreme = e.0
from_extreme f text (inr (h, spelled, jumps, minimal, shown, denied)) extreme =
    absurd (denied extreme)

-- a proof text that is not about functions that jump does not call f extreme by limits
never_called : (json : Bool) (f : FunctionData) (text : List ℕ) →
    Tells json (IsDecisionText f) text → CallsExtremeByLimits json f text → ⊥
never_called false f text d (numbers, lines, rows, p) =
    texts_differ d.claim (Extreme numbers f lines rows) text d.spelled p
never_called true f text r s =
    texts_differ r.claim s.claim r.proof r.spelled
    (subst (λ (t : List ℕ). IsLimitProofText s.claim t)
    (also_reported claims limit_claims (IsDecisionText f) (IsLimitExtremeText f) text r s)
    s.spelled)

-- of a function that jumps
pub called_by_limits : (json : Bool) (f : FunctionData) (text : List ℕ) → IsWithinBounds f →
    Jumps f → IsJumpsExtremality json f end.Done text →
    (CallsExtremeByLimits json f text ↔ IsExtremeFunction f)
called_by_limits json f text l jumps (inl h) = (
  λ called. absurd (never_called json f text h called),
  λ extreme. absurd (jumps (unjumping json f end.Done text l h (λ is. cc) extreme.minimal)),
)
called_by_limits json f text l jumps (inr h) =
    told_exactly_by limit_claims json (IsLimitDecisionText f) (IsLimitExtremeText f)
    (IsExtremeFunction f)
    (λ proof d. (to_extreme f proof l d, from_extreme f proof (limit_extremality_true f proof d)))
    text h
