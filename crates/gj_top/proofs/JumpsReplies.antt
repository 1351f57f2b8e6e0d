-- The replies to functions that jump, and to others.
use Rattle.std.proofs.Common.{◌≡◌, ◌≢◌, ◌↔◌, ◌⊎◌, inl, inr, ℕ, Bool, true, false, List, refl}
use Rattle.gj_shape.specs.FunctionData.{FunctionData, IsWithinBounds, IsContinuous}
use Rattle.gj_shape.specs.Table.{IsMinimal}
use Rattle.gj_theory.proofs.Violations.{violation_denies, first_shown}
use Rattle.gj_proof.specs.declared.claim.Claim.{Claim}
use Rattle.gj_proof.specs.declared.claim.Claim.TheVariants.{Minimal, NotMinimal, Cut, Extreme, ExtremeByResidues, NotExtreme}
use Rattle.gj_extreme.specs.Decision.{IsDecided}
use Rattle.gj_extreme.proofs.TwoSlopeDecisions.{continuous_no_jump}
use Rattle.gj_top.specs.declared.reply.End.{End}
use Rattle.gj_top.specs.declared.reply.End.TheVariants as end
use Rattle.gj_top.specs.Continuity.{Jumps, NamesFirstJump}
use Rattle.gj_top.specs.Extreme.{IsExtremality}
use Rattle.gj_top.specs.LimitExtreme.{IsLimitExtremality, IsJumpsExtremality}
use Rattle.gj_top.specs.Report.{limit_claims, IsToldReply, IsToldBy}

pub no_jump_named : (f : FunctionData) (x : List ℕ) → IsContinuous f → NamesFirstJump f x → ⊥
no_jump_named f x continuous h = continuous_no_jump f h.index continuous h.first.jump

-- a minimal function that is decided is continuous
pub decided_continuous : (f : FunctionData) (c : Claim) → IsWithinBounds f → IsMinimal f →
    IsDecided f c → IsContinuous f
decided_continuous f (Minimal g) l m h = absurd h
decided_continuous f (NotMinimal g v) l m h =
    absurd (violation_denies f v l (first_shown f v l h.1) m)
decided_continuous f (Cut r rows) l m h = absurd h
decided_continuous f (Extreme g lines rows) l m h = h.2
decided_continuous f (ExtremeByResidues g lines rows) l m h = h.2
decided_continuous f (NotExtreme g halves) l m h = h.2

-- ---- with `--jumps`

-- a reply is one as without the flag, and not that the function jumps; or it is one by limits
abbrev pub IsSplit : Bool → FunctionData → End → List ℕ → Type 0
IsSplit json f e text =
    (IsToldReply json IsExtremality f e text × (e ≢ end.NotContinuous))
    ⊎ IsToldBy limit_claims json IsLimitExtremality f e text

pub split : (json : Bool) (f : FunctionData) (e : End) (text : List ℕ) →
    IsJumpsExtremality json f e text → IsSplit json f e text
split json f end.NotContinuous text h = absurd h
split json f e text (inl h) = inl (h, λ is. cc)
split json f e text (inr h) = inr h

-- a minimal function that is answered as without the flag is continuous, if it is not said to jump
decided_unjumping : (json : Bool) (f : FunctionData) (text : List ℕ) → IsWithinBounds f →
    IsToldReply json IsExtremality f end.Done text → IsMinimal f →
    IsContinuous f
decided_unjumping false f text l h minimal = decided_continuous f h.claim l minimal h.decided
decided_unjumping true f text l h minimal =
    decided_continuous f h.holds.claim l minimal h.holds.decided

pub unjumping : (json : Bool) (f : FunctionData) (e : End) (text : List ℕ) → IsWithinBounds f →
    IsToldReply json IsExtremality f e text →
    e ≢ end.NotContinuous → IsMinimal f → IsContinuous f
unjumping json f end.Done text l h other minimal = decided_unjumping json f text l h minimal
unjumping json f end.Wide text l h other minimal = h.1
unjumping json f end.NotContinuous text l h other minimal = absurd (other refl)
unjumping json f e text l h other minimal = absurd h

-- and one that is answered by limits is minimal and jumps
decided_jumping : (json : Bool) (f : FunctionData) (text : List ℕ) →
    IsToldBy limit_claims json IsLimitExtremality f end.Done text →
    IsMinimal f × Jumps f
decided_jumping false f text h = (h.minimal, h.jumps)
decided_jumping true f text h = (h.holds.minimal, h.holds.jumps)

pub jumping : (json : Bool) (f : FunctionData) (e : End) (text : List ℕ) →
    IsToldBy limit_claims json IsLimitExtremality f e text →
    IsMinimal f × Jumps f
jumping json f end.Done text h = decided_jumping json f text h
jumping json f end.Wide text h = (h.minimal, h.jumps)
jumping json f e text h = absurd h

-- a reply as without the flag is a reply
pub told_without : (json : Bool) (f : FunctionData) (e : End) (text : List ℕ) →
    IsToldReply json IsExtremality f e text → e ≢ end.NotContinuous →
    IsJumpsExtremality json f e text
told_without json f end.NotContinuous text h other = absurd (other refl)
told_without json f e text h other = inl h

-- a function that is not minimal, or continuous, is answered as without the flag
no_jump_told : (json : Bool) (f : FunctionData) (e : End) (text : List ℕ) →
    (IsMinimal f → IsContinuous f) →
    IsToldReply json IsExtremality f e text → e ≢ end.NotContinuous
no_jump_told json f end.NotContinuous text others h is = no_jump_named f text (others h.0) h.1
no_jump_told json f e text others h is = cc

pub same_without : (json : Bool) (f : FunctionData) (e : End) (text : List ℕ) →
    (IsMinimal f → IsContinuous f) →
    (IsJumpsExtremality json f e text ↔ IsToldReply json IsExtremality f e text)
same_without json f e text others = (
  λ h. back (split json f e text h),
  λ h. told_without json f e text h
      (no_jump_told json f e text others h),
)
  where
    back : IsSplit json f e text → IsToldReply json IsExtremality f e text
    back (inl (h, _)) = h
    back (inr h) = let facts = jumping json f e text h in absurd (facts.1 (others facts.0))
