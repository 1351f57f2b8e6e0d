-- The proof text of the claim that a function is minimal, or that it is not, is the verdict.
use Rattle.std.proofs.Common.{inl, inr, ℕ, List, subst}
use Rattle.gj_shape.specs.FunctionData.{FunctionData}
use Rattle.gj_proof.specs.declared.claim.Claim.{Claim}
use Rattle.gj_proof.specs.declared.claim.Claim.TheVariants.{Minimal, NotMinimal}
use Rattle.gj_proof.specs.ProofText.{IsProofText}
use Rattle.gj_verdict_text.specs.MinimalityClaim.{IsMinimalityClaim}
use Rattle.gj_top.specs.Minimal.{IsMinimalText, IsNotMinimalText, IsVerdict}

pub verdict_of_claim : (f : FunctionData) (c : Claim) (text : List ℕ) → IsMinimalityClaim f c →
    IsProofText c text → IsVerdict f text
verdict_of_claim f (Minimal g) text t p =
    inl (t.1, t.2, subst (λ (h : FunctionData). IsMinimalText h text) t.0 p)
verdict_of_claim f (NotMinimal g v) text t p =
    inr (v, t.1, t.2, t.3, subst (λ (h : FunctionData). IsNotMinimalText h v text) t.0 p)
verdict_of_claim f c text t p = absurd t
