use Rattle.std.proofs.Common.{List, ℕ, subst}
use Rattle.gj_proof.specs.declared.claim.Claim.{Claim}
use Rattle.gj_proof.specs.ProofText.{IsProofText}
use Rattle.gj_cut_text.specs.CutClaim.{IsTextOfCuts}
use Rattle.gj_top.specs.Cut.{AreCheckedCutsOf, CutInput}
use Rattle.gj_top.proofs.cut.cuts_or_violation.Goals as goal

-- the text of the claim is that of checked cuts
checked_cuts : (input : CutInput) (text : List ℕ) → IsTextOfCuts input.rule input.tableau text →
    AreCheckedCutsOf input text
checked_cuts input text made = record {
  cuts = record {
    lines = made.is_claim.lines;
    lines_are = made.is_claim.lines_are;
    hold = made.is_claim.hold;
    spelled = subst (λ (p : Claim). IsProofText p text) made.is_claim.claim_is made.spelled;
  };
  rules = made.is_claim.rules;
}

pub returns-in_ok-cuts_text-in-None : goal.returns-in_ok-cuts_text-in-None
returns-in_ok-cuts_text-in-None c = (
  c.in-None.ensures.none.makes_cuts,
  checked_cuts c.args.input.now _ c.in_ok-cuts_text-in-None.ensures,
)
