-- The claim about the cuts of the rows of a tableau (Gomory and Johnson 1972; the form is own).
use Rattle.std.specs.Prelude.{ℕ, ◌≡◌, List, All}
use Rattle.std.specs.List.{AllZip}
use Rattle.gj_row.specs.declared.tableau.Tableau.{Tableau}
use Rattle.gj_proof.specs.Meaning.{CutLineHolds}
use Rattle.gj_proof.specs.ProofText.{IsProofText}
use Rattle.gj_proof.specs.Rules.{MeetsRules}
use Rattle.gj_proof.specs.declared.claim.Claim.{Claim}
use Rattle.gj_proof.specs.declared.claim.Claim.TheVariants.{Cut}
use Rattle.gj_proof.specs.declared.cut.CutLine.{CutLine}
use Rattle.gj_proof.specs.declared.cut.CutRule.{CutRule}
use Rattle.gj_cut_text.specs.CutLines.{IsLineFor}

-- the claim has a line for each row, in their order; each cut holds at every solution of its row,
-- and every rule of the checker holds of the claim
pub record IsCutClaim (r : CutRule) (t : Tableau) (c : Claim) : Type 0 where
  pub lines : List CutLine
  pub claim_is : c ≡ Cut r lines
  pub lines_are : AllZip (IsLineFor r t.columns) t.rows lines
  pub hold : All CutLineHolds lines
  pub rules : MeetsRules (Cut r lines)

-- the text is the proof text of that claim
pub record IsTextOfCuts (r : CutRule) (t : Tableau) (text : List ℕ) : Type 0 where
  pub claim : Claim
  pub is_claim : IsCutClaim r t claim
  pub spelled : IsProofText claim text
