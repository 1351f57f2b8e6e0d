-- The fault of a line of a proof text is that of the text.
use Rattle.std.proofs.Common.{◌≡◌, List, ℕ}
use Rattle.gj_lex.specs.declared.spelling.Spelling.TheVariants.{Strict}
use Rattle.gj_forms.specs.declared.fault.PartFault.{PartFault}
use Rattle.gj_forms.specs.Parts.{made_part, end_part, IsFaultOf, IsTail}
use Rattle.gj_forms.proofs.PartLaws.{fault_in_first, fault_in_next, fault_in_made, tail_refused}
use Rattle.gj_shape.specs.FunctionData.{FunctionData}
use Rattle.gj_shape.specs.declared.violations.Violation.{Violation}
use Rattle.gj_function_lines.specs.FunctionGrammar.{function_part}
use Rattle.gj_proof.specs.ProofGrammar.{claim_part, proof_text}
use Rattle.gj_proof.specs.declared.claim.Claim.{Claim}
use Rattle.gj_proof.specs.declared.claim.Claim.TheVariants as claims
use Rattle.gj_proof.specs.declared.claim.ClaimWord.{ClaimWord}
use Rattle.gj_proof.specs.declared.claim.ClaimWord.TheVariants.{NotMinimal}
use Rattle.gj_proof.specs.declared.numbers.Numbers.{Numbers}
use Rattle.gj_proof.proofs.ReadTexts.{title_part, word_part, last_part, violation_part, named_claim, after_claim, after_title}

-- ---- in the claim

pub fault_in_violation : (text middle : List ℕ) (f : FunctionData) (fault : PartFault) →
    (function_part Strict).Reads text f middle →
    IsFaultOf violation_part middle fault → IsFaultOf (claim_part NotMinimal) text fault
fault_in_violation text middle f fault reads h =
    fault_in_next (function_part Strict)
    (λ g. made_part (λ (v : Violation) c. c ≡ claims.NotMinimal g v) violation_part) text f middle
    fault reads
    (fault_in_made (λ (v : Violation) c. c ≡ claims.NotMinimal f v) violation_part middle fault h)

-- ---- in the text

module _ (text m : List ℕ) (n : Numbers) (fault : PartFault)
    (title : title_part.Reads text n m) where
  behind_title : IsFaultOf (after_title n) m fault → IsFaultOf proof_text text fault
  behind_title h = fault_in_next title_part after_title text n m fault title h

  pub fault_in_word : IsFaultOf (word_part n) m fault → IsFaultOf proof_text text fault
  fault_in_word h =
      behind_title (fault_in_first (named_claim n) after_claim m fault
      (fault_in_first (word_part n) claim_part m fault h))

  module _ (inner : List ℕ) (w : ClaimWord) (word : (word_part n).Reads m w inner) where
    pub fault_in_claim : IsFaultOf (claim_part w) inner fault → IsFaultOf proof_text text fault
    fault_in_claim h =
        behind_title (fault_in_first (named_claim n) after_claim m fault
        (fault_in_next (word_part n) claim_part m w inner fault word h))

    module _ (rest : List ℕ) (c : Claim) (reads : (claim_part w).Reads inner c rest) where
      behind_claim : IsFaultOf (after_claim c) rest fault → IsFaultOf proof_text text fault
      behind_claim h = behind_title
          (fault_in_next (named_claim n) after_claim m c rest fault (w, inner, word, reads) h)

      pub fault_in_last : IsFaultOf last_part rest fault → IsFaultOf proof_text text fault
      fault_in_last h = behind_claim
          (fault_in_first last_part (λ _. end_part Strict c) rest fault h)

      pub fault_behind_last : (behind : List ℕ) → last_part.Reads rest tt behind →
          IsTail Strict behind fault →
          IsFaultOf proof_text text fault
      fault_behind_last behind end h =
          behind_claim (fault_in_next last_part (λ _. end_part Strict c) rest tt behind fault end
          (tail_refused Strict c behind fault h))
