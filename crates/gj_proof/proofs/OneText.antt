-- A text is that of one claim and has one first fault or none, and a claim has one text.
use Rattle.std.proofs.Common.{◌≡◌, ℕ, List, [], ◌++◌, codes, sym, ap, ◌∙◌}
use Rattle.gj_lex.specs.declared.reason.Reason.{Reason}
use Rattle.gj_forms.proofs.LineNumbers as numbers
use Rattle.gj_function_lines.specs.FunctionLines.{line}
use Rattle.gj_function_lines.proofs.OneTextOfLines.{one_text_of_lines}
use Rattle.gj_proof.specs.ProofText.{IsBounded, subject_of, numbers_of, AreSubjectLines, IsProofText, own_text}
use Rattle.gj_proof.specs.ProofGrammar.{proof_text}
use Rattle.gj_proof.specs.FirstFault.{IsFirstFaultOfProof}
use Rattle.gj_proof.specs.declared.claim.Claim.{Claim}
use Rattle.gj_proof.specs.declared.claim.Claim.TheVariants.{Minimal, NotMinimal, Cut, Extreme, ExtremeByResidues, NotExtreme}
use Rattle.gj_proof.specs.declared.cut.CutRule.TheVariants.{Gmic, Table}
use Rattle.gj_proof.proofs.ReadTexts.{proof_text_is_exact, text_is_read}
use Rattle.gj_proof.proofs.LineLists.{title_line, claim_line}

pub one_claim : (c d : Claim) (text : List ℕ) → IsBounded c → IsBounded d → IsProofText c text →
    IsProofText d text → c ≡ d
one_claim c d text b e p q =
    (proof_text_is_exact.one_thing text c d [] [] (text_is_read c text b p)
    (text_is_read d text e q)).0

-- a subject has one text
one_subject : (c : Claim) (s t : List ℕ) → IsBounded c → AreSubjectLines (subject_of c) s →
    AreSubjectLines (subject_of c) t → s ≡ t
one_subject (Minimal f) s t b l m = one_text_of_lines f s t b l m
one_subject (NotMinimal f v) s t b l m = one_text_of_lines f s t b l m
one_subject (Cut (Table f) rows) s t b l m = one_text_of_lines f s t b.0 l m
one_subject (Cut Gmic rows) s t b l m = l ∙ sym m
one_subject (Extreme f lines rows) s t b l m = one_text_of_lines f s t b l m
one_subject (ExtremeByResidues f lines rows) s t b l m = one_text_of_lines f s t b l m
one_subject (NotExtreme f h) s t b l m = one_text_of_lines f s t b l m

pub one_text : (c : Claim) (s t : List ℕ) → IsBounded c → IsProofText c s → IsProofText c t → s ≡ t
one_text c s t b p q =
    let same = one_subject c p.subject q.subject b p.are_subject_lines q.are_subject_lines in
    p.spelled
    ∙ ap (λ u. title_line (numbers_of c) ++ claim_line c ++ u
    ++ own_text c ++ line (codes "end")) same
    ∙ sym q.spelled

-- the text of a claim has no fault
pub no_fault : (c : Claim) (text : List ℕ) (n : ℕ) (e : Reason) → IsBounded c → IsProofText c text →
    IsFirstFaultOfProof text n e → ⊥
no_fault c text n e b p h = numbers.no_first_fault proof_text proof_text_is_exact text c [] n e
    (text_is_read c text b p) h

pub one_fault : (text : List ℕ) (n m : ℕ) (e d : Reason) → IsFirstFaultOfProof text n e →
    IsFirstFaultOfProof text m d → (n ≡ m) × (e ≡ d)
one_fault text n m e d h k = numbers.one_first_fault proof_text proof_text_is_exact text n m e d h k
