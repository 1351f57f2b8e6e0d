-- A text is that of one claim and has one first fault or none, and a claim has one text.
use Rattle.std.proofs.Common.{◌≡◌, ℕ, List, [], ◌++◌, codes, sym, ap, ◌∙◌}
use Rattle.gj_lex.specs.declared.reason.Reason.{Reason}
use Rattle.gj_forms.proofs.LineNumbers as numbers
use Rattle.gj_function_lines.specs.FunctionLines.{line}
use Rattle.gj_function_lines.proofs.OneTextOfLines.{one_text_of_lines}
use Rattle.gj_limit_proof.specs.FirstFault.{IsFirstFaultOfLimitProof}
use Rattle.gj_limit_proof.specs.LimitGrammar.{limit_proof_text}
use Rattle.gj_limit_proof.specs.LimitText.{function_of, IsBounded, IsLimitProofText, own_text}
use Rattle.gj_limit_proof.specs.declared.claim.LimitClaim.{LimitClaim}
use Rattle.gj_limit_proof.proofs.LimitReadTexts.{title_line, claim_line, limit_text_is_exact, text_is_read}

pub one_claim : (c d : LimitClaim) (text : List ℕ) → IsBounded c → IsBounded d →
    IsLimitProofText c text → IsLimitProofText d text → c ≡ d
one_claim c d text b e p q =
    (limit_text_is_exact.one_thing text c d [] [] (text_is_read c text b p)
    (text_is_read d text e q)).0

pub one_text : (c : LimitClaim) (s t : List ℕ) → IsBounded c → IsLimitProofText c s →
    IsLimitProofText c t → s ≡ t
one_text c s t b p q =
    let same = one_text_of_lines (function_of c) p.subject q.subject b p.are_function_lines
    q.are_function_lines in
    p.spelled ∙ ap (λ u. title_line ++ claim_line c ++ u ++ own_text c ++ line (codes "end")) same
    ∙ sym q.spelled

-- the text of a claim has no fault
pub no_fault : (c : LimitClaim) (text : List ℕ) (n : ℕ) (e : Reason) → IsBounded c →
    IsLimitProofText c text →
    IsFirstFaultOfLimitProof text n e → ⊥
no_fault c text n e b p h = numbers.no_first_fault limit_proof_text limit_text_is_exact text c
    [] n e (text_is_read c text b p) h

pub one_fault : (text : List ℕ) (n m : ℕ) (e d : Reason) → IsFirstFaultOfLimitProof text n e →
    IsFirstFaultOfLimitProof text m d →
    (n ≡ m) × (e ≡ d)
one_fault text n m e d h k =
    numbers.one_first_fault limit_proof_text limit_text_is_exact text n m e d h k
