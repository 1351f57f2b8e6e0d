-- Proof texts about functions that jump: how they begin, that no other proof text and no derivation
-- does so, and their bytes.
use Rattle.std.proofs.Common.{◌≡◌, inl, inr, ℕ, List, [], ◌∷◌, ◌++◌, codes, get_or, refl, sym, ap, subst, ◌∙◌, arith}
use Rattle.std.specs.List.{All}
use Rattle.gj_lex.specs.declared.reason.Reason.{Reason}
use Rattle.gj_lex.specs.declared.spelling.Spelling.{Spelling}
use Rattle.gj_lex.specs.declared.spelling.Spelling.TheVariants.{Lenient, Strict}
use Rattle.gj_forms.specs.LineForms.{bytes_of}
use Rattle.gj_forms.specs.Parts.{words_rule, line_part}
use Rattle.gj_forms.proofs.CanonicalLines.{words_line}
use Rattle.gj_forms.proofs.WhereLaws.{begins_so, other_line}
use Rattle.gj_shape.specs.FunctionData.{FunctionData, IsWithinBounds}
use Rattle.gj_proof.specs.declared.claim.Claim.{Claim}
use Rattle.gj_proof.specs.declared.claim.Claim.TheVariants.{Minimal, NotMinimal, Cut, ExtremeByResidues}
use Rattle.gj_proof.specs.declared.claim.Claim.TheVariants as claim
use Rattle.gj_proof.specs.declared.numbers.Numbers.{Numbers}
use Rattle.gj_proof.specs.declared.numbers.Numbers.TheVariants.{Whole, Residues}
use Rattle.gj_proof.specs.ProofText.{claim_fields, title_fields, IsProofText}
use Rattle.gj_json.specs.JsonText.{IsProofByte}
use Rattle.gj_limit_proof.specs.declared.claim.LimitClaim.{LimitClaim}
use Rattle.gj_limit_proof.specs.declared.claim.LimitClaim.TheVariants.{Extreme, NotExtreme}
use Rattle.gj_limit_proof.specs.LimitText.{function_of, title_fields as limit_title_fields, claim_word, own_text, IsBounded, IsLimitProofText}
use Rattle.gj_limit_proof.proofs.LimitOneText.{one_claim, no_fault}
use Rattle.gj_limit_proof.proofs.PrintedBytes.{text_bytes}
use Rattle.gj_limit_extreme.specs.Decision.{IsLimitDecided}
use Rattle.gj_top.specs.Check.{BeginsAsLimitProof}
use Rattle.gj_top.specs.Derivation.{BeginsAsDerivation}
use Rattle.gj_top.specs.Forms.{IsLimitProofOf}
use Rattle.gj_limit_proof.specs.FirstFault.{IsFirstFaultOfLimitProof}
use Rattle.gj_top.proofs.DerivationForms.{other_title}

-- ---- the first line

title_read : (s : Spelling) (text rest : List ℕ) → text ≡ bytes_of limit_title_fields ++ rest →
    (line_part s (words_rule (codes "gj-proof" ∷ codes "3" ∷ []))).Reads text tt rest
title_read s text rest e = words_line s (codes "gj-proof") (codes "3" ∷ []) text rest refl
    (λ h. omega (arith, h)) e

pub limit_begins : (c : LimitClaim) (text : List ℕ) → IsLimitProofText c text →
    BeginsAsLimitProof text
limit_begins c text p = begins_so Strict text _ (codes "gj-proof" ∷ codes "3" ∷ [])
    (title_read Strict text _ p.spelled)

pub limit_begins_otherwise : (c : LimitClaim) (text : List ℕ) → IsLimitProofText c text →
    BeginsAsDerivation text → ⊥
limit_begins_otherwise c text p =
    other_title text _ (codes "gj-proof") (codes "3" ∷ []) (title_read Lenient text _ p.spelled)
    (λ more h. cc) (λ more h. cc)

-- another first line
other_number : (text rest number : List ℕ) →
    (line_part Strict (words_rule (codes "gj-proof" ∷ number ∷ []))).Reads text tt rest →
    (number ≡ codes "3" → ⊥) → BeginsAsLimitProof text → ⊥
other_number text rest number (start, words, line, is) other begins =
    other_line Strict text start words (codes "gj-proof" ∷ codes "3" ∷ []) rest line
    (λ e. other (let same = sym is ∙ e in cc)) begins

by_title : (n : Numbers) (text rest : List ℕ) → text ≡ bytes_of (title_fields n) ++ rest →
    BeginsAsLimitProof text → ⊥
by_title Whole text rest e =
    other_number text rest (codes "1")
    (words_line Strict (codes "gj-proof") (codes "1" ∷ []) text rest refl
    (λ h. omega (arith, h)) e) (λ h. omega (arith, ap (λ w. get_or w 0 0) h))
by_title Residues text rest e =
    other_number text rest (codes "2")
    (words_line Strict (codes "gj-proof") (codes "2" ∷ []) text rest refl
    (λ h. omega (arith, h)) e) (λ h. omega (arith, ap (λ w. get_or w 0 0) h))

pub proof_begins_by_no_limits : (c : Claim) (text : List ℕ) → IsProofText c text →
    BeginsAsLimitProof text → ⊥
proof_begins_by_no_limits (Minimal f) text p = by_title Whole text _ p.spelled
proof_begins_by_no_limits (NotMinimal f v) text p = by_title Whole text _ p.spelled
proof_begins_by_no_limits (Cut r rows) text p = by_title Whole text _ p.spelled
proof_begins_by_no_limits (claim.Extreme f lines rows) text p = by_title Whole text _ p.spelled
proof_begins_by_no_limits (ExtremeByResidues f lines rows) text p =
    by_title Residues text _ p.spelled
proof_begins_by_no_limits (claim.NotExtreme f h) text p = by_title Whole text _ p.spelled

-- so no text is a proof text of both kinds
pub texts_differ : (c : Claim) (d : LimitClaim) (text : List ℕ) → IsProofText c text →
    IsLimitProofText d text → ⊥
texts_differ c d text p q = proof_begins_by_no_limits c text p (limit_begins d text q)

-- ---- bytes

pub limit_proof_bytes : (c : LimitClaim) (text : List ℕ) → IsBounded c → IsLimitProofText c text →
    All IsProofByte text
limit_proof_bytes = text_bytes

-- ---- inputs

pub one_limit_proof : (text : List ℕ) (c d : LimitClaim) → IsLimitProofOf text c →
    IsLimitProofOf text d → c ≡ d
one_limit_proof text c d p q = one_claim c d text p.bounded q.bounded p.spelled q.spelled

pub limit_proof_has_no_fault : (text : List ℕ) (c : LimitClaim) (n : ℕ) (reason : Reason) →
    IsLimitProofOf text c →
    IsFirstFaultOfLimitProof text n reason → ⊥
limit_proof_has_no_fault text c n reason p fault =
    no_fault c text n reason p.bounded p.spelled fault

-- ---- decisions

-- what is decided is about the function
pub decided_about : (f : FunctionData) (c : LimitClaim) → IsLimitDecided f c → function_of c ≡ f
decided_about f (Extreme numbers g lines rows) h = h.0
decided_about f (NotExtreme g halves) h = h.0

pub limit_decided_bounded : (f : FunctionData) (c : LimitClaim) → IsWithinBounds f →
    IsLimitDecided f c → IsBounded c
limit_decided_bounded f c l h = subst IsWithinBounds (sym (decided_about f c h)) l
