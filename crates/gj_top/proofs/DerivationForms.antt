-- Inputs that tell steps: each tells one thing, and no proof text does.
use Rattle.std.proofs.Common.{◌≡◌, inl, inr, true, ℕ, List, ◌∷◌, [], ◌++◌, codes, refl, sym, ◌∙◌, arith}
use Rattle.gj_lex.specs.declared.reason.Reason.{Reason}
use Rattle.gj_lex.specs.declared.spelling.Spelling.TheVariants.{Lenient}
use Rattle.gj_forms.specs.LineForms.{bytes_of}
use Rattle.gj_forms.specs.Parts.{words_rule, line_part, IsFirstFaultIn, IsExactPart}
use Rattle.gj_forms.proofs.CanonicalLines.{words_line}
use Rattle.gj_forms.proofs.LineNumbers as numbers
use Rattle.gj_forms.proofs.WhereLaws.{other_word, begins_with}
use Rattle.gj_proof.specs.declared.claim.Claim.{Claim}
use Rattle.gj_proof.specs.declared.claim.Claim.TheVariants.{Minimal, NotMinimal, Cut, Extreme, ExtremeByResidues, NotExtreme}
use Rattle.gj_proof.specs.declared.numbers.Numbers.{Numbers}
use Rattle.gj_proof.specs.declared.numbers.Numbers.TheVariants.{Whole, Residues}
use Rattle.gj_proof.specs.ProofText.{title_fields, IsProofText}
use Rattle.gj_derivation_text.specs.DerivationInputs.{derivation_input, draft_input, IsDerivationText, IsDraftText}
use Rattle.gj_derivation_text.specs.declared.input.DerivationInput.{DerivationInput}
use Rattle.gj_derivation_text.specs.declared.input.DraftInput.{DraftInput}
use Rattle.gj_derivation_text.proofs.ReadableText.{derivation_input_is_exact}
use Rattle.gj_derivation_text.proofs.TextRead.{input_part_is_exact}
use Rattle.gj_top.specs.Derivation.{BeginsAsDerivation}
use Rattle.gj_top.specs.Told.{Told, IsTold}

-- ---- what is told, and faults

draft_input_is_exact : IsExactPart draft_input.Reads draft_input.Faults
draft_input_is_exact = input_part_is_exact true

pub no_draft_fault : (text : List ℕ) (a : DraftInput) (n : ℕ) (e : Reason) → IsDraftText text a →
    IsFirstFaultIn draft_input text n e → ⊥
no_draft_fault text a n e (rest, h) fault =
    numbers.no_first_fault draft_input draft_input_is_exact text a rest n e h fault

pub no_derivation_fault : (text : List ℕ) (d : DerivationInput) (n : ℕ) (e : Reason) →
    IsDerivationText text d →
    IsFirstFaultIn derivation_input text n e → ⊥
no_derivation_fault text d n e (rest, h) fault =
    numbers.no_first_fault derivation_input derivation_input_is_exact text d rest n e h fault

pub one_draft_fault : (text : List ℕ) (n m : ℕ) (e d : Reason) →
    IsFirstFaultIn draft_input text n e → IsFirstFaultIn draft_input text m d →
    (n ≡ m) × (e ≡ d)
one_draft_fault text n m e d h k =
    numbers.one_first_fault draft_input draft_input_is_exact text n m e d h k

pub one_derivation_fault : (text : List ℕ) (n m : ℕ) (e d : Reason) →
    IsFirstFaultIn derivation_input text n e →
    IsFirstFaultIn derivation_input text m d → (n ≡ m) × (e ≡ d)
one_derivation_fault text n m e d h k =
    numbers.one_first_fault derivation_input derivation_input_is_exact text n m e d h k

pub one_drafts : (text : List ℕ) (a b : DraftInput) → IsDraftText text a → IsDraftText text b →
    a ≡ b
one_drafts text a b (r, h) (t, k) = (draft_input_is_exact.one_thing text a b r t h k).0

pub one_derivation : (text : List ℕ) (a b : DerivationInput) → IsDerivationText text a →
    IsDerivationText text b → a ≡ b
one_derivation text a b (r, h) (t, k) = (derivation_input_is_exact.one_thing text a b r t h k).0

-- with the text that tells it
pub one_told : {A : Type 0} (Tells : List ℕ → A → Type 0) →
    ((text : List ℕ) (a b : A) → Tells text a → Tells text b → a ≡ b) →
    (input : List ℕ) (a b : Told A) → IsTold Tells input a → IsTold Tells input b → a ≡ b
one_told Tells one input a b h k =
    let texts : a.text ≡ b.text = h.0 ∙ sym k.0 in
    let same : a.told ≡ b.told = one input a.told b.told h.1 k.1 in
    (λ i. record { text = texts i; told = same i })

-- ---- first words

-- a text whose first line has other words is read as a proof text
pub other_title : (text rest w : List ℕ) (ws : List (List ℕ)) →
    (line_part Lenient (words_rule (w ∷ ws))).Reads text tt rest →
    ((more : List (List ℕ)) → w ∷ ws ≡ codes "gj-derivation" ∷ more → ⊥) →
    ((more : List (List ℕ)) → w ∷ ws ≡ codes "gj-function" ∷ more → ⊥) →
    BeginsAsDerivation text → ⊥
other_title text rest w ws (start, words, line, is) derivation function (inl begins) =
    other_word Lenient text start words (codes "gj-derivation") rest line
    (λ more e. derivation more (sym is ∙ e)) begins
other_title text rest w ws (start, words, line, is) derivation function (inr begins) =
    other_word Lenient text start words (codes "gj-function") rest line
    (λ more e. function more (sym is ∙ e)) begins

by_title : (n : Numbers) (text rest : List ℕ) → text ≡ bytes_of (title_fields n) ++ rest →
    BeginsAsDerivation text → ⊥
by_title Whole text rest e =
    other_title text rest (codes "gj-proof") (codes "1" ∷ [])
    (words_line Lenient (codes "gj-proof") (codes "1" ∷ []) text rest refl
    (λ h. omega (arith, h)) e) (λ more h. cc) (λ more h. cc)
by_title Residues text rest e =
    other_title text rest (codes "gj-proof") (codes "2" ∷ [])
    (words_line Lenient (codes "gj-proof") (codes "2" ∷ []) text rest refl
    (λ h. omega (arith, h)) e) (λ more h. cc) (λ more h. cc)

pub proof_begins_otherwise : (c : Claim) (text : List ℕ) → IsProofText c text →
    BeginsAsDerivation text → ⊥
proof_begins_otherwise (Minimal f) text p = by_title Whole text _ p.spelled
proof_begins_otherwise (NotMinimal f v) text p = by_title Whole text _ p.spelled
proof_begins_otherwise (Cut r rows) text p = by_title Whole text _ p.spelled
proof_begins_otherwise (Extreme f lines rows) text p = by_title Whole text _ p.spelled
proof_begins_otherwise (ExtremeByResidues f lines rows) text p = by_title Residues text _ p.spelled
proof_begins_otherwise (NotExtreme f h) text p = by_title Whole text _ p.spelled

pub derivation_begins : (text : List ℕ) (d : DerivationInput) → IsDerivationText text d →
    BeginsAsDerivation text
derivation_begins text d (rest, (a, inl (begins, h), made)) = inr begins
derivation_begins text d
    (rest, (a, inr (not, (s, (t, middle, (start, words, line, is), h), same)), made)) =
    inl (begins_with Lenient text start words (codes "1" ∷ [])
    (codes "gj-derivation") middle line is)
