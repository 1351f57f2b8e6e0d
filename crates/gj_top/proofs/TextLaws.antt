-- What the commands use of the laws of function texts, proof texts and the checker's rules.
use Rattle.std.proofs.Common.{◌≡◌, ℕ, ◌≤◌, Bool, true, false, List, length}
use Rattle.gj_lex.specs.declared.reason.Reason.{Reason}
use Rattle.gj_shape.specs.FunctionData.{FunctionData, IsWithinBounds}
use Rattle.gj_shape.specs.declared.violations.Violation.{Violation}
use Rattle.gj_function_text.specs.FunctionText.{IsCanonicalText}
use Rattle.gj_function_text.specs.FirstFault.{IsFirstFaultOfWhole}
use Rattle.gj_function_text.proofs.Canonical.{canonical_text_is_whole}
pub use Rattle.gj_function_text.proofs.Canonical.{canonical_text_is_short as shown_text_is_short}
use Rattle.gj_function_text.proofs.FunctionTexts.{function_is_within}
use Rattle.gj_function_text.proofs.LinesOfFunction.{lines_are_text}
pub use Rattle.gj_function_text.proofs.OneCanonical.{one_canonical_text as one_canonical}
use Rattle.gj_function_text.proofs.OneText.{one_whole_function, no_fault_of_whole}
use Rattle.gj_proof.specs.ProofText.{IsProofText, IsShort}
use Rattle.gj_proof.specs.FirstFault.{IsFirstFaultOfProof}
use Rattle.gj_proof.specs.declared.claim.Claim.{Claim}
use Rattle.gj_proof.specs.declared.claim.Claim.TheVariants.{Minimal, NotMinimal}
use Rattle.gj_proof.proofs.OneText.{one_claim, no_fault}
use Rattle.gj_proof.proofs.ShortTexts.{text_is_short}
use Rattle.gj_json.specs.JsonFunction.{IsJsonFunction}
use Rattle.gj_json.proofs.OneFunction.{one_function as one_json_function}
use Rattle.gj_top.specs.Forms.{IsFunctionInput, SpellsFunction, IsProofOf}
use Rattle.gj_top.proofs.InputLines.{whole_of_input, input_of_whole}

-- ---- function texts

pub function_is_bounded : (input : List ℕ) (f : FunctionData) → IsFunctionInput input f →
    IsWithinBounds f
function_is_bounded input f (rest, lines, nothing) =
    function_is_within input f rest (lines_are_text input f rest lines)

pub json_is_bounded : (input : List ℕ) (f : FunctionData) → IsJsonFunction input f →
    IsWithinBounds f
json_is_bounded input f (d, read, says) = says.gives.given.within

pub one_function : (input : List ℕ) (f g : FunctionData) → IsFunctionInput input f →
    IsFunctionInput input g → f ≡ g
one_function input f g h k = one_whole_function input f g (whole_of_input input f h)
    (whole_of_input input g k)

-- the same with `--json` or without
pub spelled_is_bounded : (json : Bool) (input : List ℕ) (f : FunctionData) →
    SpellsFunction json input f → IsWithinBounds f
spelled_is_bounded false input f h = function_is_bounded input f h
spelled_is_bounded true input f h = json_is_bounded input f h

pub one_spelled : (json : Bool) (input : List ℕ) (f g : FunctionData) →
    SpellsFunction json input f → SpellsFunction json input g → f ≡ g
one_spelled false input f g h k = one_function input f g h k
one_spelled true input f g h k = one_json_function input f g h k

pub function_text_has_no_fault : (input : List ℕ) (f : FunctionData) (n : ℕ) (reason : Reason) →
    IsFunctionInput input f →
    IsFirstFaultOfWhole input n reason → ⊥
function_text_has_no_fault input f n reason h fault =
    no_fault_of_whole input f n reason (whole_of_input input f h) fault

pub canonical_text_is_read : (f : FunctionData) (text : List ℕ) → IsWithinBounds f →
    IsCanonicalText text f → IsFunctionInput text f
canonical_text_is_read f text within canonical =
    input_of_whole text f (canonical_text_is_whole f text within canonical)

-- ---- proof texts

pub minimal_proof : (f : FunctionData) (text : List ℕ) → IsWithinBounds f →
    IsProofText (Minimal f) text → IsProofOf text (Minimal f)
minimal_proof f text within spelled = record { bounded = within; spelled = spelled }

pub not_minimal_proof : (f : FunctionData) (v : Violation) (text : List ℕ) → IsWithinBounds f →
    IsProofText (NotMinimal f v) text →
    IsProofOf text (NotMinimal f v)
not_minimal_proof f v text within spelled = record { bounded = within; spelled = spelled }

pub one_proof : (text : List ℕ) (c d : Claim) → IsProofOf text c → IsProofOf text d → c ≡ d
one_proof text c d p q = one_claim c d text p.bounded q.bounded p.spelled q.spelled

pub proof_text_has_no_fault : (text : List ℕ) (c : Claim) (n : ℕ) (reason : Reason) →
    IsProofOf text c → IsFirstFaultOfProof text n reason → ⊥
proof_text_has_no_fault text c n reason p fault = no_fault c text n reason p.bounded p.spelled fault

pub proof_text_is_short : (text : List ℕ) (c : Claim) → IsShort c → IsProofOf text c →
    length text ≤ 1000000
proof_text_is_short text c short p = text_is_short c text short p.bounded p.spelled
