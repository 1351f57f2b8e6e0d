-- The forms of input, and how an input outside one is refused (own).
use Rattle.std.specs.Prelude.{ℕ, ◌≡◌, ◌⊎◌, Bool, true, false, List, ◌++◌, codes}
use Rattle.gj_lex.specs.declared.reason.Reason.{Reason}
use Rattle.gj_lex.specs.declared.spelling.Spelling.TheVariants.{Lenient}
use Rattle.gj_forms.specs.TextLines.{HasNothing}
use Rattle.gj_shape.specs.FunctionData.{FunctionData}
use Rattle.gj_function_lines.specs.FunctionLines.{line}
use Rattle.gj_function_text.specs.FirstFault.{IsFirstFaultOfWhole}
use Rattle.gj_function_text.specs.LinesOfFunction.{HasLinesOfFunction, HasLinesOfFamily, HasLinesOfBreaks}
use Rattle.gj_proof.specs.ProofText.{IsBounded, IsProofText}
use Rattle.gj_proof.specs.FirstFault.{IsFirstFaultOfProof}
use Rattle.gj_proof.specs.declared.claim.Claim.{Claim}
use Rattle.gj_limit_proof.specs.LimitText.{IsBounded as IsLimitBounded, IsLimitProofText}
use Rattle.gj_limit_proof.specs.FirstFault.{IsFirstFaultOfLimitProof}
use Rattle.gj_limit_proof.specs.declared.claim.LimitClaim.{LimitClaim}
use Rattle.gj_json.specs.JsonFunction.{IsJsonFunction}
use Rattle.gj_json.specs.FirstReason.{HasFirstReason, reason_word as json_reason_word}
use Rattle.gj_json.specs.declared.faults.JsonReason.{JsonReason}
use Rattle.gj_top.specs.Lines.{refused_line}
use Rattle.gj_top.specs.declared.reply.End.{End}
use Rattle.gj_top.specs.Promise.{Form, Promise}
use Rattle.gj_top.specs.Promise.Form.{reading}
use Rattle.gj_top.specs.Task.{Task}

-- ---- the forms

-- the text begins with the lines of the function f, by its points, as one of a family or by its
-- breakpoints, and the rest follows
abbrev pub BeginsWithFunction : List ℕ → FunctionData → List ℕ → Type 0
BeginsWithFunction text f rest = HasLinesOfFunction text f rest ⊎ HasLinesOfFamily text f rest
    ⊎ HasLinesOfBreaks text f rest

-- and only lines that are skipped follow
abbrev pub IsFunctionInput : List ℕ → FunctionData → Type 0
IsFunctionInput input f = (rest : List ℕ) × BeginsWithFunction input f rest
    × HasNothing Lenient rest

-- the input is a function text that spells f, or with `--json` a function in JSON
abbrev pub SpellsFunction : Bool → List ℕ → FunctionData → Type 0
SpellsFunction false input f = IsFunctionInput input f
SpellsFunction true input f = IsJsonFunction input f

abbrev pub function_form : Bool → Form FunctionData
function_form json = reading (SpellsFunction json)

-- what is promised of the function that an input spells
abbrev pub function_promise : Bool → (FunctionData → List ℕ → Type 0) → Promise
function_promise json headline =
    record { Thing = FunctionData; form = function_form json; headline = headline }

-- the input is the proof text of a claim; a function that it is about is within the limits
pub record IsProofOf (input : List ℕ) (c : Claim) : Type 0 where
  pub bounded : IsBounded c
  pub spelled : IsProofText c input

-- proof text
abbrev pub proof_form : Form Claim
proof_form = reading IsProofOf

-- the input is the proof text of a claim about a function that jumps and is within the limits
pub record IsLimitProofOf (input : List ℕ) (c : LimitClaim) : Type 0 where
  pub bounded : IsLimitBounded c
  pub spelled : IsLimitProofText c input

-- ---- refusals

-- the text names the line that is the first at fault, and the reason
pub record NamesFault (IsFirst : ℕ → Reason → Type 0) (text : List ℕ) : Type 0 where
  pub at_line : ℕ
  pub reason : Reason
  pub first : IsFirst at_line reason
  pub spelled : text ≡ refused_line at_line reason

-- the input is no function text
abbrev pub RefusesFunctionText : List ℕ → List ℕ → Type 0
RefusesFunctionText input text = NamesFault (IsFirstFaultOfWhole input) text

-- the input is no proof text
abbrev pub RefusesProofText : List ℕ → List ℕ → Type 0
RefusesProofText input text = NamesFault (IsFirstFaultOfProof input) text

-- the input is no proof text about a function that jumps
abbrev pub RefusesLimitProofText : List ℕ → List ℕ → Type 0
RefusesLimitProofText input text = NamesFault (IsFirstFaultOfLimitProof input) text

-- the line that refuses a JSON text
abbrev pub json_refused_line : JsonReason → List ℕ
json_refused_line reason = line (codes "refused json " ++ json_reason_word reason)

-- the input is no JSON function, and the text names the first reason
pub record RefusesJson (input text : List ℕ) : Type 0 where
  pub reason : JsonReason
  pub first : HasFirstReason input reason
  pub spelled : text ≡ json_refused_line reason

-- the input spells no function
abbrev pub RefusesFunction : Bool → List ℕ → List ℕ → Type 0
RefusesFunction false input text = RefusesFunctionText input text
RefusesFunction true input text = RefusesJson input text

-- ---- commands that answer a function

-- the task that keeps such a promise by these replies
abbrev pub function_task : Bool → (FunctionData → List ℕ → Type 0) →
    (FunctionData → End → List ℕ → Type 0) → Task
function_task json headline replies = record {
  promise = function_promise json headline;
  work = record { refuses = RefusesFunction json; replies = replies };
}
