-- Proof texts, as they are or with `--json` reported, and the commands that answer a function with
-- one (own).
use Rattle.std.specs.Prelude.{Bool, true, false, List, ℕ}
use Rattle.gj_shape.specs.FunctionData.{FunctionData}
use Rattle.gj_proof.specs.declared.claim.Claim.{Claim}
use Rattle.gj_proof.specs.ProofText.{claim_word, IsProofText}
use Rattle.gj_limit_proof.specs.declared.claim.LimitClaim.{LimitClaim}
use Rattle.gj_limit_proof.specs.LimitText.{claim_word as limit_claim_word, IsLimitProofText}
use Rattle.gj_json.specs.JsonText.{IsReport}
use Rattle.gj_top.specs.declared.reply.End.{End}
use Rattle.gj_top.specs.declared.reply.End.TheVariants.{Done}
use Rattle.gj_top.specs.Promise.{Promise}
use Rattle.gj_top.specs.Task.{Task}
use Rattle.gj_top.specs.Forms.{function_promise, function_task}

-- a kind of proof texts: what they claim, the word of a claim, and which text is that of a claim
pub record Kind : Type 1 where
  pub Said : Type 0
  pub word : Said → List ℕ
  pub IsText : Said → List ℕ → Type 0

-- proof texts, and those about functions that jump
abbrev pub claims : Kind
claims = record { Said = Claim; word = claim_word; IsText = IsProofText }

abbrev pub limit_claims : Kind
limit_claims = record { Said = LimitClaim; word = limit_claim_word; IsText = IsLimitProofText }

-- the text reports a proof text of the kind with this property, and the word of its claim
pub record IsReportBy (kind : Kind) (P : List ℕ → Type 0) (text : List ℕ) : Type 0 where
  pub proof : List ℕ
  pub holds : P proof
  pub claim : kind.Said
  pub spelled : kind.IsText claim proof
  pub report : IsReport (kind.word claim) proof text

-- the text has the property, or with `--json` it reports a proof text of the kind that has it
abbrev pub TellsBy : Kind → Bool → (List ℕ → Type 0) → List ℕ → Type 0
TellsBy kind false P text = P text
TellsBy kind true P text = IsReportBy kind P text

-- the reply to a function, told so if it ends with Done
abbrev pub IsToldBy : Kind → Bool → (FunctionData → End → List ℕ → Type 0) → FunctionData → End →
    List ℕ → Type 0
IsToldBy kind json replies f Done text = TellsBy kind json (replies f Done) text
IsToldBy kind json replies f end text = replies f end text

-- the same of proof texts that are not about functions that jump
abbrev pub Tells : Bool → (List ℕ → Type 0) → List ℕ → Type 0
Tells = TellsBy claims

abbrev pub IsToldReply : Bool → (FunctionData → End → List ℕ → Type 0) → FunctionData → End →
    List ℕ → Type 0
IsToldReply = IsToldBy claims

-- what is promised of proof texts, and the task that keeps it by these replies
abbrev pub proof_promise : Bool → (FunctionData → List ℕ → Type 0) → Promise
proof_promise json headline = function_promise json (λ f. Tells json (headline f))

abbrev pub proof_task : Bool → (FunctionData → List ℕ → Type 0) →
    (FunctionData → End → List ℕ → Type 0) → Task
proof_task json headline replies =
    function_task json (λ f. Tells json (headline f)) (IsToldReply json replies)
