-- The command `check`: a proof text of any kind is answered with what the checker says of its
-- claim, and a derivation with what it says of its steps (own).
use Rattle.std.specs.Prelude.{ℕ, ◌≡◌, ◌⊎◌, List, [], ◌∷◌, ◌++◌, codes, decimal}
use Rattle.gj_lex.specs.declared.spelling.Spelling.TheVariants.{Strict}
use Rattle.gj_forms.specs.Parts.{BeginsWithLine}
use Rattle.gj_function_lines.specs.FunctionLines.{line}
use Rattle.gj_proof.specs.declared.claim.Claim.{Claim}
use Rattle.gj_proof.specs.ProofText.{claim_word}
use Rattle.gj_proof.specs.Rules.{MeetsRules}
use Rattle.gj_proof.specs.Meaning.{ClaimHolds}
use Rattle.gj_check.specs.declared.rules.CheckRule.{CheckRule}
use Rattle.gj_check.specs.FirstFailure.{IsFirstFailure}
use Rattle.gj_check.specs.RuleWords.{rule_word}
use Rattle.gj_limit_proof.specs.declared.claim.LimitClaim.{LimitClaim}
use Rattle.gj_limit_proof.specs.LimitText.{claim_word as limit_claim_word}
use Rattle.gj_limit_proof.specs.LimitRules.{MeetsLimitRules}
use Rattle.gj_limit_proof.specs.LimitMeaning.{LimitClaimHolds}
use Rattle.gj_limit_check.specs.FirstFailure.{IsFirstLimitFailure}
use Rattle.gj_derivation_text.specs.declared.input.DerivationInput.{DerivationInput}
use Rattle.gj_top.specs.declared.reply.End.{End}
use Rattle.gj_top.specs.declared.reply.End.TheVariants.{Done, Rejected}
use Rattle.gj_top.specs.Promise.{Form, Promise}
use Rattle.gj_top.specs.Promise.Form.{reading}
use Rattle.gj_top.specs.Task.{Task}
use Rattle.gj_top.specs.Told.{Told}
use Rattle.gj_top.specs.Derivation.{BeginsAsDerivation, SpellsDerivation, RefusesDerivation, IsDerivationReply, IsTrueDerivation}
use Rattle.gj_top.specs.Forms.{IsProofOf, RefusesProofText, IsLimitProofOf, RefusesLimitProofText}

-- ---- claims

-- the line that calls a claim accepted
abbrev pub accepted_line : Claim → List ℕ
accepted_line c = line (codes "accepted " ++ claim_word c)

-- every rule of the claim holds, and so does what it claims; the text calls it accepted
pub record IsAccepted (c : Claim) (text : List ℕ) : Type 0 where
  pub rules : MeetsRules c
  pub holds : ClaimHolds c
  pub spelled : text ≡ accepted_line c

-- the line that names a rule that fails, and its line in the proof text
abbrev pub rejected_line : ℕ → CheckRule → List ℕ
rejected_line n rule = line (codes "rejected line " ++ decimal n ++ codes " " ++ rule_word rule)

-- the text names the first rule that fails and its line
pub record IsRejected (c : Claim) (text : List ℕ) : Type 0 where
  pub at_line : ℕ
  pub rule : CheckRule
  pub first : IsFirstFailure c at_line rule
  pub spelled : text ≡ rejected_line at_line rule

-- what the checker says of a claim, and how the reply ends
abbrev pub IsJudgement : Claim → End → List ℕ → Type 0
IsJudgement c Done text = IsAccepted c text
IsJudgement c Rejected text = IsRejected c text
IsJudgement c end text = ⊥

-- what is claimed holds, and the text calls the claim accepted
abbrev pub IsTrueAcceptance : Claim → List ℕ → Type 0
IsTrueAcceptance c text = ClaimHolds c × (text ≡ accepted_line c)

-- ---- claims about functions that jump

-- the line that calls a claim accepted
abbrev pub accepted_limit_line : LimitClaim → List ℕ
accepted_limit_line c = line (codes "accepted " ++ limit_claim_word c)

-- every rule of the claim holds, and so does what it claims; the text calls it accepted
pub record IsLimitAccepted (c : LimitClaim) (text : List ℕ) : Type 0 where
  pub rules : MeetsLimitRules c
  pub holds : LimitClaimHolds c
  pub spelled : text ≡ accepted_limit_line c

-- the text names the first rule that fails and its line
pub record IsLimitRejected (c : LimitClaim) (text : List ℕ) : Type 0 where
  pub at_line : ℕ
  pub rule : CheckRule
  pub first : IsFirstLimitFailure c at_line rule
  pub spelled : text ≡ rejected_line at_line rule

-- what the checker says of a claim, and how the reply ends
abbrev pub IsLimitJudgement : LimitClaim → End → List ℕ → Type 0
IsLimitJudgement c Done text = IsLimitAccepted c text
IsLimitJudgement c Rejected text = IsLimitRejected c text
IsLimitJudgement c end text = ⊥

-- what is claimed holds, and the text calls the claim accepted
abbrev pub IsTrueLimitAcceptance : LimitClaim → List ℕ → Type 0
IsTrueLimitAcceptance c text = LimitClaimHolds c × (text ≡ accepted_limit_line c)

-- ---- claims and derivations

-- a claim, one about a function that jumps, or steps with the text that tells them
pub data Checkable : Type 0 where
  of_claim : Claim → Checkable
  of_limit_claim : LimitClaim → Checkable
  of_steps : Told DerivationInput → Checkable

-- the input is the proof text of the claim, or it tells the steps
abbrev pub SpellsCheckable : List ℕ → Checkable → Type 0
SpellsCheckable input (of_claim c) = IsProofOf input c
SpellsCheckable input (of_limit_claim c) = IsLimitProofOf input c
SpellsCheckable input (of_steps t) = SpellsDerivation input t

abbrev pub check_form : Form Checkable
check_form = reading SpellsCheckable

-- the first line is `gj-proof 3`
abbrev pub BeginsAsLimitProof : List ℕ → Type 0
BeginsAsLimitProof input = BeginsWithLine Strict (codes "gj-proof" ∷ codes "3" ∷ []) input

-- the first word says whether an input is read as a derivation or as a proof text, and the first
-- line as which
abbrev pub RefusesCheckable : List ℕ → List ℕ → Type 0
RefusesCheckable input text =
    (BeginsAsDerivation input × RefusesDerivation input text)
    ⊎ ((BeginsAsDerivation input → ⊥) × BeginsAsLimitProof input × RefusesLimitProofText input text)
    ⊎ ((BeginsAsDerivation input → ⊥) × (BeginsAsLimitProof input → ⊥)
    × RefusesProofText input text)

abbrev pub IsCheckReply : Checkable → End → List ℕ → Type 0
IsCheckReply (of_claim c) end text = IsJudgement c end text
IsCheckReply (of_limit_claim c) end text = IsLimitJudgement c end text
IsCheckReply (of_steps t) end text = IsDerivationReply t end text

-- the headline: what is claimed holds, and the text says that it is accepted
abbrev pub IsTrueCheck : Checkable → List ℕ → Type 0
IsTrueCheck (of_claim c) text = IsTrueAcceptance c text
IsTrueCheck (of_limit_claim c) text = IsTrueLimitAcceptance c text
IsTrueCheck (of_steps t) text = IsTrueDerivation t text

abbrev pub check_promise : Promise
check_promise = record { Thing = Checkable; form = check_form; headline = IsTrueCheck }

abbrev pub check : Task
check = record {
  promise = check_promise;
  work = record { refuses = RefusesCheckable; replies = IsCheckReply };
}
