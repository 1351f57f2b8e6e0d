-- The first fault of a text that is no proof text about a function that jumps: its line and its
-- reason (own).
use Rattle.std.specs.Prelude.{ℕ, List}
use Rattle.gj_lex.specs.declared.reason.Reason.{Reason}
use Rattle.gj_forms.specs.Parts.{IsFirstFaultIn}
use Rattle.gj_proof.specs.declared.faults.ProofFault.{ProofFault}
use Rattle.gj_proof.specs.declared.faults.ProofFault.TheVariants.{Refused, Memory}
use Rattle.gj_limit_proof.specs.LimitGrammar.{limit_proof_text}

-- the n-th line of the text is the first at fault, for this reason
abbrev pub IsFirstFaultOfLimitProof : List ℕ → ℕ → Reason → Type 0
IsFirstFaultOfLimitProof text n e = IsFirstFaultIn limit_proof_text text n e

-- a refusal names the line and the reason of the first fault of the text
abbrev pub NamesFirstFault : List ℕ → ProofFault → Type 0
NamesFirstFault text (Refused n e) = IsFirstFaultOfLimitProof text n e
NamesFirstFault text (Memory a) = Unit {0}
