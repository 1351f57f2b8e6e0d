-- The first fault of a text that is no proof text: its line and its reason (own).
use Rattle.std.specs.Prelude.{ℕ, List}
use Rattle.gj_lex.specs.declared.reason.Reason.{Reason}
use Rattle.gj_forms.specs.Parts.{IsFirstFaultIn}
use Rattle.gj_proof.specs.ProofGrammar.{proof_text}
use Rattle.gj_proof.specs.declared.faults.ProofFault.{ProofFault}
use Rattle.gj_proof.specs.declared.faults.ProofFault.TheVariants.{Refused, Memory}

-- the n-th line of the text is the first at fault, for this reason
abbrev pub IsFirstFaultOfProof : List ℕ → ℕ → Reason → Type 0
IsFirstFaultOfProof text n e = IsFirstFaultIn proof_text text n e

-- a refusal names the line and the reason of the first fault of the text
abbrev pub NamesFirstFault : List ℕ → ProofFault → Type 0
NamesFirstFault text (Refused n e) = IsFirstFaultOfProof text n e
NamesFirstFault text (Memory a) = Unit {0}

-- the fault is want of memory
abbrev pub IsMemoryFault : ProofFault → Type 0
IsMemoryFault (Refused n e) = ⊥
IsMemoryFault (Memory a) = Unit {0}
