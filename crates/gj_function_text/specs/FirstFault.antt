-- The first fault of a text that is no function text: its line and its reason; and what readers
-- answer (own).
use Rattle.std.specs.Prelude.{ℕ, List}
use Rattle.gj_lex.specs.declared.reason.Reason.{Reason}
use Rattle.gj_forms.specs.Parts.{IsFirstFaultIn}
use Rattle.gj_function_text.specs.FunctionText.{function_text, whole_function_text}
use Rattle.gj_function_text.specs.declared.faults.TextFault.{TextFault}
use Rattle.gj_function_text.specs.declared.faults.TextFault.TheVariants.{Refused, Memory}

-- the n-th line of the text is the first at fault, for this reason
abbrev pub IsFirstFaultOfFunction : List ℕ → ℕ → Reason → Type 0
IsFirstFaultOfFunction text n e = IsFirstFaultIn function_text text n e

-- the same if nothing may follow the function text
abbrev pub IsFirstFaultOfWhole : List ℕ → ℕ → Reason → Type 0
IsFirstFaultOfWhole text n e = IsFirstFaultIn whole_function_text text n e

-- the fault is want of memory
abbrev pub IsMemoryFault : TextFault → Type 0
IsMemoryFault (Refused n e) = ⊥
IsMemoryFault (Memory a) = Unit {0}

-- a refusal names the line and the reason of the first fault of the text
abbrev pub NamesFirstFault : List ℕ → TextFault → Type 0
NamesFirstFault text (Refused n e) = IsFirstFaultOfFunction text n e
NamesFirstFault text (Memory a) = Unit {0}

abbrev pub NamesFirstFaultOfWhole : List ℕ → TextFault → Type 0
NamesFirstFaultOfWhole text (Refused n e) = IsFirstFaultOfWhole text n e
NamesFirstFaultOfWhole text (Memory a) = Unit {0}
