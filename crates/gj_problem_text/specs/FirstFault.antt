-- What the reader of a problem text answers (own).
use Rattle.std.specs.Prelude.{ℕ, List}
use Rattle.gj_problem_text.specs.ProblemText.{IsFirstFault}
use Rattle.gj_problem_text.specs.declared.faults.ProblemFault.{ProblemFault}
use Rattle.gj_problem_text.specs.declared.faults.ProblemFault.TheVariants.{Refused, Memory}

-- the fault is want of memory
abbrev pub IsMemoryFault : ProblemFault → Type 0
IsMemoryFault (Refused n e) = ⊥
IsMemoryFault (Memory a) = Unit {0}

-- a refusal names the line and the reason of the first fault of the text
abbrev pub NamesFirstFault : List ℕ → ProblemFault → Type 0
NamesFirstFault text (Refused n e) = IsFirstFault text n e
NamesFirstFault text (Memory a) = Unit {0}
