-- What a fault of a line says (own).
use Rattle.gj_lex.specs.declared.reason.Reason.{Reason}
use Rattle.gj_forms.specs.declared.line_fault.LineFault.{LineFault}
use Rattle.gj_forms.specs.declared.line_fault.LineFault.TheVariants.{Broken, Memory}

-- the line is refused for a reason of which Q holds, or there was no memory
abbrev pub IsRefusedFor : (Reason → Type 0) → LineFault → Type 0
IsRefusedFor Q (Broken e) = Q e
IsRefusedFor Q (Memory a) = Unit {0}

-- there was no memory
abbrev pub IsMemory : LineFault → Type 0
IsMemory (Broken e) = ⊥
IsMemory (Memory a) = Unit {0}
