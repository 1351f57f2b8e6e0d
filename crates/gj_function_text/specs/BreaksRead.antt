-- What the readers of the lines of breakpoints find (own).
use Rattle.std.specs.Prelude.{ℕ}
use Rattle.gj_lex.specs.declared.reason.Reason.TheVariants as reason
use Rattle.gj_forms.specs.declared.fault.PartFault.{PartFault}
use Rattle.gj_forms.specs.declared.fault.PartFault.TheVariants as part
use Rattle.gj_shape.specs.declared.breaks.BreakFault.{BreakFault}
use Rattle.gj_shape.specs.declared.breaks.BreakFault.TheVariants as fault
use Rattle.gj_shape.specs.declared.faults.ShapeFault.{ShapeFault}
use Rattle.gj_shape.specs.declared.faults.ShapeFault.TheVariants as shape

-- the refusal of a line, with so many bytes left, whose breakpoint cannot follow
abbrev pub refusal_of : BreakFault → ℕ → PartFault
refusal_of fault.Break left = part.Refused left reason.Break
refusal_of fault.Pieces left = part.Refused left reason.Pieces
refusal_of fault.Large left = part.Refused left reason.Large
refusal_of fault.Fine left = part.Refused left reason.Fine
refusal_of (fault.Memory e) left = part.Memory e

-- the refusal of the line `end`, with so many bytes left, if there is no function: its fractions
-- are too fine
abbrev pub end_refusal : ShapeFault → ℕ → PartFault
end_refusal (shape.Memory e) left = part.Memory e
end_refusal shape.Order left = part.Refused left reason.Fine
end_refusal shape.Place left = part.Refused left reason.Fine
end_refusal shape.Count left = part.Refused left reason.Fine
end_refusal (shape.TooLarge i) left = part.Refused left reason.Fine
end_refusal (shape.TooFine i) left = part.Refused left reason.Fine
