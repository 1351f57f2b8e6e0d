use Rattle.std.proofs.Common.{take}
use Rattle.gj_proof.specs.declared.cut.CutRule.TheVariants.{Table}
use Rattle.gj_cut_text.specs.MixedLines.{AppendsLines}
use Rattle.gj_cut_text.proofs.lines.push_lines_by.Given as goal

abbrev pub invariant-loop-row : goal.invariant-loop-row
invariant-loop-row g l =
    AppendsLines l.mixed (Table l.fn.shape) l.columns (take l.row-index l.rows) l.fn.out.items l.out.items
