use Rattle.std.proofs.Common.{take}
use Rattle.gj_proof.specs.declared.cut.CutRule.TheVariants.{Gmic}
use Rattle.gj_cut_text.specs.MixedLines.{AppendsLines}
use Rattle.gj_cut_text.proofs.lines.push_gmic_lines.Given as goal

abbrev pub invariant-loop-row : goal.invariant-loop-row
invariant-loop-row l =
    AppendsLines l.mixed Gmic l.columns (take l.row-index l.rows) l.fn.out.items l.out.items
