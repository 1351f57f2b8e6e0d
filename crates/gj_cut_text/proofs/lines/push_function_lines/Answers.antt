use Rattle.std.proofs.Common.{sym, subst}
use Rattle.gj_shape.specs.Table.{IsMinimal}
use Rattle.gj_cut_text.proofs.lines.push_function_lines.Goals as goal

pub push_lines_by-requires-clause-minimal : goal.push_lines_by-requires-clause-minimal
push_lines_by-requires-clause-minimal c =
    subst IsMinimal (sym c.in_ok-kept.ensures) c.requires.minimal

pub push_lines_by-requires-2-clause-minimal : goal.push_lines_by-requires-2-clause-minimal
push_lines_by-requires-2-clause-minimal c =
    subst IsMinimal (sym c.in_ok-kept.ensures) c.requires.minimal
