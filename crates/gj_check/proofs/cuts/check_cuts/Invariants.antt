use Rattle.std.proofs.Common.{◌≡◌, ◌+◌, All, take}
use Rattle.gj_check.specs.CutRows.{HaveDifferentNames, MeetsCutRow}
use Rattle.gj_check.proofs.CutLines.{first_of, count_of}
use Rattle.gj_check.proofs.cuts.check_cuts.Given as goal

abbrev pub invariant-loop-row : goal.invariant-loop-row
invariant-loop-row l =
    (l.line ≡ first_of l.rule + count_of (take l.row-index l.rows))
    × All (MeetsCutRow l.rule) (take l.row-index l.rows)
    × HaveDifferentNames l.known
