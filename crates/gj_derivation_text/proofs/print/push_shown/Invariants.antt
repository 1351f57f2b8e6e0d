use Rattle.std.proofs.Common.{drop}
use Rattle.gj_derivation_text.specs.PrintedDerivation.{shown_line}
use Rattle.gj_derivation_text.proofs.PrintedPairs.{ArePairs}
use Rattle.gj_derivation_text.proofs.print.push_shown.Given as goal

abbrev pub invariant-loop-i : goal.invariant-loop-i
invariant-loop-i l =
    ArePairs (shown_line l.columns l.lines) l.initial.out.items l.names l.shown l.out.items
    (drop l.i l.names) (drop l.i l.shown)
