use Rattle.std.proofs.Common.{drop}
use Rattle.gj_derivation_text.specs.PrintedDerivation.{kept_name}
use Rattle.gj_derivation_text.proofs.PrintedPairs.{ArePairs}
use Rattle.gj_derivation_text.proofs.print.push_kept.Given as goal

abbrev pub invariant-loop-i : goal.invariant-loop-i
invariant-loop-i l =
    ArePairs kept_name l.initial.lines.items l.names l.shown l.lines.items (drop l.i l.names)
    (drop l.i l.shown)
