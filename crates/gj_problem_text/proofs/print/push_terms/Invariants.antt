use Rattle.std.proofs.Common.{drop}
use Rattle.gj_problem_text.specs.CutText.{cut_term_line}
use Rattle.gj_problem_text.proofs.PrintedItems.{ArePrinted}
use Rattle.gj_problem_text.proofs.print.push_terms.Given as goal

abbrev pub invariant-loop-entry : goal.invariant-loop-entry
invariant-loop-entry l =
    ArePrinted (cut_term_line l.names) l.initial.out.items l.entries l.out.items
    (drop l.entry-index l.entries)
