use Rattle.std.proofs.Common.{ℕ, ◌≤◌, ◌-◌, ◌++◌, List, length}
use Rattle.gj_lex.specs.Words.{AreWords}
use Rattle.gj_lex.proofs.words.words_of.Given as goal

abbrev pub invariant-loop-start : goal.invariant-loop-start
invariant-loop-start l = record {
  within : l.place ≤ length l.line;
  so_far : (rest : List (ℕ × ℕ)) → AreWords l.line l.place rest →
      AreWords l.line 0 (l.words.items ++ rest);
}

abbrev pub decreases-loop-start : goal.decreases-loop-start
decreases-loop-start l = length l.line - l.place
