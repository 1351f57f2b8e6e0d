use Rattle.std.proofs.Common.{length}
use Rattle.gj_lex.specs.Words.{word_texts}
use Rattle.gj_problem_text.proofs.LinesTold.{AreRead}
use Rattle.gj_problem_text.proofs.lines.sum_in.Given as goal

abbrev pub invariant-loop-word : goal.invariant-loop-word
invariant-loop-word l = AreRead (word_texts l.rest) l.multipliers (word_texts l.left)

abbrev pub decreases-loop-word : goal.decreases-loop-word
decreases-loop-word l = length (word_texts l.left)
