use Rattle.std.proofs.Common.{◌≡◌, ◌++◌, ℕ, length, replicate, codes}
use Rattle.gj_lex.specs.Words.{word_texts}
use Rattle.gj_problem.specs.Sparse.{no_fraction}
use Rattle.gj_problem_text.proofs.lines.with_zeros.Given as goal

abbrev pub invariant-loop-behind : goal.invariant-loop-behind
invariant-loop-behind l = (n : ℕ)
    × (word_texts l.line ≡ replicate n (codes "0") ++ word_texts l.left)
    × (l.multipliers ≡ l.initial.multipliers ++ replicate n no_fraction)

abbrev pub decreases-loop-behind : goal.decreases-loop-behind
decreases-loop-behind l = length (word_texts l.left)
