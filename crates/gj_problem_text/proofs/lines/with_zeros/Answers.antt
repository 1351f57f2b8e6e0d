use Rattle.std.proofs.Common.{◌+◌, codes}
use Rattle.gj_problem.specs.Sparse.{no_fraction}
use Rattle.gj_problem_text.proofs.LinesTold.{counted_more, appended_more}
use Rattle.gj_problem_text.proofs.lines.with_zeros.Goals as goal

pub loop-behind-preserved : goal.loop-behind-preserved
loop-behind-preserved c =
    let (n, words, numbers) = c.loop-behind.invariant in (
      n + 1,
      counted_more n (codes "0") _ _ _ words c.in-Some.ensures,
      appended_more n no_fraction _ _ _ numbers c.in_ok-push_zero.ensures,
    )
