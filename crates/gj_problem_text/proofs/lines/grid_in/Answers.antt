use Rattle.std.proofs.Common.{arith}
use Rattle.gj_problem_text.proofs.LinesTold.{no_grid, zero_is_no_grid}
use Rattle.gj_problem_text.proofs.lines.grid_in.Goals as goal

pub returns-in_default-count_of-clause-broken : goal.returns-in_default-count_of-clause-broken
returns-in_default-count_of-clause-broken c =
    rw c.in-Some.ensures.found
    (no_grid c.in-Some.word.now (λ n some. c.in_default-count_of.ensures.none n))

pub returns-then-grid-eq0-clause-broken : goal.returns-then-grid-eq0-clause-broken
returns-then-grid-eq0-clause-broken c =
    rw c.in-Some.ensures.found
    (zero_is_no_grid c.in-Some.word.now c.in-Some-count_of.grid c.in-Some-count_of.ensures.found
    (omega (arith, c.if-grid-eq0.true)))
