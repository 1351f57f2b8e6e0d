use Rattle.std.proofs.lemmas.Bool.{false≢true}
use Rattle.gj_problem_text.proofs.Bounds.{no_bound}
use Rattle.gj_problem_text.proofs.steps.bound_of.Goals as goal

pub returns-in_default-clause-none : goal.returns-in_default-clause-none
returns-in_default-clause-none c =
    no_bound c.args.word.now (λ is. false≢true (c.if-is_absent.ensures.1 is))
    c.in_default.ensures.none
