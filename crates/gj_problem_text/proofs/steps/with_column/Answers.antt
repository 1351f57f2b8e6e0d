use Rattle.std.proofs.Common.{inl, inr, refl}
use Rattle.gj_problem_text.proofs.steps.with_column.Goals as goal

pub returns-in_default-bound_of-clause-refused : goal.returns-in_default-bound_of-clause-refused
returns-in_default-bound_of-clause-refused c =
    inr (
      c.in_ok-kept.ensures.found.1,
      inr (
        (c.in-Some.lower, c.in-Some.ensures.found),
        inl
            (c.in_default-bound_of.ensures.none, refl),
      ),
    )
