use Rattle.std.proofs.Common.{pos, refl}
use Rattle.gj_problem.proofs.AddedSums.{whole_ratio}
use Rattle.gj_problem.proofs.bounds.Held.above_lower.Goals as goal

pub returns-clause-lower : goal.returns-clause-lower
returns-clause-lower c = record {
  bound = c.lower_bound-bound.result;
  bound_is = c.lower_bound-bound.ensures;
  inequality_is = record {
    entry = record { column = c.args.self.index; value = c.ratio.result };
    alone = c.in_ok-entries.ensures;
    column = refl;
    value = whole_ratio c.ratio.result (pos 1) c.ratio.ensures;
    right_is = refl;
  };
  entry_is = refl;
}
