use Rattle.std.proofs.Common.{negsuc, refl}
use Rattle.gj_problem.proofs.AddedSums.{whole_ratio, negation_value}
use Rattle.gj_problem.proofs.bounds.Held.below_upper.Goals as goal

pub returns-clause-upper : goal.returns-clause-upper
returns-clause-upper c = record {
  bound = c.upper_bound-bound.result;
  bound_is = c.upper_bound-bound.ensures;
  inequality_is = record {
    entry = record { column = c.args.self.index; value = c.ratio.result };
    alone = c.in_ok-entries.ensures;
    column = refl;
    value = whole_ratio c.ratio.result (negsuc 0) c.ratio.ensures;
    right_is = negation_value c.upper_bound-bound.result c.neg-2.result c.neg-2.ensures;
  };
  entry_is = negation_value c.args.self.coefficient c.neg.result c.neg.ensures;
}
