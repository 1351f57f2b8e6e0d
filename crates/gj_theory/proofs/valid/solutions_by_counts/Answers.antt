use Rattle.gj_theory.proofs.CountedSolutions.{counts_of_list, list_of_counts, valid_by_counts, counted_by_valid}
use Rattle.gj_theory.proofs.valid.solutions_by_counts.Goals as goal

pub returns-clause-counts : goal.returns-clause-counts
returns-clause-counts c = counts_of_list

pub returns-clause-lists : goal.returns-clause-lists
returns-clause-lists c = list_of_counts

pub returns-clause-valid : goal.returns-clause-valid
returns-clause-valid c = valid_by_counts

pub returns-clause-counted : goal.returns-clause-counted
returns-clause-counted c = counted_by_valid
