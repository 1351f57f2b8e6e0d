use Rattle.gj_sparse_elim.proofs.EntrySums.{sum_by_entries}
use Rattle.gj_sparse_elim.proofs.entry.entries_add_up.Goals as goal

pub returns : goal.returns
returns c = sum_by_entries
