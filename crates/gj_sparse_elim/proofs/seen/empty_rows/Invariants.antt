use Rattle.std.proofs.Common.{◌≡◌, ◌≤◌, [], length, All}
use Rattle.gj_sparse_elim.proofs.seen.empty_rows.Given as goal

abbrev pub invariant-loop : goal.invariant-loop
invariant-loop l = record {
  count : length l.rows.items ≡ l.counter;
  room : l.count ≤ l.rows.cap;
  empty : All (λ row. row ≡ []) l.rows.items;
}
