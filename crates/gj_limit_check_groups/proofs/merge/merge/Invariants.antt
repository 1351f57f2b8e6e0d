use Rattle.std.proofs.Common.{ℕ, ◌+◌, ◌-◌, ◌≤◌, length}
use Rattle.std.specs.Prelude.{vec_len, vec_capacity}
use Rattle.gj_limit_check_groups.proofs.MergedRows.{IsMerged}
use Rattle.gj_limit_check_groups.proofs.merge.merge.Given as goal

abbrev pub invariant-entries : goal.invariant-entries
invariant-entries l = record {
  merged : (a : ℕ) × IsMerged l.step l.columns l.kept l.row l.next.items l.i l.j a;
  i_within : l.i ≤ length l.row;
  j_within : l.j ≤ length l.kept;
  few : vec_len l.next ≤ l.i + l.j;
  room : length l.row + length l.kept ≤ vec_capacity l.next;
}

abbrev pub decreases-entries : goal.decreases-entries
decreases-entries l = length l.row + length l.kept - (l.i + l.j)
