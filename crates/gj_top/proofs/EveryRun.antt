-- What holds of every run follows from its outcome, and from what is known of faults.
use Rattle.std.proofs.Common.{◌≡◌, ◌≤◌}
use Rattle.gj_top.specs.declared.status.Status.TheVariants.{WriteFault}
use Rattle.gj_top.specs.IsRun.{IsRun}
use Rattle.gj_top.specs.Outcome.{IsOutcome}
use Rattle.gj_top.specs.Run.{Run, SinkFailed}
use Rattle.gj_top.proofs.ByLimits.{by_limits_clause}
use Rattle.gj_top.proofs.ByOrder4q.{order_4q_clause}
use Rattle.gj_top.proofs.Clauses as clauses
use Rattle.gj_top.proofs.NeverWide.{narrow_clause}
use Rattle.gj_top.proofs.TwoSlopeAnswers.{two_slopes_clause, called_extreme_clause}

pub is_run : (run : Run) → IsOutcome run → (run.status ≡ WriteFault → SinkFailed run) →
    run.read_faults ≤ run.read_faults_after →
    run.write_faults ≤ run.write_faults_after → IsRun run
is_run run o failed reads writes = record {
  reply = clauses.reply_clause run o;
  outcome = o;
  memory = clauses.memory_clause run o;
  fault_told = clauses.fault_clause run o;
  words_told = clauses.words_told_clause run o;
  words = clauses.words_clause run o;
  command = clauses.command_clause run o;
  ends = clauses.ends_clause run o;
  cause = clauses.cause_clause run o;
  complete = clauses.complete_clause run o failed;
  refused = clauses.refused_clause run o failed;
  unread = clauses.unread_clause run o;
  input = clauses.input_clause run o;
  read_fault = clauses.read_fault_clause run o;
  steady = clauses.steady_clause run o;
  read_count = reads;
  write_fault = failed;
  sure = clauses.sure_clause run o;
  write_count = writes;
  narrow = narrow_clause run o;
  order_4q = order_4q_clause run o;
  two_slopes = two_slopes_clause run o;
  called_extreme = called_extreme_clause run o;
  by_limits = by_limits_clause run o;
}
