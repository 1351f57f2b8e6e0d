use Rattle.std.proofs.Common.{◌≡◌, ◌+◌, ◌≤◌, ◌-◌, ℕ, List, length, vec_len}
use Rattle.gj_port.specs.Whole.{IsRead}
use Rattle.gj_port.proofs.whole.read_on.Given as goal

abbrev pub invariant-loop-bytes : goal.invariant-loop-bytes
invariant-loop-bytes g l = record {
  within : vec_len l.bytes ≤ l.limit;
  buffer : length l.buffer ≡ length l.fn.buffer;
  told : (all : List ℕ) → IsRead all l.fn.bytes.items (g.S.Source.left l.fn.source) →
      IsRead all l.bytes.items (g.S.Source.left l.source);
  count : g.S.Source.faults l.fn.source ≤ g.S.Source.faults l.source;
  steady : g.S.Source.steady l.source ≡ g.S.Source.steady l.fn.source;
}

abbrev pub decreases-loop-bytes : goal.decreases-loop-bytes
decreases-loop-bytes g l = l.limit + 1 - vec_len l.bytes
