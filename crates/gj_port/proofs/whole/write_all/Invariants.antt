use Rattle.std.proofs.Common.{length, ◌-◌, ◌≡◌, ◌+◌, ◌≤◌, ◌++◌, take, IfSome, Some}
use Rattle.gj_port.proofs.whole.write_all.Given as goal

abbrev pub invariant-loop-done : goal.invariant-loop-done
invariant-loop-done g l = record {
  within : l.done ≤ length l.bytes;
  told : IfSome (g.K.Sink.written l.fn.sink)
      (λ before. g.K.Sink.written l.sink ≡ Some (before ++ take l.done l.bytes));
  count : g.K.Sink.faults l.fn.sink ≤ g.K.Sink.faults l.sink;
  sure : g.K.Sink.sure l.fn.sink ≤ g.K.Sink.sure l.sink + l.done;
}

abbrev pub decreases-loop-done : goal.decreases-loop-done
decreases-loop-done g l = length l.bytes - l.done
