use Rattle.std.proofs.Common.{pos, int_div}
use Rattle.gj_shape.specs.Entries.{HasEntries}
use Rattle.gj_shape.specs.FunctionData.{at}
use Rattle.gj_transform.proofs.entries.quotients.Given as goal

abbrev pub invariant-loop-n : goal.invariant-loop-n
invariant-loop-n l =
    HasEntries (λ i. int_div (at l.entries i) (pos l.divisor)) l.n-index l.items.items
