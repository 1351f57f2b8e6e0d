use Rattle.std.proofs.Common.{◌≡◌, ◌++◌}
use Rattle.gj_limit_proof.specs.LimitText.{halves_line}
use Rattle.gj_limit_proof.proofs.LimitWritten.{first_pairs}
use Rattle.gj_limit_proof.proofs.write_pairs.push_limit_halves.Given as goal

abbrev pub invariant-loop-index : goal.invariant-loop-index
invariant-loop-index l =
    l.out.items ≡ l.fn.out.items ++ (halves_line l.halves ++ first_pairs l.halves l.index)
