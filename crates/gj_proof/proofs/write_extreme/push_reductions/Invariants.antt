use Rattle.std.proofs.Common.{◌≡◌, ◌++◌, flat_map, take}
use Rattle.gj_proof.specs.ProofText.{reduction_line}
use Rattle.gj_proof.proofs.write_extreme.push_reductions.Given as goal

abbrev pub invariant-loop-column : goal.invariant-loop-column
invariant-loop-column l = l.out.items ≡ l.fn.out.items ++ flat_map reduction_line
    (take l.column-index l.columns)
