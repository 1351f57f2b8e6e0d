use Rattle.std.proofs.Common.{◌≡◌, ◌++◌, flat_map, take, length, zip}
use Rattle.gj_proof.specs.ProofText.{pair_line}
use Rattle.gj_proof.proofs.write_extreme.push_pairs.Given as goal

abbrev pub invariant-loop-x : goal.invariant-loop-x
invariant-loop-x l =
    l.out.items ≡ l.fn.out.items ++ flat_map pair_line
    (take (length l.yielded) (zip l.first l.second))
