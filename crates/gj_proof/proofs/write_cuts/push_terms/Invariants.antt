use Rattle.std.proofs.Common.{◌≡◌, ◌++◌, flat_map, take}
use Rattle.gj_proof.specs.ProofText.{term_line}
use Rattle.gj_proof.proofs.write_cuts.push_terms.Given as goal

abbrev pub invariant-loop-term : goal.invariant-loop-term
invariant-loop-term l =
    l.out.items ≡ l.fn.out.items ++ flat_map term_line (take l.term-index l.terms)
