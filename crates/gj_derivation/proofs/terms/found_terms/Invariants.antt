use Rattle.gj_derivation.specs.Derivations.{times}
use Rattle.gj_derivation.specs.Checks.{line_of_sum}
use Rattle.gj_derivation.proofs.FoundTerms.{AreFoundUpTo}
use Rattle.gj_derivation.proofs.NarrowTerms.{IsFoundNarrowTo}
use Rattle.gj_derivation.proofs.terms.found_terms.Given as goal

abbrev pub invariant-loop-j : goal.invariant-loop-j
invariant-loop-j l = record {
  found : AreFoundUpTo l.grid l.columns (times l.factor (line_of_sum l.sum)) l.j l.terms.items;
  narrow : IsFoundNarrowTo l.grid l.columns l.factor l.sum l.j;
}
