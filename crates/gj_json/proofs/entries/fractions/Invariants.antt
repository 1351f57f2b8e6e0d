use Rattle.gj_json.proofs.ReadSoFar.{SpellSoFar}
use Rattle.gj_json.proofs.entries.fractions.Given as goal

abbrev pub invariant-loop-value : goal.invariant-loop-value
invariant-loop-value l = SpellSoFar l.values l.value-index l.fractions.items
