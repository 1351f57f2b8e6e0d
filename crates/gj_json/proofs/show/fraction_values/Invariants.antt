use Rattle.gj_json.proofs.Shown.{StringsSoFar}
use Rattle.gj_json.proofs.show.fraction_values.Given as goal

abbrev pub invariant-loop-numerator : goal.invariant-loop-numerator
invariant-loop-numerator l = StringsSoFar l.scale l.numerators l.numerator-index l.values.items
