use Rattle.std.proofs.Common.{◌≡◌, ◌-◌, ◌≤◌, List, ◌++◌}
use Rattle.gj_faces.specs.TightPairs.{AreTightPairsOf}
use Rattle.gj_shape.specs.FunctionData.{FunctionData}
use Rattle.gj_shape.specs.declared.extremality.RowName.{RowName}
use Rattle.gj_extreme.specs.RowsToCome.{pairs_from}
use Rattle.gj_extreme.proofs.residues.push_names.Given as goal

abbrev pub invariant-pairs : goal.invariant-pairs
invariant-pairs l = (f : FunctionData) (behind : List RowName) → AreTightPairsOf f l.pairs →
    (l.from ≤ f.order) × (l.names.items ++ (pairs_from f l.a l.from ++ behind)
    ≡ l.initial.names.items ++ (pairs_from f l.a l.a ++ behind))

abbrev pub decreases-pairs : goal.decreases-pairs
decreases-pairs l = 1024 - l.from
