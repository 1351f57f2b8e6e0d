use Rattle.std.proofs.Common.{◌≡◌, List, length, map, take}
use Rattle.gj_shape.specs.Elimination.{KeptRow}
use Rattle.gj_extreme.specs.RowsToCome.{AreLoggedRows}
use Rattle.gj_extreme.proofs.groups.groups_of.Given as goal

abbrev pub invariant-loop-name : goal.invariant-loop-name
invariant-loop-name g l =
    (name_of : KeptRow → _) (kept : List KeptRow) → l.names ≡ map name_of kept →
    AreLoggedRows kept l.log →
    l.groups.items
    ≡ map (λ k. g.M.GroupMaker.made (name_of k) k.reduce k.pivot) (take (length l.yielded) kept)
