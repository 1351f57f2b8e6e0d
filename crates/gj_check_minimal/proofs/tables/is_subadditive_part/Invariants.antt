use Rattle.std.proofs.Common.{ℤ, List, length, ◌≡◌, ◌≤◌, max}
use Rattle.gj_check_minimal.specs.Tables.{AreTwoPeriods}
use Rattle.gj_check_minimal.proofs.TableTests.{BoundsRises}
use Rattle.gj_check_minimal.proofs.tables.is_subadditive_part.Given as goal

abbrev pub invariant-loop-j : goal.invariant-loop-j
invariant-loop-j g l =
    ((values : List ℤ) → length values ≡ l.count → AreTwoPeriods g.E.Entry.number l.entries values →
    BoundsRises values l.i l.from l.j (g.E.Entry.number l.rise))
    × (l.j ≤ max l.from l.end)
