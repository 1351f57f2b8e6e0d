use Rattle.std.proofs.Common.{ℤ, List, length, ◌≡◌, ◌≤◌}
use Rattle.gj_check_minimal.specs.Tables.{AreTwoPeriods}
use Rattle.gj_check_minimal.specs.Bends.{AreIndices}
use Rattle.gj_check_minimal.proofs.BendTests.{AreBendsBefore}
use Rattle.gj_check_minimal.proofs.bends.few_bends.Given as goal

abbrev pub invariant-loop-i : goal.invariant-loop-i
invariant-loop-i g l =
    AreIndices l.count l.bends × (l.bends.count ≤ l.most)
    × ((values : List ℤ) → length values ≡ l.count →
    AreTwoPeriods g.E.Entry.number l.entries values → AreBendsBefore values l.bends l.i)
    × (length l.bends.indices ≡ 64)
