use Rattle.std.proofs.Common.{ℕ, ℤ, List, length, ◌≡◌, ◌<◌, ◌+◌, ◌-◌}
use Rattle.gj_check_minimal.specs.Tables.{AreTwoPeriods, IsSubadditivePair}
use Rattle.gj_check_minimal.specs.Bends.{bend}
use Rattle.gj_check_minimal.proofs.bends.passes_at_bends.Given as goal

abbrev pub invariant-loop-p : goal.invariant-loop-p
invariant-loop-p g l =
    (values : List ℤ) → length values ≡ l.count → AreTwoPeriods g.E.Entry.number l.entries values →
    (p : ℕ) → p < l.p → IsSubadditivePair values l.i (bend l.bends p)
    × IsSubadditivePair values l.i (length values + bend l.bends p - l.i)
