use Rattle.std.proofs.Common.{ℕ, ℤ, List, length, ◌≡◌, ◌<◌, ◌≤◌}
use Rattle.gj_check_minimal.specs.Tables.{AreTwoPeriods, IsSubadditiveUpTo}
use Rattle.gj_check_minimal.proofs.tables.has_subadditive_total.Given as goal

abbrev pub invariant-loop-i : goal.invariant-loop-i
invariant-loop-i g l =
    (values : List ℤ) → length values ≡ l.count → AreTwoPeriods g.E.Entry.number l.entries values →
    (i : ℕ) → i < l.i → l.from ≤ i → IsSubadditiveUpTo values l.total i
