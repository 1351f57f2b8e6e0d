use Rattle.std.proofs.Common.{ℕ, ℤ, List, length, ◌≡◌, ◌<◌}
use Rattle.gj_check_minimal.specs.Tables.{AreTwoPeriods}
use Rattle.gj_check_minimal.specs.Bends.{bend, PassesAtBends}
use Rattle.gj_check_minimal.proofs.bends.pass_at_bends.Given as goal

abbrev pub invariant-loop-p : goal.invariant-loop-p
invariant-loop-p g l =
    (values : List ℤ) → length values ≡ l.count → AreTwoPeriods g.E.Entry.number l.entries values →
    (p : ℕ) → p < l.p → PassesAtBends values l.bends (bend l.bends p)
