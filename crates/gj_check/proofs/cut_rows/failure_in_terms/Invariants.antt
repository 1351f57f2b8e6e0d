use Rattle.std.proofs.Common.{ℕ, ◌<◌, ◌≤◌}
use Rattle.gj_proof.specs.Rules.{AtIndex}
use Rattle.gj_check.specs.CutRows.{MeetsTerm}
use Rattle.gj_check.specs.RowLimits.{IsRowDenominator}
use Rattle.gj_check.proofs.RowOutcomes.{numbers}
use Rattle.gj_check.proofs.cut_rows.failure_in_terms.Given as goal

abbrev pub invariant-loop-index : goal.invariant-loop-index
invariant-loop-index l =
    IsRowDenominator (numbers l.right l.index l.terms) l.denominator
    × ((i : ℕ) → i < l.index → AtIndex l.terms i (MeetsTerm l.rule l.basic l.right))
    × (l.index ≤ l.repeated)
