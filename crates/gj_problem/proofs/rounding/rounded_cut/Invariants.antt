use Rattle.std.proofs.Common.{take}
use Rattle.gj_fields.specs.Rational.{rational}
use Rattle.gj_problem.proofs.MovedEntries.{AreMovedTo}
use Rattle.gj_problem.proofs.NarrowRoundings.{HasWideEntry}
use Rattle.gj_problem.proofs.rounding.rounded_cut.Given as goal

abbrev pub invariant-loop-entry : goal.invariant-loop-entry
invariant-loop-entry l =
    AreMovedTo l.problem l.grid (take l.entry-index l.entry-items) l.entries.items
    (rational l.cut.right) (rational l.right)
    × (HasWideEntry l.problem l.grid l.cut.right (take l.entry-index l.entry-items) → ⊥)
