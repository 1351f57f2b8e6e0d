use Rattle.std.proofs.Common.{take}
use Rattle.std.specs.List.{AllZip}
use Rattle.gj_fields.specs.Rational.{rational}
use Rattle.gj_problem.proofs.OneColumn.{IsTimes}
use Rattle.gj_relaxed.proofs.loose_pieces.times.Given as goal

abbrev pub invariant-loop-entry : goal.invariant-loop-entry
invariant-loop-entry l =
    AllZip (IsTimes (rational l.factor)) (take l.entry-index l.entries) l.scaled.items
