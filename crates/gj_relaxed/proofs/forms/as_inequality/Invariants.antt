use Rattle.std.proofs.Common.{take}
use Rattle.std.specs.List.{AllZip}
use Rattle.gj_fields.specs.Rational.{whole}
use Rattle.gj_problem.proofs.OneColumn.{IsTimes}
use Rattle.gj_relaxed.specs.RelaxedSteps.{sign_of}
use Rattle.gj_relaxed.proofs.forms.as_inequality.Given as goal

abbrev pub invariant-loop-entry : goal.invariant-loop-entry
invariant-loop-entry l =
    AllZip (IsTimes (whole (sign_of l.is_turned)))
    (take l.entry-index l.entry-items) l.entries.items
