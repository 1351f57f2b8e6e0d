use Rattle.std.proofs.Common.{take}
use Rattle.std.specs.List.{AllZip}
use Rattle.gj_relaxed.specs.RelaxedForms.{AreForms}
use Rattle.gj_relaxed.proofs.forms.forms_of.Given as goal

abbrev pub invariant-loop-constraint : goal.invariant-loop-constraint
invariant-loop-constraint l =
    AllZip (AreForms l.problem l.grid) (take l.constraint-index l.constraint-items) l.made.items
