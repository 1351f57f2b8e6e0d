use Rattle.std.proofs.Common.{All, take}
use Rattle.std.specs.List.{AllZip}
use Rattle.gj_frac.specs.Fits.{FitsProduct}
use Rattle.gj_fields.specs.Rational.{rational}
use Rattle.gj_problem.proofs.OneColumn.{IsTimes}
use Rattle.gj_problem.proofs.slacks.times.Given as goal

abbrev pub invariant-loop-entry : goal.invariant-loop-entry
invariant-loop-entry l = record {
  are : AllZip (IsTimes (rational l.factor)) (take l.entry-index l.entries) l.scaled.items;
  fit : All (λ e. FitsProduct l.factor e.value) (take l.entry-index l.entries);
}
