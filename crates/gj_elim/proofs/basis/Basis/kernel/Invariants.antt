use Rattle.gj_elim.specs.Tables.{rows_of}
use Rattle.gj_elim.proofs.KernelSteps.{IsSolvedTo}
use Rattle.gj_elim.proofs.basis.Basis.kernel.Given as goal

abbrev pub invariant-loop-column : goal.invariant-loop-column
invariant-loop-column l =
    IsSolvedTo (rows_of l.self-inside.kept) l.self-inside.columns
    l.free l.column l.numbers.items
