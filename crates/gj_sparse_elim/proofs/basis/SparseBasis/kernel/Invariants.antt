use Rattle.gj_elim.proofs.KernelSteps.{IsSolvedTo}
use Rattle.gj_sparse_elim.specs.Rows.{sparse_rows}
use Rattle.gj_sparse_elim.proofs.basis.SparseBasis.kernel.Given as goal

abbrev pub invariant-loop-column : goal.invariant-loop-column
invariant-loop-column l =
    IsSolvedTo (sparse_rows l.self-inside.columns l.self-inside.kept)
    l.self-inside.columns l.free l.column
    l.numbers.items
