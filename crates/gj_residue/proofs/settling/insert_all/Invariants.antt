use Rattle.std.proofs.Common.{◌≡◌, length}
use Rattle.std.specs.Prelude.{All}
use Rattle.gj_frac.specs.Fraction.{Fits}
use Rattle.gj_shape.specs.Elimination.{whole_numbers}
use Rattle.gj_residue.proofs.Coming.{AreToCome}
use Rattle.gj_residue.proofs.settling.insert_all.Given as goal

abbrev pub invariant-loop-alloc : goal.invariant-loop-alloc
invariant-loop-alloc g l = record {
  come : AreToCome whole_numbers l.columns (g.R.RowSource.left l.fn.rows) l.basis
      (g.R.RowSource.left l.rows);
  entries : All (All Fits) (g.R.RowSource.left l.rows);
  same : g.R.RowSource.all l.rows ≡ g.R.RowSource.all l.fn.rows;
}

abbrev pub decreases-loop-alloc : goal.decreases-loop-alloc
decreases-loop-alloc g l = length (g.R.RowSource.left l.rows)
