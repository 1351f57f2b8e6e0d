use Rattle.std.proofs.Common.{◌≡◌, length}
use Rattle.gj_shape.specs.Residues.{modulo}
use Rattle.gj_theory.specs.Modulus.{modulus}
use Rattle.gj_residue.proofs.Coming.{AreToCome}
use Rattle.gj_residue.proofs.settling.insert_residues.Given as goal

abbrev pub invariant-loop-alloc : goal.invariant-loop-alloc
invariant-loop-alloc g l = record {
  come : AreToCome (modulo modulus) l.columns (g.R.RowSource.left l.fn.rows) l.basis
      (g.R.RowSource.left l.rows);
  same : g.R.RowSource.all l.rows ≡ g.R.RowSource.all l.fn.rows;
}

abbrev pub decreases-loop-alloc : goal.decreases-loop-alloc
decreases-loop-alloc g l = length (g.R.RowSource.left l.rows)
