use Rattle.std.proofs.Common.{length}
use Rattle.std.specs.List.{range_with_len}
use Rattle.gj_shape.specs.Elimination.{insertion_by}
use Rattle.gj_shape.specs.Residues.{modulo}
use Rattle.gj_theory.specs.Modulus.{modulus}
use Rattle.gj_elim.proofs.Progressing.{IsBehind, rest}
use Rattle.gj_residue.specs.Rows.{numbers_of, AreResidues, kept_residues}
use Rattle.gj_residue.proofs.reduce.reduce_columns.Given as goal

abbrev pub invariant-loop-column : goal.invariant-loop-column
invariant-loop-column l = record {
  behind : IsBehind
      (insertion_by (modulo modulus) (kept_residues l.kept)
      (range_with_len 0 (length l.initial.row)) (numbers_of l.initial.row))
      l.reduce.items (rest (modulo modulus) (kept_residues l.kept)
      (length l.initial.row) l.column (numbers_of l.row));
  below : AreResidues l.row;
}
