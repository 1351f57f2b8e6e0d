use Rattle.std.proofs.Common.{sym, subst}
use Rattle.std.specs.Prelude.{All}
use Rattle.gj_proof.specs.declared.numbers.Numbers.{Numbers}
use Rattle.gj_check_groups.specs.RowNumbers.{IsResidue, AreRowNumbers}
use Rattle.gj_check_groups.proofs.ResidueRows.{reduced_residues}
use Rattle.gj_check_groups.proofs.step.reduce.Goals as goal

pub returns-in-Residues-clause-fits : goal.returns-in-Residues-clause-fits
returns-in-Residues-clause-fits c =
    subst (λ (m : Numbers). AreRowNumbers m c.reduce_modulo.new.row) (sym c.in-Residues.is)
    (subst (All IsResidue) (sym c.reduce_modulo.ensures)
    (reduced_residues c.args.kept.now c.args.row.now c.args.column))
