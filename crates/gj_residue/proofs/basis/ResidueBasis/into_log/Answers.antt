use Rattle.std.proofs.Common.{ap, ◌∙◌, map}
use Rattle.gj_elim.specs.KeptRows.{log_row}
use Rattle.gj_residue.proofs.Inserting.{log_of_residues}
use Rattle.gj_residue.proofs.basis.ResidueBasis.into_log.Goals as goal

pub returns : goal.returns
returns c =
    log_of_residues c.self.inside.columns c.self.inside.kept c.self.invariant.kept
    ∙ ap (λ b. map log_row b.kept) c.self.view_is
