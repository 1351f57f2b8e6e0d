use Rattle.std.proofs.Common.{ap, ◌∙◌, map}
use Rattle.gj_elim.specs.KeptRows.{log_row}
use Rattle.gj_elim.proofs.Keeping.{log_of_kept}
use Rattle.gj_elim.proofs.basis.Basis.into_log.Goals as goal

pub returns : goal.returns
returns c =
    log_of_kept c.self.inside.kept.log.items c.self.inside.kept.rows.items
    c.self.invariant.kept.lines
    ∙ ap (λ b. map log_row b.kept) c.self.view_is
