use Rattle.gj_forms.proofs.LineLaws.{line_is_read}
use Rattle.gj_proof.specs.ProofGrammar.{cover_form}
use Rattle.gj_proof.proofs.ClearLines.{cover_is_clear}
use Rattle.gj_proof.proofs.cover_lines.cover_line_at.Goals as goal

pub returns-in-Some : goal.returns-in-Some
returns-in-Some c =
    let printed = c.in-Some.ensures in
    let q = c.args.order in
    rw printed.0 (line_is_read (cover_form q) (cover_is_clear q c.requires) c.in-Some.line _
    printed.1)
