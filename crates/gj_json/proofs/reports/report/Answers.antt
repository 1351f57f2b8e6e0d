use Rattle.gj_json.proofs.ProofLines.{report_has_no_float}
use Rattle.gj_json.proofs.reports.report.Goals as goal

pub line_of-requires : goal.line_of-requires
line_of-requires c =
    rw (c.in_ok-value.ensures, c.in_ok-lines.ensures.2, c.in_ok-verdict.ensures)
    (report_has_no_float c.in_ok-lines.ensures.0 c.args.verdict.now)
