use Rattle.gj_top.proofs.OneReport.{one_report, one_claim_reported}
use Rattle.gj_top.proofs.laws.one_proof_in_a_report.Goals as goal

pub returns-clause-text : goal.returns-clause-text
returns-clause-text c = one_report

pub returns-clause-claim : goal.returns-clause-claim
returns-clause-claim c = one_claim_reported
