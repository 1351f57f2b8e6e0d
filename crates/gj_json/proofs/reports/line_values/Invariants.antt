use Rattle.gj_json.proofs.ProofLines.{LinesSoFar}
use Rattle.gj_json.proofs.reports.line_values.Given as goal

abbrev pub invariant-loop-byte : goal.invariant-loop-byte
invariant-loop-byte l = LinesSoFar l.text l.byte-index l.values.items l.line.items
