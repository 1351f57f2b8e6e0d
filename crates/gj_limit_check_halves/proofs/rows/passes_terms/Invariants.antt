use Rattle.std.proofs.Common.{ℕ, pos, ◌≤◌, ◌<◌, ◌≤ℤ◌}
use Rattle.gj_limit_faces.specs.Terms.{limit_by}
use Rattle.gj_limit_check_halves.specs.Half.{data_of}
use Rattle.gj_limit_check_halves.proofs.rows.passes_terms.Given as goal

abbrev pub invariant-loop-b : goal.invariant-loop-b
invariant-loop-b l = (b : ℕ) → b < l.b → l.a ≤ b → pos 0 ≤ℤ limit_by (data_of l.half) l.terms l.a b
