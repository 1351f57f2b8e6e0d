use Rattle.std.proofs.Common.{ℕ, ◌<◌}
use Rattle.gj_limit_check_halves.specs.Half.{data_of}
use Rattle.gj_limit_check_halves.specs.RowTests.{PassesCorner}
use Rattle.gj_limit_check_halves.proofs.rows.passes_kind.Given as goal

abbrev pub invariant-loop-corner : goal.invariant-loop-corner
invariant-loop-corner l = (c : ℕ) → c < l.corner → PassesCorner (data_of l.half) l.kind l.a c
