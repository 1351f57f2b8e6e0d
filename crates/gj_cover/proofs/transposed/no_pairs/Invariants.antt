use Rattle.std.proofs.Common.{◌≡◌, ℕ, length, false}
use Rattle.gj_cover.specs.SetRows.{in_row}
use Rattle.gj_cover.proofs.transposed.no_pairs.Given as goal

abbrev pub invariant-loop-a : goal.invariant-loop-a
invariant-loop-a l = (length l.rows.items ≡ l.a) × ((a b : ℕ) → in_row l.rows.items a b ≡ false)
