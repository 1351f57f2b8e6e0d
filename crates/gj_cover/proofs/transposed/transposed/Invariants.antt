use Rattle.std.proofs.Common.{◌≡◌, ℕ, ◌<◌, ◌&&◌, ltb, length}
use Rattle.gj_cover.specs.SetRows.{in_row}
use Rattle.gj_cover.proofs.transposed.transposed.Given as goal

abbrev pub invariant-loop-a : goal.invariant-loop-a
invariant-loop-a l = (length l.columns.items ≡ length l.rows)
    × ((b i : ℕ) → b < length l.rows →
    in_row l.columns.items b i ≡ (ltb i l.a && in_row l.rows i b))
