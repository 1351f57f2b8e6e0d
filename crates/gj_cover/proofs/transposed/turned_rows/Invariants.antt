use Rattle.std.proofs.Common.{◌≡◌, ℕ, ◌<◌, length}
use Rattle.gj_cover.specs.SetRows.{in_row}
use Rattle.gj_cover.proofs.Turns.{place_of}
use Rattle.gj_cover.proofs.transposed.turned_rows.Given as goal

abbrev pub invariant-loop-a : goal.invariant-loop-a
invariant-loop-a l = (length l.turned.items ≡ l.a)
    × ((a s : ℕ) → a < l.a → s < length l.rows →
    in_row l.turned.items a s ≡ in_row l.rows a (place_of (length l.rows) a s))
