use Rattle.std.proofs.Common.{◌≡◌, ℕ, ◌<◌, ◌≤◌, ◌-◌, ◌&&◌, ◌||◌, eqb, length}
use Rattle.gj_loops.specs.IndexSets.{has}
use Rattle.gj_cover.specs.SetRows.{in_row}
use Rattle.gj_cover.proofs.transposed.add_to_columns.Given as goal

abbrev pub invariant-columns : goal.invariant-columns
invariant-columns l =
    (length l.columns.items ≡ length l.fn.columns.items)
    × ((b i : ℕ) → b < length l.fn.columns.items → b < l.from →
    in_row l.columns.items b i ≡ (in_row l.fn.columns.items b i || (eqb i l.a && has l.row b)))
    × ((b i : ℕ) → b < length l.fn.columns.items → l.from ≤ b →
    in_row l.columns.items b i ≡ in_row l.fn.columns.items b i)

abbrev pub decreases-columns : goal.decreases-columns
decreases-columns l = 1024 - l.from
