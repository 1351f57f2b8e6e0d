use Rattle.std.proofs.Common.{◌≡◌, ℕ, false, ◌<◌, ◌↔◌, IsTrue, length}
use Rattle.gj_shape.specs.Additive.{IsTight}
use Rattle.gj_cover.specs.SetRows.{in_row}
use Rattle.gj_cover.proofs.pairs.copied_rows.Given as goal

abbrev pub invariant-loop-a : goal.invariant-loop-a
invariant-loop-a l = (length l.rows.items ≡ l.a)
    × ((a b : ℕ) → a < l.a → b < l.shape.order → IsTrue (in_row l.rows.items a b)
    ↔ IsTight l.shape a b)
    × ((a : ℕ) → a < l.a → in_row l.rows.items a l.shape.order ≡ in_row l.rows.items a 0)
    × ((a b : ℕ) → a < l.a → l.shape.order < b → in_row l.rows.items a b ≡ false)
