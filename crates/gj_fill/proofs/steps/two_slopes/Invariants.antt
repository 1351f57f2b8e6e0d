use Rattle.std.proofs.Common.{◌≡◌, ◌⊎◌, ℕ, ◌<◌, neg_ℤ}
use Rattle.gj_shape.specs.TwoSlopes.{rise}
use Rattle.gj_fill.proofs.steps.two_slopes.Given as goal

abbrev pub invariant-loop-a : goal.invariant-loop-a
invariant-loop-a l = (b : ℕ) → b < l.a → (rise l.shape b ≡ l.steps.rise)
    ⊎ (rise l.shape b ≡ neg_ℤ l.steps.fall)
