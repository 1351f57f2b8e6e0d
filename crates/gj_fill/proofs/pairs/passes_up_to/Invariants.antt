use Rattle.std.proofs.Common.{ℕ, ◌+◌, ◌<◌, ◌≤◌, ◌+ℤ◌, ◌<ℤ◌, IsTrue}
use Rattle.gj_shape.specs.FunctionData.{at}
use Rattle.gj_fill.proofs.pairs.passes_up_to.Given as goal

abbrev pub invariant-loop-b : goal.invariant-loop-b
invariant-loop-b l = IsTrue l.passes → (b : ℕ) → l.a ≤ b → b < l.b →
    (at l.values l.a +ℤ at l.values b) <ℤ at l.values (l.a + b) → ⊥
