-- Numbers that were read, and what tests on them say.
use Rattle.std.proofs.Common.{◌≡◌, ◌↔◌, ℕ, ◌+◌, ◌%◌, ◌<◌, ◌^◌, ℤ, pos, ◌+ℤ◌, Bool, IsTrue, to_z, of_z, w64, ap, ◌∙◌, arith}
use mir.Syntax.{w128}
use Rattle.std.proofs.lemmas.Int.{ints}
use Rattle.std.proofs.Math.Nat.{mod-add-mod}
use Rattle.gj_shape.specs.Limits.{IsNumerator}
use Rattle.gj_shape.proofs.NumeratorReadings.{small_read}

-- the scale, as the code has it
pub scale_read : (z : ℤ) (s : ℕ) → z ≡ pos s → s < 2 ^ 31 →
    to_z w64 (of_z w64 (to_z w128 (of_z w128 z))) ≡ pos s
scale_read z s e below = omega (arith, ints)

-- a test of a sum
pub sum_read : (b : Bool) (x y total t : ℤ) → IsNumerator x → IsNumerator y → total ≡ t →
    IsTrue b ↔ (to_z w64 (of_z w64 x) +ℤ to_z w64 (of_z w64 y) ≡ total) → IsTrue b ↔ (x +ℤ y ≡ t)
sum_read b x y total t x_small y_small total_is h =
    rw (small_read x x_small, small_read y y_small, total_is) at h

-- the index after one that was reduced
pub next_index : (i k n j : ℕ) → k ≡ i % n → j ≡ (k + 1) % n → j ≡ (i + 1) % n
next_index i k n j k_is j_is = j_is ∙ ap (λ r. (r + 1) % n) k_is ∙ mod-add-mod i n 1
