-- Indices that are read modulo the order.
use Rattle.std.proofs.Common.{◌≡◌, ℕ, ◌+◌, ◌%◌, ◌+ℤ◌, ap, ap₂, sym, ◌∙◌}
use Rattle.std.proofs.Math.Nat.{add-mod}
use Rattle.gj_shape.specs.Additive.{IsTight}
use Rattle.gj_shape.specs.FunctionData.{FunctionData, IsWithinBounds, at}
use Rattle.gj_shape.proofs.AtLemmas.{at_same_remainder}
use Rattle.gj_faces.proofs.RunSteps.{IsPeriodic}

-- sums of indices with equal remainders have equal remainders
pub same_sum : (q i j k l : ℕ) → i % q ≡ k % q → j % q ≡ l % q → (i + j) % q ≡ (k + l) % q
same_sum q i j k l first second =
    add-mod i j q ∙ ap₂ (λ (x y : ℕ). (x + y) % q) first second ∙ sym (add-mod k l q)

same_value : (f : FunctionData) (i j : ℕ) → IsWithinBounds f → i % f.order ≡ j % f.order →
    at f.value i ≡ at f.value j
same_value f i j h e =
    at_same_remainder f.value i j
    (ap (λ n. i % n) h.value_length ∙ e ∙ sym (ap (λ n. j % n) h.value_length))

-- whether a pair is tight goes by the remainders
pub tight_is_periodic : (f : FunctionData) → IsWithinBounds f → IsPeriodic f.order (IsTight f)
tight_is_periodic f h i j k l first second tight =
    ap₂ (λ x y. x +ℤ y) (sym (same_value f i k h first)) (sym (same_value f j l h second))
    ∙ tight ∙ same_value f (i + j) (k + l) h (same_sum f.order i j k l first second)
