-- What tests on numerators of the code say of them.
use Rattle.std.proofs.Common.{◌≡◌, ℤ, pos, ◌+ℤ◌, IsTrue, ◌↔◌, eqb, eqb-true, eq-eqb, ◌*ℤ◌, ap, sym, ◌∙◌, to_z, of_z, FitsSigned, w64, arith}
use Rattle.std.proofs.lemmas.Int.{ints, to_z-of_z}
use Rattle.gj_shape.specs.Limits.{IsNumerator}
use Rattle.gj_shape.proofs.NumeratorReadings.{small_read}

-- the sum of two numbers of 51 bits, as the code has it
pub sum_read : (x y : ℤ) → IsNumerator x → IsNumerator y →
    to_z w64 (of_z w64 (to_z w64 (of_z w64 x) +ℤ to_z w64 (of_z w64 y))) ≡ x +ℤ y
sum_read x y h k =
    let first = small_read x h in
    let second = small_read y k in
    rw (first, second) (to_z-of_z w64 (x +ℤ y) (omega (arith, ints)))

-- a sum that is found to be a number
pub same_read : (x y s : ℤ) → IsNumerator x → IsNumerator y → FitsSigned w64 s →
    of_z w64 (to_z w64 (of_z w64 x) +ℤ to_z w64 (of_z w64 y)) ≡ of_z w64 s → x +ℤ y ≡ s
same_read x y s h k fits e = sym (sum_read x y h k) ∙ ap (to_z w64) e ∙ to_z-of_z w64 s fits

-- ---- tests of equality

-- whether a number of 64 bits is another
pub same_bits : (x s : ℤ) → FitsSigned w64 x → FitsSigned w64 s →
    IsTrue (eqb (of_z w64 x) (of_z w64 s)) ↔ (x ≡ s)
same_bits x s fits s_fits = (
  λ e. sym (to_z-of_z w64 x fits) ∙ ap (to_z w64) (eqb-true (of_z w64 x) (of_z w64 s) e)
      ∙ to_z-of_z w64 s s_fits,
  λ e. eq-eqb (of_z w64 x) (of_z w64 s) (ap (of_z w64) e),
)

-- whether the sum of two numbers is a third
pub sum_bits : (x y s : ℤ) → IsNumerator x → IsNumerator y → FitsSigned w64 s →
    IsTrue (eqb (of_z w64 (to_z w64 (of_z w64 x) +ℤ to_z w64 (of_z w64 y))) (of_z w64 s))
    ↔ (x +ℤ y ≡ s)
sum_bits x y s h k fits =
    let first = small_read x h in
    let second = small_read y k in
    rw (first, second) (same_bits (x +ℤ y) s (omega (arith, ints)) fits)

-- whether the sum of four is twice a fifth
pub double_bits : (x y u v s : ℤ) → IsNumerator x → IsNumerator y → IsNumerator u →
    IsNumerator v → IsNumerator s →
    IsTrue (eqb (of_z w64 (to_z w64 (of_z w64 (to_z w64 (of_z w64 x) +ℤ to_z w64 (of_z w64 y)))
    +ℤ to_z w64 (of_z w64 (to_z w64 (of_z w64 u) +ℤ to_z w64 (of_z w64 v)))))
    (of_z w64 (pos 2 *ℤ to_z w64 (of_z w64 s))))
    ↔ (x +ℤ y +ℤ (u +ℤ v) ≡ pos 2 *ℤ s)
double_bits x y u v s hx hy hu hv hs =
    let first = sum_read x y hx hy in
    let second = sum_read u v hu hv in
    let third = small_read s hs in
    rw (first, second, third)
    (same_bits (x +ℤ y +ℤ (u +ℤ v)) (pos 2 *ℤ s) (omega (arith, ints)) (omega (arith, ints)))
