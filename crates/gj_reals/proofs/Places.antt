-- Indices of whole numbers modulo the order.
use Rattle.std.proofs.Common.{◌≡◌, ℕ, zero, suc, ◌+◌, ◌-◌, ◌*◌, ◌/◌, ◌%◌, ◌<◌, ℤ, pos, negsuc, ◌+ℤ◌, List, length, sym, ap, ◌∙◌, arith}
use Rattle.std.proofs.Math.Nat.{div-add-mod', mod-lt}
use Rattle.std.proofs.lemmas.Int.{ints}
use Rattle.gj_shape.specs.FunctionData.{at}
use Rattle.gj_theory.proofs.Everywhere.{at_same}
use Rattle.gj_reals.specs.RealFunctions.{index_of}

-- z and a have one remainder: z + n q is a + m q
pub record IsIndex (q : ℕ) (z : ℤ) (a : ℕ) : Type 0 where
  pub n : ℕ
  pub m : ℕ
  pub is : z +ℤ pos (n * q) ≡ pos (a + m * q)

pub index_is : (z : ℤ) (q : ℕ) → 0 < q → IsIndex q z (index_of z q)
index_is (pos a) q some =
    let parts = div-add-mod' a q in
    let whole : a + 0 * q ≡ a % q + a / q * q = omega (arith, parts) in
    record { n = 0; m = a / q; is = ap pos whole }
index_is (negsuc a) q some =
    let parts = div-add-mod' a q in
    let low : a % q < q = mod-lt a some in
    let whole : (a / q + 1) * q ≡ q - 1 - a % q + 0 * q + (a + 1) = omega (arith, parts) in
    record { n = a / q + 1; m = 0; is = omega (arith, ints) }

pub index_low : (z : ℤ) (q : ℕ) → 0 < q → index_of z q < q
index_low (pos a) q some = mod-lt a some
index_low (negsuc a) q some = omega arith

pub index_plus : (q : ℕ) (y z : ℤ) (a b : ℕ) → IsIndex q y a → IsIndex q z b →
    IsIndex q (y +ℤ z) (a + b)
index_plus q y z a b h k =
    let left : (h.n + k.n) * q ≡ h.n * q + k.n * q = omega arith in
    let right : a + b + (h.m + k.m) * q ≡ a + h.m * q + (b + k.m * q) = omega arith in
    let h_is = h.is in
    let k_is = k.is in
    record { n = h.n + k.n; m = h.m + k.m; is = omega (arith, ints) }

pub index_whole : (q a : ℕ) → IsIndex q (pos a) a
index_whole q a = record { n = 0; m = 0; is = omega (arith, ints) }

remainder_plus : (q a m : ℕ) → (a + m * q) % q ≡ a % q
remainder_plus q a zero = ap (λ n. n % q) (omega arith)
remainder_plus q a (suc m) =
    let turned : a + suc m * q ≡ a + m * q + q = omega arith in
    ap (λ n. n % q) turned ∙ Rattle.std.proofs.Math.Nat.add-mod_right (a + m * q) q
    ∙ remainder_plus q a m

-- two indices of one number are one modulo the order
pub same_remainder : (q : ℕ) (z : ℤ) (a b : ℕ) → IsIndex q z a → IsIndex q z b → a % q ≡ b % q
same_remainder q z a b h k =
    let h_is = h.is in
    let k_is = k.is in
    let equal : a + h.m * q + k.n * q ≡ b + k.m * q + h.n * q = omega (arith, ints) in
    let whole : a + (h.m + k.n) * q ≡ b + (k.m + h.n) * q = omega (arith, equal) in
    sym (remainder_plus q a (h.m + k.n)) ∙ ap (λ n. n % q) whole ∙ remainder_plus q b (k.m + h.n)

pub at_index : (xs : List ℤ) (q : ℕ) (z : ℤ) (a b : ℕ) → length xs ≡ q → IsIndex q z a →
    IsIndex q z b → at xs a ≡ at xs b
at_index xs q z a b len h k = at_same xs a b q len (same_remainder q z a b h k)
