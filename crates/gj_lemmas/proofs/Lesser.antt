-- The lesser of two whole numbers.
use Rattle.std.proofs.Common.{◌≡◌, ℤ, ◌≤ℤ◌, arith}
use Rattle.std.specs.Int.{int_min}
use Rattle.std.proofs.lemmas.Int.{ints, int_min_is}

pub min_below : (x y : ℤ) → (int_min x y ≤ℤ x) × (int_min x y ≤ℤ y)
min_below x y = let e = int_min_is x y in (omega (arith, ints), omega (arith, ints))

pub min_first : (x y : ℤ) → x ≤ℤ y → int_min x y ≡ x
min_first x y h = let e = int_min_is x y in omega (arith, ints)

pub min_second : (x y : ℤ) → y ≤ℤ x → int_min x y ≡ y
min_second x y h = let e = int_min_is x y in omega (arith, ints)
