-- The limits and values of a minimal function are from 0 to 1, also on finer grids.
use Rattle.std.proofs.Common.{◌≡◌, ℕ, zero, suc, ◌+◌, ◌-◌, ◌*◌, ◌/◌, ◌%◌, ◌<◌, ◌≤◌, ℤ, pos, ◌+ℤ◌, ◌*ℤ◌, ◌≤ℤ◌, List, unsigned_abs, sym, ap, subst, ◌∙◌, arith}
use Rattle.std.proofs.Math.Nat.{add-mul-mod_self_left, mod-lt, mul-le-mul_left}
use Rattle.std.proofs.lemmas.Int.{ints}
use Rattle.gj_lemmas.proofs.Integers.{abs_add_z}
use Rattle.gj_shape.specs.FunctionData.{FunctionData, IsWithinBounds, at}
use Rattle.gj_shape.specs.Refinement.{refined, entry_or_value}
use Rattle.gj_shape.specs.Table.{IsMinimal}
use Rattle.gj_shape.proofs.TableLemmas.{pieces_of, at_plus_order}
use Rattle.gj_theory.proofs.MinimalFromTests.{limits_symmetric}
use Rattle.gj_theory.proofs.MinimalEntries.{value_within}
use Rattle.gj_theory.proofs.TestsFromMinimal.{right_limit, left_limit, passes_each}
use Rattle.gj_perturb.proofs.SplitParts.{product_at_most}

-- from 0 to s
pub record IsUpTo (s : ℕ) (x : ℤ) : Type 0 where
  pub low : pos 0 ≤ℤ x
  pub high : x ≤ℤ pos s

pub size_of : (s : ℕ) (x : ℤ) → IsUpTo s x → unsigned_abs x ≤ s
size_of s x h = let low = h.low in let high = h.high in omega (arith, ints)

first_of : (s : ℕ) (x y : ℤ) → pos 0 ≤ℤ x → pos 0 ≤ℤ y → x +ℤ y ≡ pos s → IsUpTo s x
first_of s x y low more e = record { low = low; high = omega (arith, ints) }

second_of : (s : ℕ) (x y : ℤ) → pos 0 ≤ℤ x → pos 0 ≤ℤ y → x +ℤ y ≡ pos s → IsUpTo s y
second_of s x y low more e = record { low = more; high = omega (arith, ints) }

module _ (f : FunctionData) (bounds : IsWithinBounds f) (minimal : IsMinimal f) where
  -- limits at opposite places add up to 1
  opposite : (a b k : ℕ) → a + (b + 1) ≡ f.place + f.order * k →
      at f.right a +ℤ at f.left (b + 1) ≡ pos f.scale
  opposite a b k e =
      limits_symmetric f (pieces_of bounds) (passes_each f minimal) a b
      (ap (λ n. n % f.order) e ∙ add-mul-mod_self_left f.place f.order k)

  pub right_up_to : (i : ℕ) → IsUpTo f.scale (at f.right i)
  right_up_to i =
      let low : 1 ≤ f.place = bounds.place_low in
      let two : 2 ≤ f.order = bounds.order_low in
      let more : i * 2 ≤ i * f.order = mul-le-mul_left i two in
      let j = f.place + f.order * (i + 1) - (i + 1) in
      let e : i + (j + 1) ≡ f.place + f.order * (i + 1) = omega arith in
      first_of f.scale (at f.right i) (at f.left (j + 1)) (right_limit f minimal i)
      (left_limit f minimal j) (opposite i j (i + 1) e)

  left_behind : (i : ℕ) → IsUpTo f.scale (at f.left (i + 1))
  left_behind i =
      let low : 1 ≤ f.place = bounds.place_low in
      let two : 2 ≤ f.order = bounds.order_low in
      let more : i * 2 ≤ i * f.order = mul-le-mul_left i two in
      let j = f.place + f.order * (i + 1) - (i + 1) in
      let e : j + (i + 1) ≡ f.place + f.order * (i + 1) = omega arith in
      second_of f.scale (at f.right j) (at f.left (i + 1)) (right_limit f minimal j)
      (left_limit f minimal i) (opposite j i (i + 1) e)

  pub left_up_to : (i : ℕ) → IsUpTo f.scale (at f.left i)
  left_up_to i =
      let two : 2 ≤ f.order = bounds.order_low in
      let turn : i + f.order ≡ i + f.order - 1 + 1 = omega arith in
      subst (IsUpTo f.scale)
      (ap (at f.left) (sym turn) ∙ at_plus_order f.left i f.order bounds.left_length)
      (left_behind (i + f.order - 1))

  pub value_up_to : (i : ℕ) → IsUpTo f.scale (at f.value i)
  value_up_to i =
      let both = value_within f i bounds minimal in record { low = both.0; high = both.1 }

  -- the same on a finer grid, of a list of limits or values
  entry_small : (xs : List ℤ) (m a r : ℕ) → unsigned_abs (at xs a) ≤ f.scale → r < m →
      unsigned_abs (entry_or_value f xs m a r) ≤ m * f.scale
  entry_small xs m a zero small below =
      product_at_most m f.scale (pos m) (at xs a) (omega arith) small
  entry_small xs m a (suc r) small below =
      let right = size_of f.scale (at f.right a) (right_up_to a) in
      let left = size_of f.scale (at f.left (a + 1)) (left_up_to (a + 1)) in
      let first = product_at_most (m - suc r) f.scale (pos (m - suc r)) (at f.right a)
      (omega arith) right in
      let second = product_at_most (suc r) f.scale (pos (suc r)) (at f.left (a + 1))
      (omega arith) left in
      let both = abs_add_z (pos (m - suc r) *ℤ at f.right a) (pos (suc r) *ℤ at f.left (a + 1)) in
      let whole : (m - suc r) * f.scale + suc r * f.scale ≡ m * f.scale =
      let parts : m ≡ m - suc r + suc r = omega arith in
      omega (arith, ap (λ n. n * f.scale) parts) in
      omega arith

  pub refined_small : (xs : List ℤ) → ((i : ℕ) → IsUpTo f.scale (at xs i)) → (m i : ℕ) → 0 < m →
      unsigned_abs (refined f xs m i) ≤ f.scale * m
  refined_small xs up_to m i some =
      let here = entry_small xs m (i / m) (i % m) (size_of f.scale (at xs (i / m)) (up_to (i / m)))
      (mod-lt i some) in
      omega arith
