-- The limits and values of a minimal function, over whatever scale, are from 0 to 1.
use Rattle.std.proofs.Common.{◌≡◌, ℕ, ◌+◌, ◌-◌, ◌*◌, ◌%◌, ◌≤◌, ℤ, pos, ◌+ℤ◌, ◌≤ℤ◌, ap, subst, sym, ◌∙◌, arith}
use Rattle.std.proofs.Math.Nat.{add-mul-mod_self_left, mul-le-mul_left}
use Rattle.std.proofs.lemmas.Int.{ints}
use Rattle.gj_shape.specs.FunctionData.{FunctionData, IsPiecewise, at}
use Rattle.gj_shape.specs.Table.{table, IsMinimal}
use Rattle.gj_shape.proofs.TableLemmas.{at_plus_order, table_of_order}
use Rattle.gj_theory.proofs.MinimalFromTests.{limits_symmetric}
use Rattle.gj_theory.proofs.SlacksAndSizes.{at_most_scale}
use Rattle.gj_theory.proofs.TestsFromMinimal.{right_limit, left_limit, passes_each}

-- from 0 to s
pub record IsWithin (s : ℕ) (x : ℤ) : Type 0 where
  pub low : pos 0 ≤ℤ x
  pub high : x ≤ℤ pos s

first_within : (s : ℕ) (x y : ℤ) → pos 0 ≤ℤ x → pos 0 ≤ℤ y → x +ℤ y ≡ pos s → IsWithin s x
first_within s x y low more e = record { low = low; high = omega (arith, ints) }

second_within : (s : ℕ) (x y : ℤ) → pos 0 ≤ℤ x → pos 0 ≤ℤ y → x +ℤ y ≡ pos s → IsWithin s y
second_within s x y low more e = record { low = more; high = omega (arith, ints) }

module _ (g : FunctionData) (l : IsPiecewise g) (minimal : IsMinimal g) where
  -- limits at opposite places add up to 1
  opposite : (a b k : ℕ) → a + (b + 1) ≡ g.place + g.order * k →
      at g.right a +ℤ at g.left (b + 1) ≡ pos g.scale
  opposite a b k e =
      limits_symmetric g l (passes_each g minimal) a b
      (ap (λ n. n % g.order) e ∙ add-mul-mod_self_left g.place g.order k)

  -- the place opposite to i + 1 or to i
  other : (i : ℕ) → (j : ℕ) × (i + (j + 1) ≡ g.place + g.order * (i + 1))
  other i =
      let low : 1 ≤ g.place = l.place_low in
      let two : 2 ≤ g.order = l.order_low in
      let more : i * 2 ≤ i * g.order = mul-le-mul_left i two in
      (g.place + g.order * (i + 1) - (i + 1), omega arith)

  pub right_within : (i : ℕ) → IsWithin g.scale (at g.right i)
  right_within i =
      let j = other i in
      first_within g.scale (at g.right i) (at g.left (j.0 + 1)) (right_limit g minimal i)
      (left_limit g minimal j.0)
      (opposite i j.0 (i + 1) j.1)

  left_behind : (i : ℕ) → IsWithin g.scale (at g.left (i + 1))
  left_behind i =
      let j = other i in
      let e : j.0 + (i + 1) ≡ g.place + g.order * (i + 1) = (let sum = j.1 in omega arith) in
      second_within g.scale (at g.right j.0) (at g.left (i + 1)) (right_limit g minimal j.0)
      (left_limit g minimal i)
      (opposite j.0 i (i + 1) e)

  pub left_within : (i : ℕ) → IsWithin g.scale (at g.left i)
  left_within i =
      let two : 2 ≤ g.order = l.order_low in
      let turn : i + g.order ≡ i + g.order - 1 + 1 = omega arith in
      subst (IsWithin g.scale)
      (ap (at g.left) (sym turn) ∙ at_plus_order g.left i g.order l.left_length)
      (left_behind (i + g.order - 1))

  pub value_within : (i : ℕ) → IsWithin g.scale (at g.value i)
  value_within i =
      let two : 2 ≤ g.order = l.order_low in
      let is = minimal 1 (omega arith) in
      let value_is : table g 1 i ≡ at g.value i = table_of_order g i in
      let low = is.nonnegative i in
      let high = at_most_scale (table g 1) (g.order * 1) (g.place * 1) (g.scale * 1) i
      (omega arith) is in
      record { low = subst (λ (z : ℤ). pos 0 ≤ℤ z) value_is low; high = omega (arith, ints) }
