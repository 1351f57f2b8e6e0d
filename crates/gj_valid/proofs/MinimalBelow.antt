-- Each valid table has a minimal one below it: its entries are lowered, one place after the other.
use Rattle.std.proofs.Common.{◌≡◌, ℕ, zero, suc, ◌+◌, ◌*◌, ◌/◌, ◌%◌, ◌<◌, ◌≤◌, ◌⊎◌, inl, inr, ⊎_elim, List, [], ◌∷◌, ℤ, pos, ◌+ℤ◌, ◌*ℤ◌, ◌≤ℤ◌, ◌<ℤ◌, unsigned_abs, refl, sym, subst, ap, ◌∙◌, arith}
use Rattle.std.specs.Prelude.{sum}
use Rattle.std.proofs.Math.Nat.{div-add-mod', mod-lt, mod-mod, mul-le-mul_right, mul-pos, one-mul}
use Rattle.std.proofs.lemmas.Bool.{cases_lt}
use Rattle.std.proofs.lemmas.Int.{ints, by_lt_z}
use Rattle.gj_lemmas.proofs.Integers.{mul_add_z, mul_assoc_z, mul_left_comm_z, mul_le_mul_left_z, mul_le_cancel_right_z, mul_lt_cancel_left_z, mul_nonnegative_z, pos_abs_z, same_or_apart_z}
use Rattle.gj_lemmas.proofs.Quotients.{same_remainder, same_at_remainder}
use Rattle.gj_shape.specs.Table.{IsMinimalTable}
use Rattle.gj_shape.specs.Valid.{weight, IsValidTable}
use Rattle.gj_theory.proofs.ValidTables.{dented, dented_tells, dented_here, dented_period, dented_le, Lighter, lighter, all_or_some, opposite_of, opposite_is, only_minimal}
use Rattle.gj_theory.proofs.Weights.{sum_cons, same_sums, cancel_same, with_copies}

-- ---- places below n

-- the sum of the entries below n
abbrev total_below : (ℕ → ℤ) → ℕ → ℤ
total_below t zero = pos 0
total_below t (suc n) = t n +ℤ total_below t n

total_le : (t u : ℕ → ℤ) (n : ℕ) → ((i : ℕ) → u i ≤ℤ t i) → total_below u n ≤ℤ total_below t n
total_le t u zero h = omega (arith, ints)
total_le t u (suc n) h =
    let here = h n in
    let rest = total_le t u n h in
    omega (arith, ints)

total_lt : (t u : ℕ → ℤ) (n a : ℕ) → ((i : ℕ) → u i ≤ℤ t i) → a < n → u a <ℤ t a →
    total_below u n <ℤ total_below t n
total_lt t u zero a h small below = absurd (omega arith)
total_lt t u (suc n) a h small below =
    ⊎_elim
    (λ less.
    let here = h n in
    let rest = total_lt t u n a h less below in
    omega (arith, ints))
    (λ last.
    let here : u n <ℤ t n = subst (λ (i : ℕ). u i <ℤ t i) (omega arith) below in
    let rest = total_le t u n h in
    omega (arith, ints))
    (cases_lt a n)

total_nonnegative : (t : ℕ → ℤ) (n : ℕ) → ((i : ℕ) → pos 0 ≤ℤ t i) → pos 0 ≤ℤ total_below t n
total_nonnegative t zero h = omega (arith, ints)
total_nonnegative t (suc n) h =
    let here = h n in
    let rest = total_nonnegative t n h in
    omega (arith, ints)

-- ---- a subadditive table below

-- subadditive, with 0 at 0
record IsSubadditive (t : ℕ → ℤ) : Type 0 where
  none : t 0 ≡ pos 0
  step : (i j : ℕ) → t (i + j) ≤ℤ (t i +ℤ t j)

subadditive_or_lighter : (t : ℕ → ℤ) (n k s : ℕ) → 0 < n → IsValidTable t n k s →
    IsSubadditive t ⊎ Lighter t n k s
subadditive_or_lighter t n k s some valid =
    ⊎_elim
    (λ none. ⊎_elim
    (λ all. inl (record {
      none = none;
      step = λ i j.
          let here = all (i % n) (mod-lt i some) (j % n) (mod-lt j some) in
          let first = same_at_remainder t n valid.has_period (i % n) i (mod-mod i n) in
          let second = same_at_remainder t n valid.has_period (j % n) j (mod-mod j n) in
          let both = same_at_remainder t n valid.has_period (i % n + j % n) (i + j)
          (same_sums (i % n) i (j % n) j n (mod-mod i n) (mod-mod j n)) in
          omega (arith, ints);
    }))
    (λ found. let (i, small, l) = found in inr l)
    (all_or_some (λ i. (j : ℕ) → j < n → t (i + j) ≤ℤ (t i +ℤ t j)) (λ i. Lighter t n k s)
    (λ i. ⊎_elim (λ all. inl all)
    (λ found.
    let (j, small, l) = found in
    inr (lighter t n k s (i + j) (i ∷ j ∷ []) valid
    (ap (λ l. l % n) (sum_cons i (j ∷ []) ∙ ap (λ l. i + l) (sum_cons j []) ∙ omega arith))
    (omega (arith, ints))))
    (all_or_some (λ j. t (i + j) ≤ℤ (t i +ℤ t j)) (λ j. (t i +ℤ t j) <ℤ t (i + j))
    (λ j. by_lt_z (t i +ℤ t j) (t (i + j)) (λ l. inr l) (λ l. inl l)) n)) n))
    (λ differs.
    let low = valid.nonnegative 0 in
    inr (lighter t n k s 0 [] valid refl
    (by_lt_z (pos 0) (t 0) (λ l. l) (λ l. absurd (differs (omega (arith, ints)))))))
    (same_or_apart_z (t 0) (pos 0))

-- a subadditive valid table that is nowhere above t
record SubadditiveBelow (t : ℕ → ℤ) (n k s : ℕ) : Type 0 where
  u : ℕ → ℤ
  valid : IsValidTable u n k s
  subadditive : IsSubadditive u
  at_most : (i : ℕ) → u i ≤ℤ t i

subadditive_below : (fuel : ℕ) (t : ℕ → ℤ) (n k s : ℕ) → 0 < n → IsValidTable t n k s →
    total_below t n <ℤ pos fuel →
    SubadditiveBelow t n k s
subadditive_below zero t n k s some valid fits =
    absurd (let low = total_nonnegative t n valid.nonnegative in omega (arith, ints))
subadditive_below (suc fuel) t n k s some valid fits =
    ⊎_elim
    (λ h. record {
      u = t;
      valid = valid;
      subadditive = h;
      at_most = λ i. omega (arith, ints);
    })
    (λ l.
    let a = l.place % n in
    let first = same_at_remainder t n valid.has_period a l.place (mod-mod l.place n) in
    let second = same_at_remainder l.u n l.valid.has_period a l.place (mod-mod l.place n) in
    let below = l.below in
    let less = total_lt t l.u n a l.at_most (mod-lt l.place some) (omega (arith, ints)) in
    let r = subadditive_below fuel l.u n k s some l.valid (omega (arith, ints)) in
    record {
      u = r.u;
      valid = r.valid;
      subadditive = r.subadditive;
      at_most = λ i.
          let one = r.at_most i in
          let two = l.at_most i in
          omega (arith, ints);
    })
    (subadditive_or_lighter t n k s some valid)

-- ---- places opposite to others

-- m uses of a and one of y
copies_weigh : (t : ℕ → ℤ) (n k s a m y : ℕ) → IsValidTable t n k s → (a * m + y) % n ≡ k % n →
    pos s ≤ℤ (pos m *ℤ t a +ℤ t y)
copies_weigh t n k s a m y valid place =
    let (places, sum_is, weight_is) =
    with_copies t a m y (t y +ℤ pos 0) (y ∷ [], sum_cons y [] ∙ omega arith, refl) in
    let least = valid.at_solutions places (ap (λ i. i % n) sum_is ∙ place) in
    omega (arith, ints)

-- m uses of a weigh the same as those by the rest of m
fewer_uses : (a m n : ℕ) → (a * (m % n)) % n ≡ (a * m) % n
fewer_uses a m n =
    let split : a * (m / n * n + m % n) ≡ a * m = ap (λ z. a * z) (div-add-mod' m n) in
    same_remainder (a * (m % n)) (a * m) (a * (m / n)) 0 n (omega arith)

-- ---- a lower entry at one place

-- c times the table, with v at a
abbrev lowered : (ℕ → ℤ) → ℕ → ℕ → ℕ → ℕ → ℕ → ℤ
lowered t n c a v = dented (λ i. pos c *ℤ t i) n a (pos v)

-- the uses of a in a list, and the place at which the others arrive
record Uses (t u : ℕ → ℤ) (n c a v : ℕ) (xs : List ℕ) : Type 0 where
  m : ℕ
  y : ℕ
  place : (a * m + y) % n ≡ sum xs % n
  most : (pos (m * v) +ℤ pos c *ℤ t y) ≤ℤ weight u xs

uses : (t : ℕ → ℤ) (n c a v : ℕ) (xs : List ℕ) → IsSubadditive t →
    Uses t (lowered t n c a v) n c a v xs
uses t n c a v [] below = record {
  m = 0;
  y = 0;
  place = ap (λ i. i % n) (omega arith);
  most = let e : pos c *ℤ t 0 ≡ pos c *ℤ pos 0 = ap (λ z. pos c *ℤ z) below.none in
      omega (arith, ints);
}
uses t n c a v (x ∷ xs) below =
    let r = uses t n c a v xs below in
    let most = r.most in
    ⊎_elim
    (λ at.
    let here = at.1 in
    let e : suc r.m * v ≡ v + r.m * v = omega arith in
    record {
      m = suc r.m;
      y = r.y;
      place = ap (λ i. i % n) (let e : a * suc r.m + r.y ≡ a + (a * r.m + r.y) = omega arith in e)
          ∙ same_sums a x (a * r.m + r.y) (sum xs) n (sym at.0) r.place
          ∙ ap (λ i. i % n) (sym (sum_cons x xs));
      most = omega (arith, ints);
    })
    (λ off.
    let here = off.1 in
    let step = mul_le_mul_left_z (t (r.y + x)) (t r.y +ℤ t x) (pos c) (omega (arith, ints))
    (below.step r.y x) in
    let split = mul_add_z (pos c) (t r.y) (t x) in
    record {
      m = r.m;
      y = r.y + x;
      place = ap (λ i. i % n) (let e : a * r.m + (r.y + x) ≡ x + (a * r.m + r.y) = omega arith in e)
          ∙ same_sums x x (a * r.m + r.y) (sum xs) n refl r.place
          ∙ ap (λ i. i % n) (sym (sum_cons x xs));
      most = omega (arith, ints);
    })
    (dented_tells (λ i. pos c *ℤ t i) n a (pos v) x)

-- v at a is enough for the solutions with m uses of a
abbrev IsEnough : (ℕ → ℤ) → ℕ → ℕ → ℕ → ℕ → ℕ → ℕ → ℕ → Type 0
IsEnough t n k s c a v m = pos (c * s) ≤ℤ (pos (m * v) +ℤ pos c *ℤ t (opposite_of n k (a * m)))

-- and is not
abbrev IsTooLow : (ℕ → ℤ) → ℕ → ℕ → ℕ → ℕ → ℕ → ℕ → ℕ → Type 0
IsTooLow t n k s c a v m = (pos (m * v) +ℤ pos c *ℤ t (opposite_of n k (a * m))) <ℤ pos (c * s)

-- v at a is enough for all solutions
abbrev AlwaysEnough : (ℕ → ℤ) → ℕ → ℕ → ℕ → ℕ → ℕ → ℕ → Type 0
AlwaysEnough t n k s c a v = (m : ℕ) → m < n → IsEnough t n k s c a v m

-- and is not for some
abbrev SometimesTooLow : (ℕ → ℤ) → ℕ → ℕ → ℕ → ℕ → ℕ → ℕ → Type 0
SometimesTooLow t n k s c a v = (m : ℕ) × (m < n) × IsTooLow t n k s c a v m

enough_or_too_low : (t : ℕ → ℤ) (n k s c a v : ℕ) →
    AlwaysEnough t n k s c a v ⊎ SometimesTooLow t n k s c a v
enough_or_too_low t n k s c a v =
    all_or_some (IsEnough t n k s c a v) (IsTooLow t n k s c a v)
    (λ m. by_lt_z (pos (m * v) +ℤ pos c *ℤ t (opposite_of n k (a * m))) (pos (c * s)) (λ l. inr l)
    (λ l. inl l)) n

enough_for_uses : (t : ℕ → ℤ) (n k s c a v m y : ℕ) → 0 < n → ((i : ℕ) → t (i + n) ≡ t i) →
    AlwaysEnough t n k s c a v →
    (a * m + y) % n ≡ k % n → pos (c * s) ≤ℤ (pos (m * v) +ℤ pos c *ℤ t y)
enough_for_uses t n k s c a v m y some period all place =
    let r = m % n in
    let here = all r (mod-lt m some) in
    let arrives : (a * r + opposite_of n k (a * r)) % n ≡ (a * r + y) % n =
    opposite_is n k (a * r) some ∙ sym place
    ∙ same_sums (a * m) (a * r) y y n (sym (fewer_uses a m n)) refl in
    let same : pos c *ℤ t (opposite_of n k (a * r)) ≡ pos c *ℤ t y =
    ap (λ z. pos c *ℤ z)
    (same_at_remainder t n period (opposite_of n k (a * r)) y
    (cancel_same (a * r) (opposite_of n k (a * r)) y n arrives)) in
    let split = div-add-mod' m n in
    let fewer : r ≤ m = omega arith in
    let less = mul-le-mul_right v fewer in
    omega (arith, ints)

lowered_valid : (t : ℕ → ℤ) (n k s c a v : ℕ) → 0 < n → IsValidTable t n k s → IsSubadditive t →
    AlwaysEnough t n k s c a v →
    IsValidTable (lowered t n c a v) n k (c * s)
lowered_valid t n k s c a v some valid below all = record {
  has_period = dented_period (λ i. pos c *ℤ t i) n a (pos v)
      (λ i. ap (λ z. pos c *ℤ z) (valid.has_period i));
  nonnegative = λ i.
      ⊎_elim (λ at. let here = at.1 in omega (arith, ints))
      (λ off.
      let here = off.1 in
      let least = mul_nonnegative_z (pos c) (t i) (omega (arith, ints)) (valid.nonnegative i) in
      omega (arith, ints))
      (dented_tells (λ i. pos c *ℤ t i) n a (pos v) i);
  at_solutions = λ xs solution.
      let r = uses t n c a v xs below in
      let most = r.most in
      let enough = enough_for_uses t n k s c a v r.m r.y some valid.has_period all
      (r.place ∙ solution) in
      omega (arith, ints);
}

lowered_le : (t : ℕ → ℤ) (n k s c a v : ℕ) → IsValidTable t n k s → pos v ≤ℤ (pos c *ℤ t a) →
    (i : ℕ) →
    lowered t n c a v i ≤ℤ (pos c *ℤ t i)
lowered_le t n k s c a v valid least =
    dented_le (λ i. pos c *ℤ t i) n a (pos v) (λ i. ap (λ z. pos c *ℤ z) (valid.has_period i)) least

-- c times the entry at a is enough
own_entry_enough : (t : ℕ → ℤ) (n k s c a v : ℕ) → 0 < n → IsValidTable t n k s →
    pos v ≡ pos c *ℤ t a → AlwaysEnough t n k s c a v
own_entry_enough t n k s c a v some valid same m small =
    let y = opposite_of n k (a * m) in
    let least = mul_le_mul_left_z (pos s) (pos m *ℤ t a +ℤ t y) (pos c) (omega (arith, ints))
    (copies_weigh t n k s a m y valid (opposite_is n k (a * m) some)) in
    let split = mul_add_z (pos c) (pos m *ℤ t a) (t y) in
    let swapped = mul_left_comm_z (pos c) (pos m) (t a) in
    let here : pos m *ℤ pos v ≡ pos m *ℤ (pos c *ℤ t a) = ap (λ z. pos m *ℤ z) same in
    omega (arith, ints)

-- ---- settled places

-- a solution with a that weighs no more than it must
record Tight (t : ℕ → ℤ) (n k s a : ℕ) : Type 0 where
  m : ℕ
  y : ℕ
  some : 0 < m
  place : (a * m + y) % n ≡ k % n
  most : (pos m *ℤ t a +ℤ t y) ≤ℤ pos s

-- the entry at a is 0, or a tight solution uses a: so no valid table below has a lower entry at a
abbrev IsSettled : (ℕ → ℤ) → ℕ → ℕ → ℕ → ℕ → Type 0
IsSettled t n k s a = (t a ≡ pos 0) ⊎ Tight t n k s a

settled_stays : (t u : ℕ → ℤ) (n k s c a : ℕ) → IsValidTable u n k (c * s) →
    ((i : ℕ) → u i ≤ℤ (pos c *ℤ t i)) →
    IsSettled t n k s a → IsSettled u n k (c * s) a
settled_stays t u n k s c a valid below (inl none) =
    let here = below a in
    let low = valid.nonnegative a in
    let e : pos c *ℤ t a ≡ pos c *ℤ pos 0 = ap (λ z. pos c *ℤ z) none in
    inl (omega (arith, ints))
settled_stays t u n k s c a valid below (inr r) =
    let first = mul_le_mul_left_z (u a) (pos c *ℤ t a) (pos r.m) (omega (arith, ints)) (below a) in
    let second = below r.y in
    let swapped = mul_left_comm_z (pos c) (pos r.m) (t a) in
    let whole = mul_le_mul_left_z (pos r.m *ℤ t a +ℤ t r.y) (pos s) (pos c)
    (omega (arith, ints)) r.most in
    let split = mul_add_z (pos c) (pos r.m *ℤ t a) (t r.y) in
    inr (record {
      m = r.m;
      y = r.y;
      some = r.some;
      place = r.place;
      most = omega (arith, ints);
    })

settled_is_least : (t u : ℕ → ℤ) (n k s c a : ℕ) → IsValidTable u n k (c * s) →
    ((i : ℕ) → u i ≤ℤ (pos c *ℤ t i)) →
    IsSettled t n k s a → u a ≡ pos c *ℤ t a
settled_is_least t u n k s c a valid below (inl none) =
    let here = below a in
    let low = valid.nonnegative a in
    let e : pos c *ℤ t a ≡ pos c *ℤ pos 0 = ap (λ z. pos c *ℤ z) none in
    omega (arith, ints)
settled_is_least t u n k s c a valid below (inr r) =
    let first = below a in
    let second = below r.y in
    let some = r.some in
    let swapped = mul_left_comm_z (pos c) (pos r.m) (t a) in
    let whole = mul_le_mul_left_z (pos r.m *ℤ t a +ℤ t r.y) (pos s) (pos c)
    (omega (arith, ints)) r.most in
    let split = mul_add_z (pos c) (pos r.m *ℤ t a) (t r.y) in
    let least = copies_weigh u n k (c * s) a r.m r.y valid r.place in
    let cancelled = mul_le_cancel_right_z (pos c *ℤ t a) (u a) (pos r.m) (omega (arith, ints))
    (omega (arith, ints)) in
    omega (arith, ints)

-- ---- the least entry at a place

-- the least number with the first of two properties
least : (P Q : ℕ → Type 0) → ((v : ℕ) → P v ⊎ Q v) → (top : ℕ) → P top →
    P 0 ⊎ ((v : ℕ) × (v < top) × Q v × P (suc v))
least P Q decide zero h = inl h
least P Q decide (suc top) h =
    ⊎_elim
    (λ holds. ⊎_elim (λ all. inl all) (λ found. let (v, small, fails, above) = found in
    inr (v, omega arith, fails, above))
    (least P Q decide top holds))
    (λ fails. inr (top, omega arith, fails, h))
    (decide top)

-- a number that each from 1 to n divides
abbrev HasMultiple : ℕ → Type 0
HasMultiple n = (c : ℕ) × (0 < c) × ((m : ℕ) → 0 < m → m ≤ n → (d : ℕ) × (c ≡ m * d))

multiple_of_all : (n : ℕ) → HasMultiple n
multiple_of_all zero = (1, omega arith, λ m some small. absurd (omega arith))
multiple_of_all (suc n) =
    let (c, some, divides) = multiple_of_all n in (
      c * suc n,
      mul-pos some (omega arith),
      λ m m_some small. ⊎_elim
          (λ less.
          let (d, e) = divides m m_some (omega arith) in
          (d * suc n, ap (λ z. z * suc n) e ∙ omega arith))
          (λ last.
          let same : m ≡ suc n = omega arith in
          (c, subst (λ z. c * suc n ≡ z * c) (sym same) (omega arith)))
          (cases_lt m (suc n)),
    )

-- if v is too low for a weight that m divides, the next number makes it no more than it must be
next_is_tight : (m d v s : ℕ) (x : ℤ) → 0 < m →
    (pos (m * v) +ℤ pos (m * d) *ℤ x) <ℤ pos (m * d * s) →
    (pos m *ℤ pos (suc v) +ℤ pos (m * d) *ℤ x) ≤ℤ pos (m * d * s)
next_is_tight m d v s x some low =
    let w = pos v +ℤ pos d *ℤ x in
    let split = mul_add_z (pos m) (pos v) (pos d *ℤ x) in
    let product : pos m *ℤ (pos d *ℤ x) ≡ pos (m * d) *ℤ x = sym (mul_assoc_z (pos m) (pos d) x) in
    let top : m * (d * s) ≡ m * d * s = omega arith in
    let less = mul_lt_cancel_left_z w (pos (d * s)) (pos m) (omega (arith, ints))
    (omega (arith, ints)) in
    let more = mul_le_mul_left_z (w +ℤ pos 1) (pos (d * s)) (pos m) (omega (arith, ints))
    (omega (arith, ints)) in
    let last = mul_add_z (pos m) w (pos 1) in
    let next : m * suc v ≡ m * v + m = omega arith in
    omega (arith, ints)

-- ---- one place after the other

-- a valid table over c s that is nowhere above c t, with a property
record SomeBelow (t : ℕ → ℤ) (n k s : ℕ) (Has : (ℕ → ℤ) → ℕ → Type 0) : Type 0 where
  c : ℕ
  u : ℕ → ℤ
  some : 0 < c
  valid : IsValidTable u n k (c * s)
  at_most : (i : ℕ) → u i ≤ℤ (pos c *ℤ t i)
  has : Has u (c * s)

settled_by_next : (t : ℕ → ℤ) (n k s c a v m : ℕ) → 0 < n → IsValidTable t n k s →
    pos (suc v) ≤ℤ (pos c *ℤ t a) →
    ((m : ℕ) → 0 < m → m ≤ n → (d : ℕ) × (c ≡ m * d)) → m < n → IsTooLow t n k s c a v m →
    Tight (lowered t n c a (suc v)) n k (c * s) a
settled_by_next t n k s c a v zero n_some valid least divides small low =
    let place = opposite_is n k (a * 0) n_some in
    let enough = mul_le_mul_left_z (pos s) (pos 0 *ℤ t a +ℤ t (opposite_of n k (a * 0))) (pos c)
    (omega (arith, ints))
    (copies_weigh t n k s a 0 (opposite_of n k (a * 0)) valid place) in
    let e : pos c *ℤ (pos 0 *ℤ t a +ℤ t (opposite_of n k (a * 0)))
    ≡ pos c *ℤ t (opposite_of n k (a * 0)) =
    ap (λ z. pos c *ℤ z) (omega (arith, ints)) in
    absurd (omega (arith, ints))
settled_by_next t n k s c a v (suc m) n_some valid least divides small low =
    let y = opposite_of n k (a * suc m) in
    let (d, e) = divides (suc m) (omega arith) (omega arith) in
    let tight = subst (λ (z : ℕ). (pos (suc m) *ℤ pos (suc v) +ℤ pos z *ℤ t y) ≤ℤ pos (z * s))
    (sym e)
    (next_is_tight (suc m) d v s (t y) (omega arith)
    (subst (λ (z : ℕ). (pos (suc m * v) +ℤ pos z *ℤ t y) <ℤ pos (z * s)) e low)) in
    let here : pos (suc m) *ℤ lowered t n c a (suc v) a ≡ pos (suc m) *ℤ pos (suc v) =
    ap (λ z. pos (suc m) *ℤ z) (dented_here (λ i. pos c *ℤ t i) n a (pos (suc v))) in
    let other = lowered_le t n k s c a (suc v) valid least y in
    record {
      m = suc m;
      y = y;
      some = omega arith;
      place = opposite_is n k (a * suc m) n_some;
      most = omega (arith, ints);
    }

settle_over : (t : ℕ → ℤ) (n k s c a : ℕ) → 0 < n → IsValidTable t n k s → IsSubadditive t → 0 < c →
    ((m : ℕ) → 0 < m → m ≤ n → (d : ℕ) × (c ≡ m * d)) →
    SomeBelow t n k s (λ u r. IsSettled u n k r a)
settle_over t n k s c a n_some valid below some divides =
    let low = mul_nonnegative_z (pos c) (t a) (omega (arith, ints)) (valid.nonnegative a) in
    let top = unsigned_abs (pos c *ℤ t a) in
    let top_is : pos top ≡ pos c *ℤ t a = pos_abs_z (pos c *ℤ t a) low in
    ⊎_elim
    (λ all. record {
      c = c;
      u = lowered t n c a 0;
      some = some;
      valid = lowered_valid t n k s c a 0 n_some valid below all;
      at_most = lowered_le t n k s c a 0 valid low;
      has = inl (dented_here (λ i. pos c *ℤ t i) n a (pos 0));
    })
    (λ found.
    let (v, small, fails, all) = found in
    let (m, m_small, too_low) = fails in
    let most : pos (suc v) ≤ℤ (pos c *ℤ t a) = omega (arith, ints) in
    record {
      c = c;
      u = lowered t n c a (suc v);
      some = some;
      valid = lowered_valid t n k s c a (suc v) n_some valid below all;
      at_most = lowered_le t n k s c a (suc v) valid most;
      has = inr (settled_by_next t n k s c a v m n_some valid most divides m_small too_low);
    })
    (least (AlwaysEnough t n k s c a) (SometimesTooLow t n k s c a)
    (enough_or_too_low t n k s c a) top
    (own_entry_enough t n k s c a top n_some valid top_is))

settle : (t : ℕ → ℤ) (n k s a : ℕ) → 0 < n → IsValidTable t n k s →
    SomeBelow t n k s (λ u r. IsSettled u n k r a)
settle t n k s a some valid =
    let (c, c_some, divides) = multiple_of_all n in
    let total = total_nonnegative t n valid.nonnegative in
    let b = subadditive_below (suc (unsigned_abs (total_below t n))) t n k s some valid
    (omega (arith, ints)) in
    let r = settle_over b.u n k s c a some b.valid b.subadditive c_some divides in
    record {
      c = r.c;
      u = r.u;
      some = r.some;
      valid = r.valid;
      at_most = λ i.
          let first = r.at_most i in
          let second = mul_le_mul_left_z (b.u i) (t i) (pos r.c) (omega (arith, ints))
          (b.at_most i) in
          omega (arith, ints);
      has = r.has;
    }

settle_all : (t : ℕ → ℤ) (n k s j : ℕ) → 0 < n → IsValidTable t n k s →
    SomeBelow t n k s (λ u r. (i : ℕ) → i < j → IsSettled u n k r i)
settle_all t n k s zero some valid = record {
  c = 1;
  u = t;
  some = omega arith;
  valid = subst (λ (r : ℕ). IsValidTable t n k r) (sym (one-mul s)) valid;
  at_most = λ i. omega (arith, ints);
  has = λ i small. absurd (omega arith);
}
settle_all t n k s (suc j) some valid =
    let b = settle_all t n k s j some valid in
    let r = settle b.u n k (b.c * s) j some b.valid in
    let scale : r.c * (b.c * s) ≡ r.c * b.c * s = omega arith in
    record {
      c = r.c * b.c;
      u = r.u;
      some = mul-pos r.some b.some;
      valid = subst (λ (q : ℕ). IsValidTable r.u n k q) scale r.valid;
      at_most = λ i.
          let first = r.at_most i in
          let second = mul_le_mul_left_z (b.u i) (pos b.c *ℤ t i) (pos r.c) (omega (arith, ints))
          (b.at_most i) in
          let product : pos r.c *ℤ (pos b.c *ℤ t i) ≡ pos (r.c * b.c) *ℤ t i =
          sym (mul_assoc_z (pos r.c) (pos b.c) (t i)) in
          omega (arith, ints);
      has = λ i small. subst (λ (q : ℕ). IsSettled r.u n k q i) scale
          (⊎_elim (λ less. settled_stays b.u r.u n k (b.c * s) r.c i r.valid r.at_most
          (b.has i less))
          (λ last. subst (λ (p : ℕ). IsSettled r.u n k (r.c * (b.c * s)) p)
          (let e : j ≡ i = omega arith in e) r.has)
          (cases_lt i j));
    }

-- a valid table whose places are all settled is minimal
settled_is_minimal : (t : ℕ → ℤ) (n k s : ℕ) → 0 < n → IsValidTable t n k s →
    ((i : ℕ) → i < n → IsSettled t n k s i) →
    IsMinimalTable t n k s
settled_is_minimal t n k s some valid settled = only_minimal t n k s (record {
  valid = valid;
  none_below = λ c u under i.
      let here = settled_is_least t u n k s c (i % n) under.valid under.at_most
      (settled (i % n) (mod-lt i some)) in
      let first = same_at_remainder u n under.valid.has_period (i % n) i (mod-mod i n) in
      let second = same_at_remainder t n valid.has_period (i % n) i (mod-mod i n) in
      sym first ∙ here ∙ ap (λ z. pos c *ℤ z) second;
})

pub minimal_below : (t : ℕ → ℤ) (n k s : ℕ) → 0 < n → IsValidTable t n k s →
    (c : ℕ) × (u : ℕ → ℤ) × (0 < c) × IsMinimalTable u n k (c * s)
    × ((i : ℕ) → u i ≤ℤ (pos c *ℤ t i))
minimal_below t n k s some valid =
    let r = settle_all t n k s n some valid in
    (r.c, r.u, r.some, settled_is_minimal r.u n k (r.c * s) some r.valid r.has, r.at_most)
