-- The least positive slack of a minimal table, and the greatest size of what has a period.
use Rattle.std.proofs.Common.{◌≡◌, ℕ, zero, suc, ◌⊎◌, inl, inr, ◌+◌, ◌-◌, ◌*◌, ◌/◌, ◌%◌, ◌<◌, ◌≤◌, ℤ, pos, ◌+ℤ◌, ◌-ℤ◌, ◌<ℤ◌, ◌≤ℤ◌, unsigned_abs, refl, sym, ap, subst, ◌∙◌, mul-pos, mul-le-mul_right, arith}
use Rattle.std.proofs.Math.Nat.{mod-lt, mod-mod, add-mul-mod_self_right, mod-add-mod, add-mod-mod}
use Rattle.std.proofs.lemmas.Bool.{cases_lt}
use Rattle.std.proofs.lemmas.Int.{ints, by_lt_z}
use Rattle.gj_lemmas.proofs.Integers.{pos_abs_z}
use Rattle.gj_lemmas.proofs.Quotients.{same_at_remainder, parts_of_place}
use Rattle.gj_shape.specs.FunctionData.{FunctionData, IsWithinBounds}
use Rattle.gj_shape.specs.Perturbation.{IsLeastSlack, IsGreatestSize}
use Rattle.gj_shape.specs.Table.{table, IsMinimalTable, IsMinimal}

-- what holds below n and at n holds below n + 1
and_last : (P : ℤ → Type 0) (g : ℕ → ℤ) (n : ℕ) → ((j : ℕ) → j < n → P (g j)) → P (g n) → (j : ℕ) →
    j < suc n → P (g j)
and_last P g n before last j below = elim (cases_lt j n) [
  | inl earlier ↦ before j earlier
  | inr here ↦ subst (λ x. P (g x)) (let e : n ≡ j = omega arith in e) last
]

-- ---- the greatest size

-- an index at which the size is the greatest of those up to n
pub record IsGreatestUpTo (p : ℕ → ℤ) (n i : ℕ) : Type 0 where
  pub greatest : (j : ℕ) → j < suc n → unsigned_abs (p j) ≤ unsigned_abs (p i)

greatest_up_to : (p : ℕ → ℤ) (n : ℕ) → (i : ℕ) × IsGreatestUpTo p n i
greatest_up_to p zero = (
  0,
  record {
    greatest = λ j below.
        let e : unsigned_abs (p j) ≡ unsigned_abs (p 0) =
        ap (λ x. unsigned_abs (p x)) (omega arith) in omega arith;
  },
)
greatest_up_to p (suc n) = one_more (greatest_up_to p n)
  where
    one_more : (i : ℕ) × IsGreatestUpTo p n i → (i : ℕ) × IsGreatestUpTo p (suc n) i
    one_more (i, before) = elim (cases_lt (unsigned_abs (p i)) (unsigned_abs (p (suc n)))) [
      | inl more ↦ (
        suc n,
        record {
          greatest = and_last (λ z. unsigned_abs z ≤ unsigned_abs (p (suc n))) p (suc n)
              (λ j below. let least = before.greatest j below in omega arith) (omega arith);
        },
      )
      | inr less ↦ (
        i,
        record {
          greatest = and_last (λ z. unsigned_abs z ≤ unsigned_abs (p i)) p
              (suc n) before.greatest less;
        },
      )
    ]

pub greatest_size : (p : ℕ → ℤ) (n : ℕ) → 0 < n → ((i : ℕ) → p (i + n) ≡ p i) →
    (size : ℕ) × IsGreatestSize p size
greatest_size p n some period = of_period (greatest_up_to p n)
  where
    of_period : (i : ℕ) × IsGreatestUpTo p n i → (size : ℕ) × IsGreatestSize p size
    of_period (i, h) = (
      unsigned_abs (p i),
      record {
        i = i;
        reached = refl;
        greatest = λ j.
            let below : j % n < n = mod-lt j some in
            let same : p (j % n) ≡ p j = same_at_remainder p n period (j % n) j (mod-mod j n) in
            subst (λ z. unsigned_abs z ≤ unsigned_abs (p i)) same
            (h.greatest (j % n) (omega arith));
      },
    )

-- ---- the least positive number

pub record IsLeastPositive (g : ℕ → ℤ) (n i : ℕ) : Type 0 where
  pub positive : pos 0 <ℤ g i
  pub least : (j : ℕ) → j < n → pos 0 <ℤ g j → g i ≤ℤ g j

-- of the numbers below n, none is positive or one of them is the least positive one
abbrev LeastOrNone : (ℕ → ℤ) → ℕ → Type 0
LeastOrNone g n = ((j : ℕ) → j < n → g j ≤ℤ pos 0) ⊎ ((i : ℕ) × IsLeastPositive g n i)

with_one_more : (g : ℕ → ℤ) (n : ℕ) → LeastOrNone g n → LeastOrNone g (suc n)
with_one_more g n (inl none) = by_lt_z (pos 0) (g n)
    (λ positive. inr (
      n,
      record {
        positive = positive;
        least = and_last (λ z. pos 0 <ℤ z → g n ≤ℤ z) g n
            (λ j below above. let low = none j below in absurd (omega (arith, ints)))
            (λ above. omega (arith, ints));
      },
    ))
    (λ low. inl (and_last (λ z. z ≤ℤ pos 0) g n none low))
with_one_more g n (inr (i, h)) =
    let keep : (pos 0 <ℤ g n → g i ≤ℤ g n) → IsLeastPositive g (suc n) i =
    λ at_last. record {
      positive = h.positive;
      least = and_last (λ z. pos 0 <ℤ z → g i ≤ℤ z) g n h.least at_last;
    } in
    by_lt_z (g n) (g i)
    (λ less. by_lt_z (pos 0) (g n)
    (λ positive. inr (
      n,
      record {
        positive = positive;
        least = and_last (λ z. pos 0 <ℤ z → g n ≤ℤ z) g n
            (λ j below above. let least = h.least j below above in omega (arith, ints))
            (λ above. omega (arith, ints));
      },
    ))
    (λ low. inr (i, keep (λ above. absurd (omega (arith, ints))))))
    (λ high. inr (i, keep (λ above. high)))

least_or_none : (g : ℕ → ℤ) (n : ℕ) → LeastOrNone g n
least_or_none g zero = inl (λ j below. absurd (omega arith))
least_or_none g (suc n) = with_one_more g n (least_or_none g n)

least_positive : (g : ℕ → ℤ) (n j : ℕ) → j < n → pos 0 <ℤ g j → (i : ℕ) × IsLeastPositive g n i
least_positive g n j below positive = elim (least_or_none g n) [
  | inl none ↦ let low = none j below in absurd (omega (arith, ints))
  | inr found ↦ found
]

-- ---- the least positive slack

abbrev pub slack_of : (ℕ → ℤ) → ℕ → ℕ → ℤ
slack_of t i j = t i +ℤ t j -ℤ t (i + j)

-- the slack is that of the remainders
slack_of_remainders : (t : ℕ → ℤ) (n : ℕ) → ((i : ℕ) → t (i + n) ≡ t i) → (i j : ℕ) →
    slack_of t (i % n) (j % n) ≡ slack_of t i j
slack_of_remainders t n period i j =
    let first : t (i % n) ≡ t i = same_at_remainder t n period (i % n) i (mod-mod i n) in
    let second : t (j % n) ≡ t j = same_at_remainder t n period (j % n) j (mod-mod j n) in
    let both : t (i % n + j % n) ≡ t (i + j) =
    same_at_remainder t n period (i % n + j % n) (i + j)
    (mod-add-mod i n (j % n) ∙ add-mod-mod i j n) in
    rw (first, second, both) refl

-- entries of a minimal table are at most its scale
pub at_most_scale : (t : ℕ → ℤ) (n k s i : ℕ) → 0 < n → IsMinimalTable t n k s → t i ≤ℤ pos s
at_most_scale t n k s i some h =
    let j = (n - 1) * i + k in
    let whole : i + j ≡ k + i * n =
    omega (arith, ap (λ x. x * i) (let e : n - 1 + 1 ≡ n = omega arith in e)) in
    let sum = h.symmetric i j (ap (λ x. x % n) whole ∙ add-mul-mod_self_right k i n) in
    let sign = h.nonnegative j in
    omega (arith, ints)

-- the slack at (f, f) is positive
positive_at_place : (t : ℕ → ℤ) (n k s : ℕ) → 0 < n → 0 < s → IsMinimalTable t n k s →
    pos 0 <ℤ slack_of t k k
positive_at_place t n k s some s_some h =
    let zero_at_zero = h.zero_at_zero in
    let place : t 0 +ℤ t k ≡ pos s = h.symmetric 0 k (ap (λ x. x % n) (omega arith)) in
    let high = at_most_scale t n k s (k + k) some h in
    omega (arith, ints)

-- a pair of remainders as one number
pair_number : (n a b : ℕ) → a < n → b < n → a * n + b < n * n
pair_number n a b a_below b_below =
    let rows : (a + 1) * n ≤ n * n = mul-le-mul_right n (omega arith) in
    omega arith

-- two indices whose slack is the least positive one
pub record HasLeastSlack (t : ℕ → ℤ) : Type 0 where
  pub i : ℕ
  pub j : ℕ
  pub positive : pos 0 <ℤ slack_of t i j
  pub least : (a b : ℕ) → pos 0 <ℤ slack_of t a b → slack_of t i j ≤ℤ slack_of t a b

least_slack_of_table : (t : ℕ → ℤ) (n k s : ℕ) → 0 < n → 0 < s → IsMinimalTable t n k s →
    HasLeastSlack t
least_slack_of_table t n k s some s_some h =
    of_least (least_positive g (n * n) (k % n * n + k % n) (number k k)
    (subst (λ z. pos 0 <ℤ z) (sym (there k k)) place))
  where
    g : ℕ → ℤ
    g x = slack_of t (x / n) (x % n)

    number : (a b : ℕ) → a % n * n + b % n < n * n
    number a b = pair_number n (a % n) (b % n) (mod-lt a some) (mod-lt b some)

    there : (a b : ℕ) → slack_of t ((a % n * n + b % n) / n) ((a % n * n + b % n) % n)
        ≡ slack_of t a b
    there a b =
        let parts = parts_of_place (a % n * n + b % n) (a % n) n (b % n) refl (mod-lt b some) in
        rw (parts.0, parts.1) (slack_of_remainders t n h.has_period a b)

    place : pos 0 <ℤ slack_of t k k
    place = positive_at_place t n k s some s_some h

    of_least : (x : ℕ) × IsLeastPositive (λ x. slack_of t (x / n) (x % n)) (n * n) x →
        HasLeastSlack t
    of_least (x, found) = record {
      i = x / n;
      j = x % n;
      positive = found.positive;
      least = λ a b above.
          let y = a % n * n + b % n in
          subst (λ z. slack_of t (x / n) (x % n) ≤ℤ z) (there a b)
          (found.least y (number a b) (subst (λ z. pos 0 <ℤ z) (sym (there a b)) above));
    }

pub least_slack : (f : FunctionData) (m : ℕ) → IsWithinBounds f → IsMinimal f → 0 < m →
    (u : ℕ) × IsLeastSlack f m u
least_slack f m l h some =
    of_table (least_slack_of_table (table f m) (f.order * m) (f.place * m) (f.scale * m)
    (mul-pos (omega arith) some) (mul-pos (omega arith) some) (h m some))
  where
    of_table : HasLeastSlack (table f m) → (u : ℕ) × IsLeastSlack f m u
    of_table found =
        let u = slack_of (table f m) found.i found.j in
        let positive : pos 0 <ℤ u = found.positive in
        let size : pos (unsigned_abs u) ≡ u = pos_abs_z u (omega (arith, ints)) in (
          unsigned_abs u,
          record {
            positive = rw size positive;
            i = found.i;
            j = found.j;
            reached = sym size;
            least = λ a b above. rw size (found.least a b above);
          },
        )
