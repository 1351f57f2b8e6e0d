-- Valid tables that break a rule of minimal tables are dominated; minimal and extreme tables are so
-- among valid ones.
use Rattle.std.proofs.Common.{◌≡◌, ◌≢◌, ℕ, zero, suc, ◌+◌, ◌-◌, ◌*◌, ◌%◌, ◌<◌, ◌≤◌, ◌⊎◌, inl, inr, ⊎_elim, eqb, cond, List, [], ◌∷◌, ℤ, pos, ◌+ℤ◌, ◌-ℤ◌, ◌*ℤ◌, ◌≤ℤ◌, ◌<ℤ◌, refl, sym, subst, ap, ap₂, ◌∙◌, arith}
use Rattle.std.specs.Prelude.{sum}
use Rattle.std.proofs.Math.Nat.{add-mod_right, add-mul-mod_self_right, le-mul_of_pos_right, mod-lt, mod-mod, mul-le-mul_right, mul-pos, one-mul}
use Rattle.std.proofs.lemmas.Bool.{cases_lt, cond-true, cond-false}
use Rattle.std.proofs.lemmas.Bool.Decides.{eqb_tells}
use Rattle.std.proofs.lemmas.Int.{ints, by_lt_z}
use Rattle.gj_lemmas.proofs.Integers.{mul_add_z, mul_assoc_z, mul_le_mul_left_z, mul_nonnegative_z, same_or_apart_z}
use Rattle.gj_lemmas.proofs.Quotients.{same_at_remainder}
use Rattle.gj_shape.specs.Extreme.{IsExtremeTable, IsExtreme, AverageTo}
use Rattle.gj_shape.specs.FunctionData.{FunctionData, IsWithinBounds}
use Rattle.gj_shape.specs.Table.{table, IsMinimalTable, IsMinimal}
use Rattle.gj_shape.specs.Valid.{weight, IsValidTable, IsMinimalAmongValid, IsExtremeAmongValid, IsDominated}
use Rattle.gj_shape.specs.Violation.{ShowsViolation}
use Rattle.gj_shape.specs.declared.violations.Violation.{Violation}
use Rattle.gj_theory.specs.GridPoints.{HoldsPoints}
use Rattle.gj_theory.proofs.Violations.{violation_denies_tables}
use Rattle.gj_theory.proofs.Weights.{sum_cons, same_sums, cancel_same, weight_nonnegative, weight_le, weight_of_sum, weight_of_multiple, below_weight, StandFor, stand_for_all}

-- ---- a table that is changed at one place

-- the table w with v at the places that are a modulo n
abbrev pub dented : (ℕ → ℤ) → ℕ → ℕ → ℤ → ℕ → ℤ
dented w n a v i = cond (eqb (i % n) (a % n)) v (w i)

pub dented_tells : (w : ℕ → ℤ) (n a : ℕ) (v : ℤ) (i : ℕ) →
    ((i % n ≡ a % n) × (dented w n a v i ≡ v)) ⊎ ((i % n ≢ a % n) × (dented w n a v i ≡ w i))
dented_tells w n a v i =
    ⊎_elim (λ at. inl (at.1, cond-true (eqb (i % n) (a % n)) v (w i) at.0))
    (λ off. inr (off.1, cond-false (eqb (i % n) (a % n)) v (w i) off.0))
    (eqb_tells (i % n) (a % n))

pub dented_here : (w : ℕ → ℤ) (n a : ℕ) (v : ℤ) → dented w n a v a ≡ v
dented_here w n a v = ⊎_elim (λ at. at.1) (λ off. absurd (off.0 refl)) (dented_tells w n a v a)

pub dented_period : (w : ℕ → ℤ) (n a : ℕ) (v : ℤ) → ((i : ℕ) → w (i + n) ≡ w i) → (i : ℕ) →
    dented w n a v (i + n) ≡ dented w n a v i
dented_period w n a v period i = ap₂ (λ r x. cond (eqb r (a % n)) v x) (add-mod_right i n)
    (period i)

pub dented_le : (w : ℕ → ℤ) (n a : ℕ) (v : ℤ) → ((i : ℕ) → w (i + n) ≡ w i) → v ≤ℤ w a → (i : ℕ) →
    dented w n a v i ≤ℤ w i
dented_le w n a v period least i =
    ⊎_elim
    (λ at.
    let same = same_at_remainder w n period i a at.0 in
    let here = at.1 in
    omega (arith, ints))
    (λ off. let here = off.1 in omega (arith, ints))
    (dented_tells w n a v i)

-- ---- a place for which lighter places stand

pub valid_by_places : (t u : ℕ → ℤ) (n k s : ℕ) → IsValidTable t n k s →
    ((i : ℕ) → u (i + n) ≡ u i) →
    ((i : ℕ) → StandFor t n i (u i)) → IsValidTable u n k s
valid_by_places t u n k s valid period each = record {
  has_period = period;
  nonnegative = λ i.
      let (places, place, is) = each i in
      subst (λ (w : ℤ). pos 0 ≤ℤ w) is (weight_nonnegative t places valid.nonnegative);
  at_solutions = λ xs solution.
      let (places, place, is) = stand_for_all t u n xs each in
      subst (λ (w : ℤ). pos s ≤ℤ w) is (valid.at_solutions places (place ∙ solution));
}

-- a valid table over the same scale that is nowhere above t, and below it at a place
pub record Lighter (t : ℕ → ℤ) (n k s : ℕ) : Type 0 where
  pub u : ℕ → ℤ
  pub place : ℕ
  pub valid : IsValidTable u n k s
  pub at_most : (i : ℕ) → u i ≤ℤ t i
  pub below : u place <ℤ t place

-- places that add up to a and weigh less than a
pub lighter : (t : ℕ → ℤ) (n k s a : ℕ) (places : List ℕ) → IsValidTable t n k s →
    sum places % n ≡ a % n → weight t places <ℤ t a →
    Lighter t n k s
lighter t n k s a places valid place less =
    let v = weight t places in
    record {
      u = dented t n a v;
      place = a;
      valid = valid_by_places t (dented t n a v) n k s valid
          (dented_period t n a v valid.has_period)
          (λ i. ⊎_elim
          (λ at. (places, place ∙ sym at.0, sym at.1))
          (λ off. (
            i ∷ [],
            ap (λ j. j % n) (sum_cons i [])
                ∙ ap (λ j. j % n) (omega arith),
            omega (arith, ints, off.1),
          ))
          (dented_tells t n a v i));
      at_most = dented_le t n a v valid.has_period (omega (arith, ints));
      below = let here = dented_here t n a v in omega (arith, ints);
    }

pub lighter_places : (t : ℕ → ℤ) (n k s a : ℕ) (places : List ℕ) → IsValidTable t n k s →
    sum places % n ≡ a % n →
    weight t places <ℤ t a → IsDominated t n k s
lighter_places t n k s a places valid place less =
    let l = lighter t n k s a places valid place less in (
      1,
      l.u,
      l.place,
      record {
        some = omega arith;
        valid = subst (λ (r : ℕ). IsValidTable l.u n k r) (sym (one-mul s)) l.valid;
        at_most = λ i. let here = l.at_most i in omega (arith, ints);
      },
      let below = l.below in omega (arith, ints),
    )

pub zero_dominated : (t : ℕ → ℤ) (n k s : ℕ) → IsValidTable t n k s → t 0 ≢ pos 0 →
    IsDominated t n k s
zero_dominated t n k s valid differs =
    let low = valid.nonnegative 0 in
    lighter_places t n k s 0 [] valid refl
    (by_lt_z (pos 0) (t 0) (λ l. l) (λ l. absurd (differs (omega (arith, ints)))))

pub pair_dominated : (t : ℕ → ℤ) (n k s i j : ℕ) → IsValidTable t n k s →
    (t i +ℤ t j) <ℤ t (i + j) → IsDominated t n k s
pair_dominated t n k s i j valid below =
    lighter_places t n k s (i + j) (i ∷ j ∷ []) valid
    (ap (λ l. l % n) (sum_cons i (j ∷ []) ∙ ap (λ l. i + l) (sum_cons j []) ∙ omega arith))
    (omega (arith, ints))

-- ---- entries at opposite places that add up to too much

-- the uses of a in a list: how many, and if there are some, what the others add up to
record Uses (t u : ℕ → ℤ) (n c s a : ℕ) (xs : List ℕ) : Type 0 where
  m : ℕ
  whole : weight u xs +ℤ pos m ≡ pos c *ℤ weight t xs
  heavy : pos (m * s) ≤ℤ weight u xs
  taken : (m ≡ 0) ⊎ ((y : ℕ) × ((a + y) % n ≡ sum xs % n) × ((t a +ℤ t y) ≤ℤ weight t xs))

-- c times the table, less 1 at a
abbrev lowered : (ℕ → ℤ) → ℕ → ℕ → ℕ → ℕ → ℤ
lowered t n c a = dented (λ i. pos c *ℤ t i) n a (pos c *ℤ t a -ℤ pos 1)

one_more : (t : ℕ → ℤ) (n c s a x : ℕ) (xs : List ℕ) → t 0 ≡ pos 0 →
    ((i j : ℕ) → t (i + j) ≤ℤ (t i +ℤ t j)) →
    t x ≡ t a → pos s ≤ℤ (pos c *ℤ t a -ℤ pos 1) → x % n ≡ a % n →
    lowered t n c a x ≡ pos c *ℤ t a -ℤ pos 1 →
    Uses t (lowered t n c a) n c s a xs → Uses t (lowered t n c a) n c s a (x ∷ xs)
one_more t n c s a x xs none below same enough rest here r =
    let split = mul_add_z (pos c) (t x) (weight t xs) in
    let times : pos c *ℤ t x ≡ pos c *ℤ t a = ap (λ z. pos c *ℤ z) same in
    let whole = r.whole in
    let heavy = r.heavy in
    let others = below_weight t xs none below in
    record {
      m = suc r.m;
      whole = omega (arith, ints);
      heavy = let e : suc r.m * s ≡ s + r.m * s = omega arith in omega (arith, ints);
      taken = inr (
        sum xs,
        same_sums a x (sum xs) (sum xs) n (sym rest) refl ∙ ap (λ i. i % n) (sym (sum_cons x xs)),
        omega (arith, ints),
      );
    }

no_more : (t : ℕ → ℤ) (n c s a x : ℕ) (xs : List ℕ) → ((i j : ℕ) → t (i + j) ≤ℤ (t i +ℤ t j)) →
    ((i : ℕ) → pos 0 ≤ℤ t i) →
    lowered t n c a x ≡ pos c *ℤ t x → Uses t (lowered t n c a) n c s a xs →
    Uses t (lowered t n c a) n c s a (x ∷ xs)
no_more t n c s a x xs below low here r =
    let split = mul_add_z (pos c) (t x) (weight t xs) in
    let least = mul_nonnegative_z (pos c) (t x) (omega (arith, ints)) (low x) in
    let whole = r.whole in
    let heavy = r.heavy in
    record {
      m = r.m;
      whole = omega (arith, ints);
      heavy = omega (arith, ints);
      taken = ⊎_elim (λ e. inl e)
          (λ others.
          let (y, place, most) = others in
          let step = below y x in
          inr (
            y + x,
            ap (λ i. i % n) (omega arith) ∙ same_sums x x (a + y) (sum xs) n refl place
                ∙ ap (λ i. i % n) (sym (sum_cons x xs)),
            omega (arith, ints),
          ))
          r.taken;
    }

uses : (t : ℕ → ℤ) (n c s a : ℕ) (xs : List ℕ) → ((i : ℕ) → t (i + n) ≡ t i) → t 0 ≡ pos 0 →
    ((i j : ℕ) → t (i + j) ≤ℤ (t i +ℤ t j)) →
    ((i : ℕ) → pos 0 ≤ℤ t i) → pos s ≤ℤ (pos c *ℤ t a -ℤ pos 1) →
    Uses t (lowered t n c a) n c s a xs
uses t n c s a [] period none below low enough = record {
  m = 0;
  whole = omega (arith, ints);
  heavy = omega (arith, ints);
  taken = inl refl;
}
uses t n c s a (x ∷ xs) period none below low enough =
    let r = uses t n c s a xs period none below low enough in
    ⊎_elim
    (λ at. one_more t n c s a x xs none below (same_at_remainder t n period x a at.0) enough at.0
    at.1 r)
    (λ off. no_more t n c s a x xs below low off.1 r)
    (dented_tells (λ i. pos c *ℤ t i) n a (pos c *ℤ t a -ℤ pos 1) x)

-- the weight under the lowered table, by the number of uses
enough_for : (m s : ℕ) (u w : ℤ) → u +ℤ pos m ≡ pos (suc s) *ℤ w → pos (m * s) ≤ℤ u → pos s ≤ℤ w →
    ((m ≡ 0) ⊎ (pos (suc s) ≤ℤ w)) → pos (suc s * s) ≤ℤ u
enough_for m s u w whole heavy least (inl none) =
    let all = mul_le_mul_left_z (pos s) w (pos (suc s)) (omega (arith, ints)) least in
    omega (arith, ints)
enough_for m s u w whole heavy least (inr more) =
    ⊎_elim
    (λ few.
    let all = mul_le_mul_left_z (pos (suc s)) w (pos (suc s)) (omega (arith, ints)) more in
    let square : suc s * suc s ≡ suc s * s + suc s = omega arith in
    omega (arith, ints))
    (λ many. let all = mul-le-mul_right s many in omega (arith, ints))
    (cases_lt m (suc s))

lowered_valid : (t : ℕ → ℤ) (n k s a b : ℕ) → IsValidTable t n k s → t 0 ≡ pos 0 →
    ((i j : ℕ) → t (i + j) ≤ℤ (t i +ℤ t j)) →
    (a + b) % n ≡ k % n → pos s <ℤ (t a +ℤ t b) → pos 0 <ℤ t a →
    IsValidTable (lowered t n (suc s) a) n k (suc s * s)
lowered_valid t n k s a b valid none below opposite more some =
    let c = suc s in
    let most = mul_le_mul_left_z (pos 1) (t a) (pos c) (omega (arith, ints))
    (omega (arith, ints)) in
    let enough : pos s ≤ℤ (pos c *ℤ t a -ℤ pos 1) = omega (arith, ints) in
    record {
      has_period = dented_period (λ i. pos c *ℤ t i) n a (pos c *ℤ t a -ℤ pos 1)
          (λ i. ap (λ z. pos c *ℤ z) (valid.has_period i));
      nonnegative = λ i.
          ⊎_elim (λ at. let here = at.1 in omega (arith, ints))
          (λ off.
          let here = off.1 in
          let least = mul_nonnegative_z (pos c) (t i) (omega (arith, ints)) (valid.nonnegative i) in
          omega (arith, ints))
          (dented_tells (λ i. pos c *ℤ t i) n a (pos c *ℤ t a -ℤ pos 1) i);
      at_solutions = λ xs solution.
          let r = uses t n c s a xs valid.has_period none below valid.nonnegative enough in
          enough_for r.m s (weight (lowered t n c a) xs) (weight t xs) r.whole r.heavy
          (valid.at_solutions xs solution)
          (⊎_elim (λ e. inl e)
          (λ others.
          let (y, place, heavy) = others in
          let same = same_at_remainder t n valid.has_period y b
          (cancel_same a y b n (place ∙ solution ∙ sym opposite)) in
          inr (omega (arith, ints)))
          r.taken);
    }

lowered_dominates : (t : ℕ → ℤ) (n k s a b : ℕ) → IsValidTable t n k s → t 0 ≡ pos 0 →
    ((i j : ℕ) → t (i + j) ≤ℤ (t i +ℤ t j)) →
    (a + b) % n ≡ k % n → pos s <ℤ (t a +ℤ t b) → pos 0 <ℤ t a → IsDominated t n k s
lowered_dominates t n k s a b valid none below opposite more some =
    let c = suc s in (
      c,
      lowered t n c a,
      a,
      record {
        some = omega arith;
        valid = lowered_valid t n k s a b valid none below opposite more some;
        at_most = λ i. ⊎_elim
            (λ at.
            let here = at.1 in
            let same : pos c *ℤ t i ≡ pos c *ℤ t a =
            ap (λ z. pos c *ℤ z) (same_at_remainder t n valid.has_period i a at.0) in
            omega (arith, ints))
            (λ off. let here = off.1 in omega (arith, ints))
            (dented_tells (λ i. pos c *ℤ t i) n a (pos c *ℤ t a -ℤ pos 1) i);
      },
      let here = dented_here (λ i. pos c *ℤ t i) n a (pos c *ℤ t a -ℤ pos 1) in omega (arith, ints),
    )

pub opposite_dominated : (t : ℕ → ℤ) (n k s i j : ℕ) → IsValidTable t n k s → t 0 ≡ pos 0 →
    ((i j : ℕ) → t (i + j) ≤ℤ (t i +ℤ t j)) → (i + j) % n ≡ k % n → t i +ℤ t j ≢ pos s →
    IsDominated t n k s
opposite_dominated t n k s i j valid none below opposite differs =
    let least = valid.at_solutions (i ∷ j ∷ [])
    (ap (λ l. l % n) (sum_cons i (j ∷ []) ∙ ap (λ l. i + l) (sum_cons j []) ∙ omega arith)
    ∙ opposite) in
    let more : pos s <ℤ (t i +ℤ t j) =
    by_lt_z (pos s) (t i +ℤ t j) (λ l. l) (λ l. absurd (differs (omega (arith, ints)))) in
    let turned : (j + i) % n ≡ k % n = ap (λ l. l % n) (omega arith) ∙ opposite in
    by_lt_z (pos 0) (t i) (λ l. lowered_dominates t n k s i j valid none below opposite more l)
    (λ l. lowered_dominates t n k s j i valid none below turned (omega (arith, ints))
    (omega (arith, ints)))

-- ---- each valid table is minimal or dominated

-- the first of two properties holds below n, or the second somewhere below n
pub all_or_some : (P Q : ℕ → Type 0) → ((i : ℕ) → P i ⊎ Q i) → (n : ℕ) →
    ((i : ℕ) → i < n → P i) ⊎ ((i : ℕ) × (i < n) × Q i)
all_or_some P Q decide zero = inl (λ i below. absurd (omega arith))
all_or_some P Q decide (suc n) =
    ⊎_elim
    (λ all. ⊎_elim
    (λ here. inl (λ i below. ⊎_elim (λ less. all i less)
    (λ same. subst P (let e : n ≡ i = omega arith in e) here) (cases_lt i n)))
    (λ fails. inr (n, omega arith, fails))
    (decide n))
    (λ found. let (i, below, fails) = found in inr (i, omega arith, fails))
    (all_or_some P Q decide n)

-- a place opposite to i
abbrev pub opposite_of : ℕ → ℕ → ℕ → ℕ
opposite_of n k i = k + (i * n - i)

pub opposite_is : (n k i : ℕ) → 0 < n → (i + opposite_of n k i) % n ≡ k % n
opposite_is n k i some =
    let many : i ≤ i * n = le-mul_of_pos_right i some in
    let whole : i + opposite_of n k i ≡ k + i * n = omega arith in
    ap (λ l. l % n) whole ∙ add-mul-mod_self_right k i n

subadditive_or_dominated : (t : ℕ → ℤ) (n k s : ℕ) → 0 < n → IsValidTable t n k s →
    ((i j : ℕ) → t (i + j) ≤ℤ (t i +ℤ t j)) ⊎ IsDominated t n k s
subadditive_or_dominated t n k s some valid =
    ⊎_elim
    (λ all. inl (λ i j.
    let here = all (i % n) (mod-lt i some) (j % n) (mod-lt j some) in
    let first = same_at_remainder t n valid.has_period (i % n) i (mod-mod i n) in
    let second = same_at_remainder t n valid.has_period (j % n) j (mod-mod j n) in
    let both = same_at_remainder t n valid.has_period (i % n + j % n) (i + j)
    (same_sums (i % n) i (j % n) j n (mod-mod i n) (mod-mod j n)) in
    omega (arith, ints)))
    (λ found. inr found.2)
    (all_or_some (λ i. (j : ℕ) → j < n → t (i + j) ≤ℤ (t i +ℤ t j)) (λ i. IsDominated t n k s)
    (λ i. ⊎_elim (λ all. inl all) (λ found. inr (pair_dominated t n k s i found.0 valid found.2))
    (all_or_some (λ j. t (i + j) ≤ℤ (t i +ℤ t j)) (λ j. (t i +ℤ t j) <ℤ t (i + j))
    (λ j. by_lt_z (t i +ℤ t j) (t (i + j)) (λ l. inr l) (λ l. inl l)) n)) n)

symmetric_or_dominated : (t : ℕ → ℤ) (n k s : ℕ) → 0 < n → IsValidTable t n k s → t 0 ≡ pos 0 →
    ((i j : ℕ) → t (i + j) ≤ℤ (t i +ℤ t j)) →
    ((i j : ℕ) → (i + j) % n ≡ k % n → t i +ℤ t j ≡ pos s) ⊎ IsDominated t n k s
symmetric_or_dominated t n k s some valid none below =
    ⊎_elim
    (λ all. inl (λ i j opposite.
    let here = all (i % n) (mod-lt i some) in
    let first = same_at_remainder t n valid.has_period (i % n) i (mod-mod i n) in
    let sum : (i % n + opposite_of n k (i % n)) % n ≡ (i % n + j) % n =
    opposite_is n k (i % n) some ∙ sym opposite
    ∙ same_sums i (i % n) j j n (sym (mod-mod i n)) refl in
    let second = same_at_remainder t n valid.has_period (opposite_of n k (i % n)) j
    (cancel_same (i % n) (opposite_of n k (i % n)) j n sum) in
    ap₂ (λ x y. x +ℤ y) (sym first) (sym second) ∙ here))
    (λ found. inr found.2)
    (all_or_some (λ i. t i +ℤ t (opposite_of n k i) ≡ pos s) (λ i. IsDominated t n k s)
    (λ i. ⊎_elim (λ e. inl e)
    (λ differs. inr (opposite_dominated t n k s i (opposite_of n k i) valid none below
    (opposite_is n k i some) differs))
    (same_or_apart_z (t i +ℤ t (opposite_of n k i)) (pos s))) n)

pub minimal_or_dominated : (t : ℕ → ℤ) (n k s : ℕ) → 0 < n → IsValidTable t n k s →
    IsMinimalTable t n k s ⊎ IsDominated t n k s
minimal_or_dominated t n k s some valid =
    ⊎_elim
    (λ none. ⊎_elim
    (λ below. ⊎_elim
    (λ opposite. inl (record {
      has_period = valid.has_period;
      zero_at_zero = none;
      nonnegative = valid.nonnegative;
      subadditive = below;
      symmetric = opposite;
    }))
    (λ d. inr d)
    (symmetric_or_dominated t n k s some valid none below))
    (λ d. inr d)
    (subadditive_or_dominated t n k s some valid))
    (λ differs. inr (zero_dominated t n k s valid differs))
    (same_or_apart_z (t 0) (pos 0))

pub asymmetry_dominated : (t : ℕ → ℤ) (n k s i j : ℕ) → 0 < n → IsValidTable t n k s →
    (i + j) % n ≡ k % n →
    t i +ℤ t j ≢ pos s → IsDominated t n k s
asymmetry_dominated t n k s i j some valid opposite differs =
    ⊎_elim (λ minimal. absurd (differs (minimal.symmetric i j opposite))) (λ d. d)
    (minimal_or_dominated t n k s some valid)

-- ---- minimal tables

-- a subadditive table with 0 at 0 and at least s at the place k is valid
pub subadditive_is_valid : (t : ℕ → ℤ) (n k s : ℕ) → ((i : ℕ) → t (i + n) ≡ t i) →
    ((i : ℕ) → pos 0 ≤ℤ t i) → t 0 ≡ pos 0 →
    ((i j : ℕ) → t (i + j) ≤ℤ (t i +ℤ t j)) → pos s ≤ℤ t k → IsValidTable t n k s
subadditive_is_valid t n k s period low none below top = record {
  has_period = period;
  nonnegative = low;
  at_solutions = λ xs solution.
      let whole = below_weight t xs none below in
      let peak = same_at_remainder t n period (sum xs) k solution in
      omega (arith, ints);
}

pub minimal_is_valid : (t : ℕ → ℤ) (n k s : ℕ) → IsMinimalTable t n k s → IsValidTable t n k s
minimal_is_valid t n k s h =
    subadditive_is_valid t n k s h.has_period h.nonnegative h.zero_at_zero h.subadditive
    (let top = h.symmetric k 0 (ap (λ i. i % n) (omega arith)) in let none = h.zero_at_zero in
    omega (arith, ints))

pub minimal_among : (t : ℕ → ℤ) (n k s : ℕ) → 0 < n → IsMinimalTable t n k s →
    IsMinimalAmongValid t n k s
minimal_among t n k s some h = record {
  valid = minimal_is_valid t n k s h;
  none_below = λ c u under i.
      let j = opposite_of n k i in
      let place = opposite_is n k i some in
      let least = under.valid.at_solutions (i ∷ j ∷ [])
      (ap (λ l. l % n) (sum_cons i (j ∷ []) ∙ ap (λ l. i + l) (sum_cons j []) ∙ omega arith)
      ∙ place) in
      let whole : pos c *ℤ (t i +ℤ t j) ≡ pos c *ℤ pos s =
      ap (λ z. pos c *ℤ z) (h.symmetric i j place) in
      let split = mul_add_z (pos c) (t i) (t j) in
      let first = under.at_most i in
      let second = under.at_most j in
      omega (arith, ints);
}

pub not_dominated : (t : ℕ → ℤ) (n k s : ℕ) → IsMinimalAmongValid t n k s → IsDominated t n k s → ⊥
not_dominated t n k s h d =
    let (c, u, place, under, below) = d in
    let same = h.none_below c u under place in
    omega (arith, ints)

pub only_minimal : (t : ℕ → ℤ) (n k s : ℕ) → IsMinimalAmongValid t n k s → IsMinimalTable t n k s
only_minimal t n k s h =
    let valid = h.valid in
    let none = ⊎_elim (λ e. e)
    (λ differs. absurd (not_dominated t n k s h (zero_dominated t n k s valid differs)))
    (same_or_apart_z (t 0) (pos 0)) in
    let below : (i j : ℕ) → t (i + j) ≤ℤ (t i +ℤ t j) =
    λ i j. by_lt_z (t i +ℤ t j) (t (i + j))
    (λ l. absurd (not_dominated t n k s h (pair_dominated t n k s i j valid l))) (λ l. l) in
    record {
      has_period = valid.has_period;
      zero_at_zero = none;
      nonnegative = valid.nonnegative;
      subadditive = below;
      symmetric = λ i j opposite.
          ⊎_elim (λ e. e)
          (λ differs. absurd (not_dominated t n k s h
          (opposite_dominated t n k s i j valid none below opposite differs)))
          (same_or_apart_z (t i +ℤ t j) (pos s));
    }

pub neither : (t : ℕ → ℤ) (n k s : ℕ) → 0 < n → IsMinimalTable t n k s → IsDominated t n k s → ⊥
neither t n k s some h d = not_dominated t n k s (minimal_among t n k s some h) d

-- ---- extreme tables

-- e a + d b is valid over e s + d s' if a and b are
sum_valid : (a b w : ℕ → ℤ) (n k s r e d q : ℕ) → IsValidTable a n k s → IsValidTable b n k r →
    ((i : ℕ) → w i ≡ pos e *ℤ a i +ℤ pos d *ℤ b i) → q ≡ e * s + d * r → IsValidTable w n k q
sum_valid a b w n k s r e d q first second is scale = record {
  has_period = λ i. is (i + n) ∙ ap₂ (λ x y. pos e *ℤ x +ℤ pos d *ℤ y) (first.has_period i)
      (second.has_period i) ∙ sym (is i);
  nonnegative = λ i.
      let here = is i in
      let left = mul_nonnegative_z (pos e) (a i) (omega (arith, ints)) (first.nonnegative i) in
      let right = mul_nonnegative_z (pos d) (b i) (omega (arith, ints)) (second.nonnegative i) in
      omega (arith, ints);
  at_solutions = λ xs solution.
      let whole = weight_of_sum a b w (pos e) (pos d) xs is in
      let left = mul_le_mul_left_z (pos s) (weight a xs) (pos e) (omega (arith, ints))
      (first.at_solutions xs solution) in
      let right = mul_le_mul_left_z (pos r) (weight b xs) (pos d) (omega (arith, ints))
      (second.at_solutions xs solution) in
      omega (arith, ints);
}

-- one of two valid tables that average to a minimal one is minimal
half_minimal : (t a b : ℕ → ℤ) (n k s c : ℕ) → IsMinimalAmongValid t n k s → 0 < c →
    IsValidTable a n k (c * s) →
    IsValidTable b n k (c * s) → AverageTo c a b t → IsMinimalAmongValid a n k (c * s)
half_minimal t a b n k s c h some first second average = record {
  valid = first;
  none_below = λ e u under i.
      let both = λ (j : ℕ). u j +ℤ pos e *ℤ b j in
      let both_valid = sum_valid u b both n k (e * (c * s)) (c * s) 1 e
      ((2 * e * c) * s) under.valid second
      (λ j. omega (arith, ints)) (omega arith) in
      let whole = λ (j : ℕ).
      weighted e c (a j) (b j) (t j) (average j) in
      let same = h.none_below (2 * e * c) both (record {
        some = omega (arith, mul-pos under.some some);
        valid = both_valid;
        at_most = λ j. let here = under.at_most j in let all = whole j in omega (arith, ints);
      }) i in
      let all = whole i in
      omega (arith, ints);
}
  where
    weighted : (e c : ℕ) (x y z : ℤ) → x +ℤ y ≡ pos (2 * c) *ℤ z →
        pos e *ℤ x +ℤ pos e *ℤ y ≡ pos (2 * e * c) *ℤ z
    weighted e c x y z e_is =
        sym (mul_add_z (pos e) x y) ∙ ap (λ w. pos e *ℤ w) e_is
        ∙ sym (mul_assoc_z (pos e) (pos (2 * c)) z)
        ∙ ap (λ w. w *ℤ z) (ap pos (omega arith))

average_turned : (c : ℕ) (a b t : ℕ → ℤ) → AverageTo c a b t → AverageTo c b a t
average_turned c a b t h i = let here = h i in omega (arith, ints)

pub extreme_among : (t : ℕ → ℤ) (n k s : ℕ) → 0 < n → IsExtremeTable t n k s →
    IsExtremeAmongValid t n k s
extreme_among t n k s some h =
    let minimal = minimal_among t n k s some h.minimal in
    record {
      valid = minimal.valid;
      no_average = λ c a b c_some first second average.
          h.no_average c a b c_some
          (only_minimal a n k (c * s)
          (half_minimal t a b n k s c minimal c_some first second average))
          (only_minimal b n k (c * s)
          (half_minimal t b a n k s c minimal c_some second first
          (average_turned c a b t average)))
          average;
    }

-- what a valid table below leaves of twice the table is valid
rest_valid : (t u : ℕ → ℤ) (n k s c : ℕ) → IsValidTable t n k s → IsValidTable u n k (c * s) →
    ((i : ℕ) → u i ≤ℤ (pos c *ℤ t i)) →
    IsValidTable (λ i. pos (2 * c) *ℤ t i -ℤ u i) n k (c * s)
rest_valid t u n k s c valid lower below =
    let above = λ (i : ℕ). twice c (t i) (u i) (below i) in
    record {
      has_period = λ i. ap₂ (λ x y. pos (2 * c) *ℤ x -ℤ y) (valid.has_period i)
          (lower.has_period i);
      nonnegative = λ i.
          let here = above i in
          let least = mul_nonnegative_z (pos c) (t i) (omega (arith, ints)) (valid.nonnegative i) in
          omega (arith, ints);
      at_solutions = λ xs solution.
          let whole = weight_le (λ i. pos c *ℤ t i) (λ i. pos (2 * c) *ℤ t i -ℤ u i) xs above in
          let multiple = weight_of_multiple t (pos c) xs in
          let least = mul_le_mul_left_z (pos s) (weight t xs) (pos c) (omega (arith, ints))
          (valid.at_solutions xs solution) in
          omega (arith, ints);
    }
  where
    twice : (c : ℕ) (x y : ℤ) → y ≤ℤ (pos c *ℤ x) → (pos c *ℤ x) ≤ℤ (pos (2 * c) *ℤ x -ℤ y)
    twice c x y l = let double : pos (2 * c) *ℤ x ≡ pos c *ℤ x +ℤ pos c *ℤ x =
        omega (arith, ints) in omega (arith, ints)

extreme_minimal : (t : ℕ → ℤ) (n k s : ℕ) → IsExtremeAmongValid t n k s →
    IsMinimalAmongValid t n k s
extreme_minimal t n k s h = record {
  valid = h.valid;
  none_below = λ c u under i.
      let same = h.no_average c u (λ j. pos (2 * c) *ℤ t j -ℤ u j) under.some under.valid
      (rest_valid t u n k s c h.valid under.valid under.at_most)
      (λ j. omega (arith, ints)) i in
      let double : pos (2 * c) *ℤ t i ≡ pos c *ℤ t i +ℤ pos c *ℤ t i = omega (arith, ints) in
      omega (arith, ints);
}

pub only_extreme : (t : ℕ → ℤ) (n k s : ℕ) → IsExtremeAmongValid t n k s → IsExtremeTable t n k s
only_extreme t n k s h = record {
  minimal = only_minimal t n k s (extreme_minimal t n k s h);
  no_average = λ c a b some first second average.
      h.no_average c a b some (minimal_is_valid a n k (c * s) first)
      (minimal_is_valid b n k (c * s) second) average;
}

-- ---- functions

grid_some : (f : FunctionData) (m : ℕ) → IsWithinBounds f → 0 < m → 0 < f.order * m
grid_some f m l some = mul-pos (let low = l.order_low in omega arith) some

pub function_minimal : (f : FunctionData) → IsWithinBounds f → IsMinimal f →
    (m : ℕ) → 0 < m → IsMinimalAmongValid (table f m) (f.order * m) (f.place * m) (f.scale * m)
function_minimal f l h m some = minimal_among (table f m) (f.order * m) (f.place * m) (f.scale * m)
    (grid_some f m l some) (h m some)

pub function_only_minimal : (f : FunctionData) →
    ((m : ℕ) → 0 < m → IsMinimalAmongValid (table f m) (f.order * m) (f.place * m) (f.scale * m)) →
    IsMinimal f
function_only_minimal f h m some = only_minimal (table f m) (f.order * m) (f.place * m)
    (f.scale * m) (h m some)

pub function_extreme : (f : FunctionData) → IsWithinBounds f → IsExtreme f →
    (m : ℕ) → 0 < m → IsExtremeAmongValid (table f m) (f.order * m) (f.place * m) (f.scale * m)
function_extreme f l h m some = extreme_among (table f m) (f.order * m) (f.place * m) (f.scale * m)
    (grid_some f m l some) (h m some)

pub function_only_extreme : (f : FunctionData) →
    ((m : ℕ) → 0 < m → IsExtremeAmongValid (table f m) (f.order * m) (f.place * m) (f.scale * m)) →
    IsExtreme f
function_only_extreme f h m some = only_extreme (table f m) (f.order * m) (f.place * m)
    (f.scale * m) (h m some)

pub violation_dominated : (f : FunctionData) (v : Violation) (m : ℕ) → IsWithinBounds f →
    ShowsViolation f v → 0 < m →
    HoldsPoints f m v → IsValidTable (table f m) (f.order * m) (f.place * m) (f.scale * m) →
    IsDominated (table f m) (f.order * m) (f.place * m) (f.scale * m)
violation_dominated f v m l shown some held valid =
    ⊎_elim (λ minimal. absurd (violation_denies_tables f v m l shown some held minimal)) (λ d. d)
    (minimal_or_dominated (table f m) (f.order * m) (f.place * m) (f.scale * m)
    (grid_some f m l some) valid)
