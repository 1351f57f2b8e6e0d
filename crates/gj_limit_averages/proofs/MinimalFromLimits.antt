-- A function is minimal exactly if the limits of its slack are not negative and it is symmetric:
-- that it is not negative follows.
use Rattle.std.proofs.Common.{◌≡◌, ℕ, zero, suc, ◌+◌, ◌-◌, ◌*◌, ◌<◌, ℤ, pos, ◌+ℤ◌, ◌*ℤ◌, ◌≤ℤ◌, [], ◌∷◌, length, get_or, ⊎_elim, refl, sym, ap, subst, ◌∙◌, arith}
use Rattle.std.proofs.lemmas.Bool.{cases_lt}
use Rattle.std.proofs.lemmas.Int.{ints}
use Rattle.std.proofs.lemmas.List.{get_or_past}
use Rattle.gj_lemmas.proofs.Integers.{mul_le_cancel_right_z}
use Rattle.gj_lemmas.proofs.Quotients.{periods}
use Rattle.gj_lemmas.proofs.Ring.{by_ring, ring}
use Rattle.gj_shape.specs.FunctionData.{FunctionData, IsPiecewise, at}
use Rattle.gj_shape.specs.Faces.{corners_of, slack_from, limits_of}
use Rattle.gj_shape.specs.Table.{IsMinimal}
use Rattle.gj_shape.specs.FirstViolation.{Test, Passes}
use Rattle.gj_shape.specs.FirstViolation.Test.{zero_at_zero, nonnegative_at, nonnegative_after, nonnegative_before, symmetric_at, symmetric_between, subadditive_at}
use Rattle.gj_shape.specs.declared.faces.FaceKind.{FaceKind}
use Rattle.gj_shape.specs.declared.faces.FaceKind.TheVariants.{Vertex, Lower, Upper}
use Rattle.gj_shape.proofs.TableLemmas.{at_plus_order}
use Rattle.gj_theory.specs.EarlierTests.{IsTestOf}
use Rattle.gj_theory.proofs.Affine.{limit_count}
use Rattle.gj_theory.proofs.EachTest.{each_test}
use Rattle.gj_theory.proofs.MinimalFromTests.{minimal_by_tests}
use Rattle.gj_theory.proofs.TestsFromMinimal.{passes_each, slack_limit}
use Rattle.gj_jumps.specs.LimitSystem.{Limits}
use Rattle.gj_limit_grids.specs.Grids.{slack_at_corner}
use Rattle.gj_limit_averages.proofs.Corners.{own_limits, own_slack}

-- ---- signs from subadditivity

multiples : (a : ℕ → ℤ) → ((i j : ℕ) → a (i + j) ≤ℤ (a i +ℤ a j)) → (i c : ℕ) →
    a (i * c + i) ≤ℤ (a i *ℤ pos c +ℤ a i)
multiples a h i zero =
    let first : a (i * 0 + i) ≡ a i = ap a (omega arith) in omega (arith, ints)
multiples a h i (suc c) =
    let next : a (i * suc c + i) ≡ a (i * c + i + i) = ap a (omega arith) in
    let step = h (i * c + i) i in
    let before = multiples a h i c in
    let split : a i *ℤ pos (suc c) ≡ a i *ℤ pos c +ℤ a i =
    by_ring (a i ∷ pos c ∷ []) (search ring depth 20) refl in
    omega (arith, ints)

-- a i = a (i n + i) is at most (n + 1) a i
nonnegative_from_subadditive : (a : ℕ → ℤ) (n : ℕ) → 0 < n → ((i : ℕ) → a (i + n) ≡ a i) →
    ((i j : ℕ) → a (i + j) ≤ℤ (a i +ℤ a j)) → (i : ℕ) → pos 0 ≤ℤ a i
nonnegative_from_subadditive a n some period h i =
    let whole : a (i * n + i) ≡ a i = ap a (omega arith) ∙ periods a n period i i in
    let below = multiples a h i n in
    mul_le_cancel_right_z (pos 0) (a i) (pos n) (omega (arith, ints)) (omega (arith, ints))

-- what is subadditive from the place after 0 on
shifted : (a : ℕ → ℤ) (n : ℕ) → 0 < n → ((i : ℕ) → a (i + n) ≡ a i) →
    ((i j : ℕ) → a (i + j + 1 + 1) ≤ℤ (a (i + 1) +ℤ a (j + 1))) → (i j : ℕ) →
    a (i + j) ≤ℤ (a i +ℤ a j)
shifted a n some period h i j =
    let r = n - 1 in
    let first : a (i + r + 1) ≡ a i = ap a (omega arith) ∙ period i in
    let second : a (j + r + 1) ≡ a j = ap a (omega arith) ∙ period j in
    let both : a (i + r + (j + r) + 1 + 1) ≡ a (i + j) =
    ap a (omega arith) ∙ period (i + j + n) ∙ period (i + j) in
    let sum = h (i + r) (j + r) in
    omega (arith, ints)

-- ---- a function

-- what holds of the limits of a minimal function: n is the order, k the place and s the scale
pub record AreMinimalLimits (v : Limits ℤ) (n k s : ℕ) : Type 0 where
  pub zero : v.value 0 ≡ pos 0
  pub slack : (kind : FaceKind) (a b c : ℕ) → pos 0 ≤ℤ slack_at_corner v kind a b c
  pub values : (i : ℕ) → i < n → v.value i +ℤ v.value (k + (n - i)) ≡ pos s
  pub after_and_before : (i : ℕ) → i < n → v.right i +ℤ v.left (k + (n - i)) ≡ pos s
  pub before_and_after : (i : ℕ) → i < n → v.left (i + 1) +ℤ v.right (k + (n - (i + 1))) ≡ pos s

-- no limit of the slack is negative, and past the last corner there is none
every_limit : (g : FunctionData) → IsMinimal g → (kind : FaceKind) (a b c : ℕ) →
    pos 0 ≤ℤ get_or (limits_of g kind a b) c (pos 0)
every_limit g h kind a b c =
    ⊎_elim (slack_limit g h kind a b c)
    (λ past.
    let none : get_or (limits_of g kind a b) c (pos 0) ≡ pos 0 =
    get_or_past (limits_of g kind a b) c (pos 0) (omega (arith, limit_count g kind a b)) in
    omega (arith, ints))
    (cases_lt c (length (corners_of kind a b)))

pub limits_of_minimal : (g : FunctionData) → IsMinimal g →
    AreMinimalLimits (own_limits g) g.order g.place g.scale
limits_of_minimal g h = record {
  zero = passes_each g h zero_at_zero tt;
  slack = λ kind a b c.
      subst (λ z. pos 0 ≤ℤ z) (own_slack g kind a b c) (every_limit g h kind a b c);
  values = λ i below. passes_each g h (symmetric_at i) below;
  after_and_before = λ i below. (passes_each g h (symmetric_between i) below).0;
  before_and_after = λ i below. (passes_each g h (symmetric_between i) below).1;
}

module _ (g : FunctionData) (l : IsPiecewise g)
    (h : AreMinimalLimits (own_limits g) g.order g.place g.scale) where
  some : 0 < g.order
  some = omega (arith, l.order_low)

  from_slack : (x y z : ℤ) → pos 0 ≤ℤ slack_from x y z → z ≤ℤ (x +ℤ y)
  from_slack x y z low = omega (arith, ints)

  sign_at : (i : ℕ) → pos 0 ≤ℤ at g.value i
  sign_at =
      nonnegative_from_subadditive (at g.value) g.order some
      (λ i. at_plus_order g.value i g.order l.value_length)
      (λ i j. from_slack (at g.value i) (at g.value j) (at g.value (i + j)) (h.slack Vertex i j 0))

  sign_after : (i : ℕ) → pos 0 ≤ℤ at g.right i
  sign_after =
      nonnegative_from_subadditive (at g.right) g.order some
      (λ i. at_plus_order g.right i g.order l.right_length)
      (λ i j. from_slack (at g.right i) (at g.right j) (at g.right (i + j)) (h.slack Lower i j 0))

  sign_before : (i : ℕ) → pos 0 ≤ℤ at g.left i
  sign_before =
      let period = λ (i : ℕ). at_plus_order g.left i g.order l.left_length in
      nonnegative_from_subadditive (at g.left) g.order some period
      (shifted (at g.left) g.order some period (λ i j.
      from_slack (at g.left (i + 1)) (at g.left (j + 1)) (at g.left (i + j + 1 + 1))
      (h.slack Upper i j 2)))

  each : (t : Test) → IsTestOf g t → Passes g t
  each zero_at_zero i = h.zero
  each (nonnegative_at k) i = sign_at k
  each (nonnegative_after k) i = sign_after k
  each (nonnegative_before k) i = sign_before (k + 1)
  each (symmetric_at k) i = h.values k i
  each (symmetric_between k) i = (h.after_and_before k i, h.before_and_after k i)
  each (subadditive_at kind a b c) i =
      subst (λ z. pos 0 ≤ℤ z) (sym (own_slack g kind a b c)) (h.slack kind a b c)

  pub minimal_from_limits : IsMinimal g
  minimal_from_limits = minimal_by_tests g l (each_test g (Passes g) each)
