-- A continuous function is minimal if the table on its own grid is.
use Rattle.std.proofs.Common.{◌≡◌, ℕ, ◌+◌, ◌-◌, ◌%◌, ◌<◌, ℤ, pos, ◌≤ℤ◌, length, get_or, map, ap, sym, subst, ◌∙◌, arith}
use Rattle.std.proofs.Math.Nat.{mul-one, add-mod_right}
use Rattle.std.proofs.lemmas.Int.{ints}
use Rattle.std.proofs.lemmas.List.{get_or-map}
use Rattle.gj_shape.specs.FunctionData.{FunctionData, IsWithinBounds, IsContinuous, at}
use Rattle.gj_shape.specs.Faces.{corners_of, limits_of}
use Rattle.gj_shape.specs.FirstViolation.{Test, Passes}
use Rattle.gj_shape.specs.FirstViolation.Test.{zero_at_zero, nonnegative_at, nonnegative_after, nonnegative_before, symmetric_at, symmetric_between, subadditive_at}
use Rattle.gj_shape.specs.Table.{table, IsMinimalTable, IsMinimalOnGrid, IsMinimal}
use Rattle.gj_shape.specs.declared.faces.FaceKind.{FaceKind}
use Rattle.gj_shape.proofs.TableLemmas.{table_of_order, slack_at, limits_are_slacks}
use Rattle.gj_theory.specs.EarlierTests.{IsTestOf}
use Rattle.gj_theory.proofs.EachTest.{each_test}
use Rattle.gj_theory.proofs.MinimalFromTests.{minimal_from_tests}

-- a minimal table may be replaced by one with the same entries
pub same_minimal_table : (t u : ℕ → ℤ) (n k s : ℕ) → ((i : ℕ) → u i ≡ t i) →
    IsMinimalTable t n k s → IsMinimalTable u n k s
same_minimal_table t u n k s e h = record {
  has_period = λ i. e (i + n) ∙ h.has_period i ∙ sym (e i);
  zero_at_zero = e 0 ∙ h.zero_at_zero;
  nonnegative = λ i. rw (e i) (h.nonnegative i);
  subadditive = λ i j. rw (e (i + j), e i, e j) (h.subadditive i j);
  symmetric = λ i j opposite. rw (e i, e j) (h.symmetric i j opposite);
}

-- the values of a function are its table on its own grid
abbrev pub HasMinimalValues : FunctionData → Type 0
HasMinimalValues f = IsMinimalTable (at f.value) f.order f.place f.scale

pub own_values : (f : FunctionData) → IsMinimalOnGrid f 1 → HasMinimalValues f
own_values f h =
    let t = rw (mul-one f.order, mul-one f.place, mul-one f.scale) at h in
    same_minimal_table (table f 1) (at f.value) f.order f.place f.scale
    (λ i. sym (table_of_order f i)) t

-- indices opposite to each other
opposite : (i k q : ℕ) → i < q + 1 → (i + (k + (q - i))) % q ≡ k % q
opposite i k q below =
    let whole : i + (k + (q - i)) ≡ k + q = omega arith in
    ap (λ x. x % q) whole ∙ add-mod_right k q

-- the limits of a continuous function are slacks of values
limit_passes : (f : FunctionData) → IsContinuous f → HasMinimalValues f →
    (kind : FaceKind) (a b c : ℕ) →
    c < length (corners_of kind a b) → Passes f (subadditive_at kind a b c)
limit_passes f continuous h kind a b c below =
    let corners = corners_of kind a b in
    let corner = get_or corners c (0, 0) in
    let slack : get_or (map (slack_at f) corners) c (pos 0) ≡ slack_at f corner =
    get_or-map (slack_at f) corners c (0, 0) (pos 0) below in
    let limit : get_or (limits_of f kind a b) c (pos 0) ≡ slack_at f corner =
    ap (λ l. get_or l c (pos 0)) (limits_are_slacks f kind a b continuous) ∙ slack in
    let whole = h.subadditive corner.0 corner.1 in
    subst (λ z. pos 0 ≤ℤ z) (sym limit) (omega (arith, ints, whole))

-- each test passes
test_passes : (f : FunctionData) → IsContinuous f → HasMinimalValues f → (t : Test) → IsTestOf f t →
    Passes f t
test_passes f c h zero_at_zero i = h.zero_at_zero
test_passes f c h (nonnegative_at i) below = h.nonnegative i
test_passes f c h (nonnegative_after i) below = simp (c.1) (h.nonnegative i)
test_passes f c h (nonnegative_before i) below = simp (c.0) (h.nonnegative (i + 1))
test_passes f c h (symmetric_at i) below =
    h.symmetric i (f.place + (f.order - i)) (opposite i f.place f.order (omega arith))
test_passes f c h (symmetric_between i) below = (
  simp (c.0, c.1) (h.symmetric i (f.place + (f.order - i))
      (opposite i f.place f.order (omega arith))),
  simp (c.0, c.1) (h.symmetric (i + 1) (f.place + (f.order - (i + 1)))
      (opposite (i + 1) f.place f.order (omega arith))),
)
test_passes f c h (subadditive_at kind a b corner) below =
    limit_passes f c h kind a b corner below.2

-- its table on every grid is minimal
pub minimal_from_own_grid : (f : FunctionData) → IsWithinBounds f → IsContinuous f →
    IsMinimalOnGrid f 1 → IsMinimal f
minimal_from_own_grid f l c h =
    minimal_from_tests f l (each_test f (Passes f) (test_passes f c (own_values f h)))
