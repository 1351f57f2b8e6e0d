-- A function has one first violation.
use Rattle.std.proofs.Common.{◌≡◌, ℕ, inl, inr, ◌+◌, ◌-◌, ◌*◌, ◌<◌, pos, length, sym, ap, ap₂, subst, ◌∙◌, mul-pos, arith}
use Rattle.std.specs.Prelude.{All}
use Rattle.std.proofs.lemmas.Bool.{cases_lt}
use Rattle.gj_frac.specs.declared.Frac.{Frac}
use Rattle.gj_frac.proofs.SameValues.{same_from_is}
use Rattle.gj_lemmas.proofs.FirstThatFails.{one_first_failing}
use Rattle.gj_lemmas.proofs.Lists.{All-front}
use Rattle.gj_shape.specs.Faces.{corners_of}
use Rattle.gj_shape.specs.FirstViolation.{Test, Passes, tests_of, IsLeastFrom, IsOnGrid, IsNegativeOnGrid, IsSuperadditiveOnGrid, near, first_coordinates, second_coordinates, Shows, IsFirstViolation}
use Rattle.gj_shape.specs.FirstViolation.Test.{zero_at_zero, nonnegative_at, nonnegative_after, nonnegative_before, symmetric_at, symmetric_between, subadditive_at}
use Rattle.gj_shape.specs.FunctionData.{FunctionData, IsWithinBounds}
use Rattle.gj_shape.specs.declared.faces.FaceKind.{FaceKind}
use Rattle.gj_shape.specs.declared.faces.FaceKind.TheVariants.{Vertex, Horizontal, Vertical, Diagonal, Lower, Upper}
use Rattle.gj_shape.specs.declared.violations.Violation.{Violation}
use Rattle.gj_shape.specs.declared.violations.Violation.TheVariants as violation

one_least : (m : ℕ) (P : ℕ → Type 0) (a b : ℕ) → IsLeastFrom m P a → IsLeastFrom m P b → a ≡ b
one_least m P a b h k = elim (cases_lt a b) [
  | inl less ↦ absurd (k.least a h.from less h.holds)
  | inr more ↦ elim (cases_lt b a) [
    | inl less ↦ absurd (h.least b k.from less k.holds)
    | inr same ↦ omega arith
  ]
]

-- a point of a grid is one number
one_point : (f : FunctionData) (h n : ℕ) (x y : Frac) → IsWithinBounds f → 0 < h →
    IsOnGrid f h n x → IsOnGrid f h n y → x ≡ y
one_point f h n x y l some first second =
    let above : 0 < f.order * h = mul-pos (omega (arith, l.order_low)) some in
    same_from_is x y (pos n) (pos (f.order * h)) (λ e. let none : f.order * h ≡ 0 = e in
    absurd (omega arith)) first second

-- a face has corners
corners_some : (kind : FaceKind) (a b : ℕ) → 0 < length (corners_of kind a b)
corners_some Vertex a b = omega arith
corners_some Horizontal a b = omega arith
corners_some Vertical a b = omega arith
corners_some Diagonal a b = omega arith
corners_some Lower a b = omega arith
corners_some Upper a b = omega arith

-- a test that fails shows one violation
one_shown : (f : FunctionData) (t : Test) (v w : Violation) → IsWithinBounds f → Shows f t v →
    Shows f t w → v ≡ w
one_shown f zero_at_zero v w l e g = e ∙ sym g
one_shown f (nonnegative_at i) v w l (x, on, e) (y, at, g) =
    e ∙ ap violation.Negative (one_point f 1 i x y l (omega arith) on at) ∙ sym g
one_shown f (nonnegative_after i) v w l (h, x, least, on, e) (k, y, lowest, at, g) =
    let same = one_least 2 (λ n. IsNegativeOnGrid f n (i * n + 1)) h k least lowest in
    let some = least.from in
    e ∙ ap violation.Negative
    (one_point f h (i * h + 1) x y l (omega arith) on
    (subst (λ (n : ℕ). IsOnGrid f n (i * n + 1) y) (sym same) at))
    ∙ sym g
one_shown f (nonnegative_before i) v w l (h, x, least, on, e) (k, y, lowest, at, g) =
    let same = one_least 2 (λ n. IsNegativeOnGrid f n (i * n + n - 1)) h k least lowest in
    let some = least.from in
    e ∙ ap violation.Negative
    (one_point f h (i * h + h - 1) x y l (omega arith) on
    (subst (λ (n : ℕ). IsOnGrid f n (i * n + n - 1) y) (sym same) at))
    ∙ sym g
one_shown f (symmetric_at i) v w l (x, on, e) (y, at, g) =
    e ∙ ap violation.Asymmetric (one_point f 1 i x y l (omega arith) on at) ∙ sym g
one_shown f (symmetric_between i) v w l (x, e, inl h) (y, g, inl k) =
    e ∙ ap violation.Asymmetric (one_point f 2 (2 * i + 1) x y l (omega arith) h.1 k.1) ∙ sym g
one_shown f (symmetric_between i) v w l (x, e, inl h) (y, g, inr k) = absurd (h.0 k.0)
one_shown f (symmetric_between i) v w l (x, e, inr h) (y, g, inl k) = absurd (k.0 h.0)
one_shown f (symmetric_between i) v w l (x, e, inr h) (y, g, inr k) =
    e ∙ ap violation.Asymmetric (one_point f 4 (4 * i + 1) x y l (omega arith) h.1 k.1) ∙ sym g
one_shown f (subadditive_at kind a b c) v w l h k =
    let same =
    one_least (length (corners_of kind a b))
    (λ n. IsSuperadditiveOnGrid f n (near n c (first_coordinates kind a b))
    (near n c (second_coordinates kind a b))) h.h k.h h.least
    k.least in
    let corners = corners_some kind a b in
    let from = h.least.from in
    let some : 0 < h.h = omega arith in
    let first = one_point f h.h (near h.h c (first_coordinates kind a b)) h.x k.x l some h.first
    (subst (λ (n : ℕ). IsOnGrid f n (near n c (first_coordinates kind a b)) k.x)
    (sym same) k.first) in
    let second = one_point f h.h (near h.h c (second_coordinates kind a b)) h.y k.y l some h.second
    (subst (λ (n : ℕ). IsOnGrid f n (near n c (second_coordinates kind a b)) k.y)
    (sym same) k.second) in
    h.shown ∙ ap₂ violation.Superadditive first second ∙ sym k.shown

pub one_violation : (f : FunctionData) (v w : Violation) → IsWithinBounds f → IsFirstViolation f v →
    IsFirstViolation f w → v ≡ w
one_violation f v w l h k =
    let same = (one_first_failing (All (Passes f)) (All-front (Passes f))
    (tests_of f) h.before k.before h.test k.test h.first k.first).1 in
    one_shown f k.test v w l (subst (λ (t : Test). Shows f t v) same h.shows) k.shows
