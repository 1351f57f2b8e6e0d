-- Additive edges carry a constant step, and additive triangles give one.
use Rattle.std.proofs.Common.{◌≡◌, ℕ, ◌+◌, ◌-◌, ◌*◌, ◌/◌, ◌%◌, ◌<◌, ◌≤◌, ℤ, pos, ◌+ℤ◌, List, [], ◌∷◌, All, Any, ap, sym, subst, ◌∙◌, arith}
use Rattle.std.proofs.lemmas.Int.{ints}
use Rattle.std.proofs.lemmas.List.Elements.{All-nil}
use Rattle.gj_lemmas.proofs.Integers.{add_comm_z}
use Rattle.gj_lemmas.proofs.Lists.{All-two, All-three}
use Rattle.gj_lemmas.proofs.Quotients.{same_remainder, from_same_remainder, same_at_remainder}
use Rattle.gj_shape.specs.Additive.{IsTight, IsAdditive, IsInFace}
use Rattle.gj_shape.specs.Cover.{IsOneOf, links_of, triangle_projections}
use Rattle.gj_shape.specs.FunctionData.{FunctionData, IsContinuous}
use Rattle.gj_shape.specs.declared.faces.FaceKind.{FaceKind}
use Rattle.gj_shape.specs.declared.faces.FaceKind.TheVariants.{Vertex, Horizontal, Vertical, Diagonal, Lower, Upper}
use Rattle.gj_theory.specs.Steps.{HasStep, HasStepOn, IsAdditiveOnGrid}
use Rattle.gj_theory.proofs.IntervalLemma.{step_on_lower, step_on_upper}
use Rattle.gj_theory.proofs.TightFaces.{tight_in_face}

-- ---- elements of short lists

-- what holds of all elements holds of one that has another property
pub all_of_any : {A : Type 0} (P Q : A → Type 0) (xs : List A) → All P xs → Any Q xs →
    (x : A) × P x × Q x
all_of_any P Q xs all some = (some.1, subst P some.3 (all some.0 some.1 some.2), some.4)

-- ---- intervals modulo the order

-- the places of two intervals that are one modulo the order
pub same_place : (x y q m k u v : ℕ) → x % q ≡ y % q → u ≡ x * m + k → v ≡ y * m + k →
    u % (q * m) ≡ v % (q * m)
same_place x y q m k u v e first second =
    let same = ap (λ n. n * m) (from_same_remainder x y q e) in
    same_remainder u v (y / q) (x / q) (q * m) (omega arith)

-- a step on an interval is one on the interval modulo the order
pub step_modulo : (p : ℕ → ℤ) (q m x y : ℕ) (t : ℤ) → ((i : ℕ) → p (i + q * m) ≡ p i) →
    x % q ≡ y % q →
    HasStepOn p m x t → HasStepOn p m y t
step_modulo p q m x y t period e step i low =
    let first = same_at_remainder p (q * m) period (x * m + i) (y * m + i)
    (same_place x y q m i (x * m + i) (y * m + i) e (omega arith) (omega arith)) in
    let second = same_at_remainder p (q * m) period (x * m + i + 1) (y * m + i + 1)
    (same_place x y q m (i + 1) (x * m + i + 1) (y * m + i + 1) e (omega arith) (omega arith)) in
    let steps = step i low in
    omega (arith, ints)

-- ---- runs that go along with each other, and against each other

in_step : (p : ℕ → ℤ) (x y m : ℕ) (c t : ℤ) →
    ((i u v : ℕ) → i ≤ m → u ≡ x + i → v ≡ y + i → p u +ℤ c ≡ p v) → HasStep p x m t →
    HasStep p y m t
in_step p x y m c t same step i low =
    let first = same i (x + i) (y + i) (omega arith) (omega arith) (omega arith) in
    let second = same (i + 1) (x + i + 1) (y + i + 1) (omega arith) (omega arith) (omega arith) in
    let steps = step i low in
    omega (arith, ints)

in_step_back : (p : ℕ → ℤ) (x y m : ℕ) (c t : ℤ) →
    ((i u v : ℕ) → i ≤ m → u ≡ x + i → v ≡ y + i → p u +ℤ c ≡ p v) → HasStep p y m t →
    HasStep p x m t
in_step_back p x y m c t same step i low =
    let first = same i (x + i) (y + i) (omega arith) (omega arith) (omega arith) in
    let second = same (i + 1) (x + i + 1) (y + i + 1) (omega arith) (omega arith) (omega arith) in
    let steps = step i low in
    omega (arith, ints)

against : (p : ℕ → ℤ) (x y m : ℕ) (c t : ℤ) →
    ((i j u v : ℕ) → i + j ≡ m → u ≡ x + i → v ≡ y + j → p u +ℤ p v ≡ c) → HasStep p x m t →
    HasStep p y m t
against p x y m c t same step j low =
    let i = m - (j + 1) in
    let first = same i (j + 1) (x + i) (y + j + 1) (omega arith) (omega arith) (omega arith) in
    let second = same (i + 1) j (x + i + 1) (y + j) (omega arith) (omega arith) (omega arith) in
    let steps = step i (omega arith) in
    omega (arith, ints)

-- ---- additive faces

-- the table is additive on an additive face, in the plane
additive_on : (f : FunctionData) (m : ℕ) (p : ℕ → ℤ) (kind : FaceKind) (a b u v w : ℕ) →
    IsContinuous f → 0 < m →
    IsAdditiveOnGrid f m p → IsAdditive (IsTight f) kind a b → IsInFace m kind a b u v → w ≡ u + v →
    p u +ℤ p v ≡ p w
additive_on f m p kind a b u v w continuous some h face inside sum =
    h.additive u v (tight_in_face f m kind a b u v continuous some face inside) ∙ ap p (sym sum)

-- a step on each of two intervals from a step on one of the two
from_either : (p : ℕ → ℤ) (q m x y i : ℕ) (t : ℤ) → ((k : ℕ) → p (k + q * m) ≡ p k) →
    (HasStepOn p m x t → HasStepOn p m y t) → (HasStepOn p m y t → HasStepOn p m x t) →
    IsOneOf q (x ∷ y ∷ []) i → HasStepOn p m i t → All (λ z. HasStepOn p m z t) (x ∷ y ∷ [])
from_either p q m x y i t period to back one step =
    let Both : Type 0 = All (λ z. HasStepOn p m z t) (x ∷ y ∷ []) in
    let each = All-two (λ z. HasStepOn p m z t → Both) x y
    (λ s. All-two (λ z. HasStepOn p m z t) x y s (to s))
    (λ s. All-two (λ z. HasStepOn p m z t) x y (back s) s) in
    let found = all_of_any (λ z. HasStepOn p m z t → Both) (λ z. z % q ≡ i % q)
    (x ∷ y ∷ []) each one in
    found.1 (step_modulo p q m i found.0 t period (sym found.2) step)

-- a step on one of the intervals that an additive edge links is one on both
step_on_links : (f : FunctionData) (m : ℕ) (p : ℕ → ℤ) (kind : FaceKind) (a b i : ℕ) (t : ℤ) →
    IsContinuous f → 0 < m →
    IsAdditiveOnGrid f m p → IsAdditive (IsTight f) kind a b →
    IsOneOf f.order (links_of kind a b) i →
    HasStepOn p m i t → All (λ z. HasStepOn p m z t) (links_of kind a b)
step_on_links f m p Horizontal a b i t continuous some h face one step =
    let same = λ (k u v : ℕ) (low : k ≤ m) (e : u ≡ a * m + k) (g : v ≡ (a + b) * m + k).
    additive_on f m p Horizontal a b u (b * m) v continuous some h face
    (omega arith, omega arith, omega arith) (omega arith) in
    from_either p f.order m a (a + b) i t h.has_period
    (in_step p (a * m) ((a + b) * m) m (p (b * m)) t same)
    (in_step_back p (a * m) ((a + b) * m) m (p (b * m)) t same) one step
step_on_links f m p Vertical a b i t continuous some h face one step =
    let same = λ (k u v : ℕ) (low : k ≤ m) (e : u ≡ b * m + k) (g : v ≡ (a + b) * m + k).
    add_comm_z (p u) (p (a * m)) ∙ additive_on f m p Vertical a b (a * m) u v continuous some h face
    (omega arith, omega arith, omega arith) (omega arith) in
    from_either p f.order m b (a + b) i t h.has_period
    (in_step p (b * m) ((a + b) * m) m (p (a * m)) t same)
    (in_step_back p (b * m) ((a + b) * m) m (p (a * m)) t same) one step
step_on_links f m p Diagonal a b i t continuous some h face one step =
    let same = λ (k l u v : ℕ) (whole : k + l ≡ m) (e : u ≡ a * m + k) (g : v ≡ b * m + l).
    additive_on f m p Diagonal a b u v ((a + b + 1) * m) continuous some h face
    (omega arith, omega arith, omega arith) (omega arith) in
    let turned = λ (l k v u : ℕ) (whole : l + k ≡ m) (g : v ≡ b * m + l) (e : u ≡ a * m + k).
    add_comm_z (p v) (p u) ∙ same k l u v (omega arith) e g in
    from_either p f.order m a b i t h.has_period
    (against p (a * m) (b * m) m (p ((a + b + 1) * m)) t same)
    (against p (b * m) (a * m) m (p ((a + b + 1) * m)) t turned) one step
step_on_links f m p Vertex a b i t continuous some h face one step =
    All-nil (λ z. HasStepOn p m z t)
step_on_links f m p Lower a b i t continuous some h face one step = All-nil (λ z. HasStepOn p m z t)
step_on_links f m p Upper a b i t continuous some h face one step = All-nil (λ z. HasStepOn p m z t)

pub carried_by_edge : (f : FunctionData) (m : ℕ) (p : ℕ → ℤ) (kind : FaceKind) (a b i j : ℕ)
    (t : ℤ) →
    IsContinuous f → 0 < m → IsAdditiveOnGrid f m p → IsAdditive (IsTight f) kind a b →
    IsOneOf f.order (links_of kind a b) i → IsOneOf f.order (links_of kind a b) j →
    HasStepOn p m i t → HasStepOn p m j t
carried_by_edge f m p kind a b i j t continuous some h face first second step =
    let both = step_on_links f m p kind a b i t continuous some h face first step in
    let found = all_of_any (λ z. HasStepOn p m z t) (λ z. z % f.order ≡ j % f.order)
    (links_of kind a b) both second in
    step_modulo p f.order m found.0 j t h.has_period found.2 found.1

-- the step on the projections of a triangle
step_on_projections : (f : FunctionData) (m : ℕ) (p : ℕ → ℤ) (kind : FaceKind) (a b : ℕ) →
    IsContinuous f → 0 < m →
    IsAdditiveOnGrid f m p → IsAdditive (IsTight f) kind a b →
    (t : ℤ) × All (λ z. HasStepOn p m z t) (triangle_projections kind a b)
step_on_projections f m p Lower a b continuous some h face =
    let additive = λ (i j : ℕ) (low : i + j ≤ m).
    additive_on f m p Lower a b (a * m + i) (b * m + j) (a * m + b * m + i + j) continuous some h
    face
    (omega arith, omega arith, omega arith) (omega arith) in
    let steps = step_on_lower p (a * m) (b * m) m additive in
    let sum : a * m + b * m ≡ (a + b) * m = omega arith in (
      steps.0,
      All-three (λ z. HasStepOn p m z steps.0) a b (a + b) steps.1 steps.2
          (subst (λ (x : ℕ). HasStep p x m steps.0) sum steps.3),
    )
step_on_projections f m p Upper a b continuous some h face =
    let additive = λ (i j : ℕ) (i_low : i ≤ m) (j_low : j ≤ m) (high : m ≤ i + j).
    additive_on f m p Upper a b (a * m + i) (b * m + j) (a * m + b * m + i + j) continuous some h
    face
    (omega arith, omega arith, omega arith) (omega arith) in
    let steps = step_on_upper p (a * m) (b * m) m additive in
    let sum : a * m + b * m + m ≡ (a + b + 1) * m = omega arith in (
      steps.0,
      All-three (λ z. HasStepOn p m z steps.0) a b (a + b + 1) steps.1 steps.2
          (subst (λ (x : ℕ). HasStep p x m steps.0) sum steps.3),
    )
step_on_projections f m p Vertex a b continuous some h face =
    (pos 0, All-nil (λ z. HasStepOn p m z (pos 0)))
step_on_projections f m p Horizontal a b continuous some h face =
    (pos 0, All-nil (λ z. HasStepOn p m z (pos 0)))
step_on_projections f m p Vertical a b continuous some h face =
    (pos 0, All-nil (λ z. HasStepOn p m z (pos 0)))
step_on_projections f m p Diagonal a b continuous some h face =
    (pos 0, All-nil (λ z. HasStepOn p m z (pos 0)))

pub given_by_triangle : (f : FunctionData) (m : ℕ) (p : ℕ → ℤ) (kind : FaceKind) (a b : ℕ) →
    IsContinuous f → 0 < m → IsAdditiveOnGrid f m p → IsAdditive (IsTight f) kind a b →
    (t : ℤ) × ((i : ℕ) → IsOneOf f.order (triangle_projections kind a b) i → HasStepOn p m i t)
given_by_triangle f m p kind a b continuous some h face =
    let steps = step_on_projections f m p kind a b continuous some h face in (
      steps.0,
      λ i one.
          let found = all_of_any (λ z. HasStepOn p m z steps.0) (λ z. z % f.order ≡ i % f.order)
          (triangle_projections kind a b) steps.1 one in
          step_modulo p f.order m found.0 i steps.0 h.has_period found.2 found.1,
    )
