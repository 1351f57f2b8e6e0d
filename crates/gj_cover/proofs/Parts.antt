-- Additive faces by their corners, and the intervals of a face one by one.
use Rattle.std.proofs.Common.{◌≡◌, ℕ, zero, suc, ◌⊎◌, ◌+◌, ◌%◌, List, [], ◌∷◌, ◌++◌, refl, sym, ap, ◌∙◌, subst, inl, inr, arith}
use Rattle.std.specs.List.{Any}
use Rattle.std.proofs.Math.Nat.{add-mod}
use Rattle.gj_lemmas.proofs.Lists.{All-one, All-two, All-three}
use Rattle.gj_shape.specs.Additive.{IsAdditive}
use Rattle.gj_shape.specs.Cover.{IsOneOf, links_of, triangle_projections}
use Rattle.gj_shape.specs.declared.faces.FaceKind.{FaceKind}
use Rattle.gj_shape.specs.declared.faces.FaceKind.TheVariants.{Vertex, Horizontal, Vertical, Diagonal, Lower, Upper}
use Rattle.gj_faces.proofs.Periods.{same_sum}

-- ---- the corners

-- the corners of the face one by one
abbrev pub Corners : (ℕ → ℕ → Type 0) → FaceKind → ℕ → ℕ → Type 0
Corners T Vertex a b = T a b
Corners T Horizontal a b = T a b × T (a + 1) b
Corners T Vertical a b = T a b × T a (b + 1)
Corners T Diagonal a b = T (a + 1) b × T a (b + 1)
Corners T Lower a b = T a b × T (a + 1) b × T a (b + 1)
Corners T Upper a b = T (a + 1) b × T a (b + 1) × T (a + 1) (b + 1)

pub corners : (T : ℕ → ℕ → Type 0) (kind : FaceKind) (a b : ℕ) → IsAdditive T kind a b →
    Corners T kind a b
corners T Vertex a b h = h 0 (0, 0) (omega arith)
corners T Horizontal a b h = (h 0 (0, 0) (omega arith), h 1 (0, 0) (omega arith))
corners T Vertical a b h = (h 0 (0, 0) (omega arith), h 1 (0, 0) (omega arith))
corners T Diagonal a b h = (h 0 (0, 0) (omega arith), h 1 (0, 0) (omega arith))
corners T Lower a b h =
    (h 0 (0, 0) (omega arith), h 1 (0, 0) (omega arith), h 2 (0, 0) (omega arith))
corners T Upper a b h =
    (h 0 (0, 0) (omega arith), h 1 (0, 0) (omega arith), h 2 (0, 0) (omega arith))

pub additive : (T : ℕ → ℕ → Type 0) (kind : FaceKind) (a b : ℕ) → Corners T kind a b →
    IsAdditive T kind a b
additive T Vertex a b h = All-one (λ c. T c.0 c.1) (a, b) h
additive T Horizontal a b h = All-two (λ c. T c.0 c.1) (a, b) (a + 1, b) h.0 h.1
additive T Vertical a b h = All-two (λ c. T c.0 c.1) (a, b) (a, b + 1) h.0 h.1
additive T Diagonal a b h = All-two (λ c. T c.0 c.1) (a + 1, b) (a, b + 1) h.0 h.1
additive T Lower a b h = All-three (λ c. T c.0 c.1) (a, b) (a + 1, b) (a, b + 1) h.0 h.1 h.2
additive T Upper a b h = All-three (λ c. T c.0 c.1) (a + 1, b) (a, b + 1) (a + 1, b + 1) h.0 h.1 h.2

-- ---- relations of pairs modulo q

-- the relation does not see more of two numbers than their rests
abbrev pub HasPeriod : ℕ → (ℕ → ℕ → Type 0) → Type 0
HasPeriod q T = (i j k l : ℕ) → i % q ≡ k % q → j % q ≡ l % q → T i j → T k l

-- equal rests stay equal if the same is added
pub add_same : (q x a b : ℕ) → a % q ≡ b % q → (a + x) % q ≡ (b + x) % q
add_same q x a b e = add-mod a x q ∙ ap (λ n. (n + x % q) % q) e ∙ sym (add-mod b x q)

pub corners_same : (q : ℕ) (T : ℕ → ℕ → Type 0) → HasPeriod q T → (kind : FaceKind) (a b c d : ℕ) →
    a % q ≡ c % q → b % q ≡ d % q → Corners T kind a b → Corners T kind c d
corners_same q T p Vertex a b c d e g h = p a b c d e g h
corners_same q T p Horizontal a b c d e g h =
    (p a b c d e g h.0, p (a + 1) b (c + 1) d (add_same q 1 a c e) g h.1)
corners_same q T p Vertical a b c d e g h =
    (p a b c d e g h.0, p a (b + 1) c (d + 1) e (add_same q 1 b d g) h.1)
corners_same q T p Diagonal a b c d e g h = (
  p (a + 1) b (c + 1) d (add_same q 1 a c e) g h.0,
  p a (b + 1) c (d + 1) e
      (add_same q 1 b d g) h.1,
)
corners_same q T p Lower a b c d e g h = (
  p a b c d e g h.0,
  p (a + 1) b (c + 1) d (add_same q 1 a c e) g h.1,
  p a (b + 1) c (d + 1) e (add_same q 1 b d g) h.2,
)
corners_same q T p Upper a b c d e g h = (
  p (a + 1) b (c + 1) d (add_same q 1 a c e) g h.0,
  p a (b + 1) c (d + 1) e (add_same q 1 b d g) h.1,
  p (a + 1) (b + 1) (c + 1) (d + 1) (add_same q 1 a c e) (add_same q 1 b d g) h.2,
)

-- ---- the intervals of a face

abbrev pub Intervals : ℕ → FaceKind → ℕ → ℕ → ℕ → Type 0
Intervals q Vertex a b i = ⊥
Intervals q Horizontal a b i = (a % q ≡ i % q) ⊎ ((a + b) % q ≡ i % q)
Intervals q Vertical a b i = (b % q ≡ i % q) ⊎ ((a + b) % q ≡ i % q)
Intervals q Diagonal a b i = (a % q ≡ i % q) ⊎ (b % q ≡ i % q)
Intervals q Lower a b i = (a % q ≡ i % q) ⊎ ((b % q ≡ i % q) ⊎ ((a + b) % q ≡ i % q))
Intervals q Upper a b i = (a % q ≡ i % q) ⊎ ((b % q ≡ i % q) ⊎ ((a + b + 1) % q ≡ i % q))

pub any_none : {X : Type 0} (P : X → Type 0) → Any P [] → ⊥
any_none P (k, x, below, is, h) = omega arith

-- what holds of some element of a list holds of its head or of some element behind
pub any_cases : {X : Type 0} (P : X → Type 0) (x : X) (xs : List X) → Any P (x ∷ xs) →
    P x ⊎ Any P xs
any_cases P x xs (zero, y, below, is, h) = inl (subst P (sym is) h)
any_cases P x xs (suc k, y, below, is, h) = inr (k, y, omega arith, is, h)

pub any_here : {X : Type 0} (P : X → Type 0) (x : X) (xs : List X) → P x → Any P (x ∷ xs)
any_here P x xs h = (0, x, omega arith, refl, h)

pub any_there : {X : Type 0} (P : X → Type 0) (x : X) (xs : List X) → Any P xs → Any P (x ∷ xs)
any_there P x xs (k, y, below, is, h) = (suc k, y, omega arith, is, h)

pairs : {X : Type 0} (P : X → Type 0) (x y : X) → Any P (x ∷ y ∷ []) → P x ⊎ P y
pairs P x y h = elim (any_cases P x (y ∷ []) h) [
  | inl k ↦ inl k
  | inr k ↦ elim (any_cases P y [] k) [ inl l ↦ inr l | inr l ↦ absurd (any_none P l) ]
]

triples : {X : Type 0} (P : X → Type 0) (x y z : X) → Any P (x ∷ y ∷ z ∷ []) → P x ⊎ (P y ⊎ P z)
triples P x y z h = elim (any_cases P x (y ∷ z ∷ []) h)
    [ inl k ↦ inl k | inr k ↦ inr (pairs P y z k) ]

of_pair : {X : Type 0} (P : X → Type 0) (x y : X) → P x ⊎ P y → Any P (x ∷ y ∷ [])
of_pair P x y (inl h) = any_here P x (y ∷ []) h
of_pair P x y (inr h) = any_there P x (y ∷ []) (any_here P y [] h)

of_triple : {X : Type 0} (P : X → Type 0) (x y z : X) → P x ⊎ (P y ⊎ P z) → Any P (x ∷ y ∷ z ∷ [])
of_triple P x y z (inl h) = any_here P x (y ∷ z ∷ []) h
of_triple P x y z (inr h) = any_there P x (y ∷ z ∷ []) (of_pair P y z h)

pub intervals : (q : ℕ) (kind : FaceKind) (a b i : ℕ) →
    IsOneOf q (links_of kind a b ++ triangle_projections kind a b) i → Intervals q kind a b i
intervals q Vertex a b i h = any_none (λ c. c % q ≡ i % q) h
intervals q Horizontal a b i h = pairs (λ c. c % q ≡ i % q) a (a + b) h
intervals q Vertical a b i h = pairs (λ c. c % q ≡ i % q) b (a + b) h
intervals q Diagonal a b i h = pairs (λ c. c % q ≡ i % q) a b h
intervals q Lower a b i h = triples (λ c. c % q ≡ i % q) a b (a + b) h
intervals q Upper a b i h = triples (λ c. c % q ≡ i % q) a b (a + b + 1) h

pub one_of : (q : ℕ) (kind : FaceKind) (a b i : ℕ) → Intervals q kind a b i →
    IsOneOf q (links_of kind a b ++ triangle_projections kind a b) i
one_of q Vertex a b i h = absurd h
one_of q Horizontal a b i h = of_pair (λ c. c % q ≡ i % q) a (a + b) h
one_of q Vertical a b i h = of_pair (λ c. c % q ≡ i % q) b (a + b) h
one_of q Diagonal a b i h = of_pair (λ c. c % q ≡ i % q) a b h
one_of q Lower a b i h = of_triple (λ c. c % q ≡ i % q) a b (a + b) h
one_of q Upper a b i h = of_triple (λ c. c % q ≡ i % q) a b (a + b + 1) h

-- a triangle, which links no intervals
abbrev pub IsTriangle : FaceKind → Type 0
IsTriangle Lower = Unit {0}
IsTriangle Upper = Unit {0}
IsTriangle kind = ⊥

pub covered_one : (q : ℕ) (kind : FaceKind) (a b i : ℕ) →
    IsOneOf q (triangle_projections kind a b) i →
    IsTriangle kind × Intervals q kind a b i
covered_one q Vertex a b i h = absurd (any_none (λ c. c % q ≡ i % q) h)
covered_one q Horizontal a b i h = absurd (any_none (λ c. c % q ≡ i % q) h)
covered_one q Vertical a b i h = absurd (any_none (λ c. c % q ≡ i % q) h)
covered_one q Diagonal a b i h = absurd (any_none (λ c. c % q ≡ i % q) h)
covered_one q Lower a b i h = (tt, triples (λ c. c % q ≡ i % q) a b (a + b) h)
covered_one q Upper a b i h = (tt, triples (λ c. c % q ≡ i % q) a b (a + b + 1) h)

pub one_covered : (q : ℕ) (kind : FaceKind) (a b i : ℕ) → IsTriangle kind → Intervals q kind a b i →
    IsOneOf q (triangle_projections kind a b) i
one_covered q Vertex a b i t h = absurd t
one_covered q Horizontal a b i t h = absurd t
one_covered q Vertical a b i t h = absurd t
one_covered q Diagonal a b i t h = absurd t
one_covered q Lower a b i t h = of_triple (λ c. c % q ≡ i % q) a b (a + b) h
one_covered q Upper a b i t h = of_triple (λ c. c % q ≡ i % q) a b (a + b + 1) h

-- the same intervals at equal rests
pub either : {A B C D : Type 0} → (A → C) → (B → D) → A ⊎ B → C ⊎ D
either f g (inl x) = inl (f x)
either f g (inr x) = inr (g x)

pub intervals_same : (q : ℕ) (kind : FaceKind) (a b c d i : ℕ) → a % q ≡ c % q → b % q ≡ d % q →
    Intervals q kind a b i → Intervals q kind c d i
intervals_same q Vertex a b c d i e g h = h
intervals_same q Horizontal a b c d i e g h =
    either (λ x. sym e ∙ x) (λ x. sym (same_sum q a b c d e g) ∙ x) h
intervals_same q Vertical a b c d i e g h =
    either (λ x. sym g ∙ x) (λ x. sym (same_sum q a b c d e g) ∙ x) h
intervals_same q Diagonal a b c d i e g h = either (λ x. sym e ∙ x) (λ x. sym g ∙ x) h
intervals_same q Lower a b c d i e g h =
    either (λ x. sym e ∙ x) (either (λ x. sym g ∙ x) (λ x. sym (same_sum q a b c d e g) ∙ x)) h
intervals_same q Upper a b c d i e g h =
    either (λ x. sym e ∙ x)
    (either (λ x. sym g ∙ x) (λ x. sym (add_same q 1 (a + b) (c + d) (same_sum q a b c d e g)) ∙ x))
    h

-- the same of an interval with an equal rest
pub interval_same : (q : ℕ) (kind : FaceKind) (a b i j : ℕ) → i % q ≡ j % q →
    Intervals q kind a b i → Intervals q kind a b j
interval_same q Vertex a b i j e h = h
interval_same q Horizontal a b i j e h = either (λ x. x ∙ e) (λ x. x ∙ e) h
interval_same q Vertical a b i j e h = either (λ x. x ∙ e) (λ x. x ∙ e) h
interval_same q Diagonal a b i j e h = either (λ x. x ∙ e) (λ x. x ∙ e) h
interval_same q Lower a b i j e h = either (λ x. x ∙ e) (either (λ x. x ∙ e) (λ x. x ∙ e)) h
interval_same q Upper a b i j e h = either (λ x. x ∙ e) (either (λ x. x ∙ e) (λ x. x ∙ e)) h
