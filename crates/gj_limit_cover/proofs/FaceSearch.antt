-- The first of the faces that join two intervals.
use Rattle.std.proofs.Common.{◌≡◌, ℕ, ◌+◌, ◌%◌, ◌<◌, ◌⊎◌, Bool, Option, Some, None, IfSome, IfNone, inl, inr, refl, sym, ap, subst, ◌∙◌, arith}
use Rattle.std.proofs.Math.Nat.{mod-lt, mod-eq_of_lt}
use Rattle.gj_cover.specs.FirstFound.{AddsFirst, IsFaceReached}
use Rattle.gj_cover.proofs.Adding.{EitherOf}
use Rattle.gj_cover.proofs.Edges.{is_it}
use Rattle.gj_cover.proofs.FirstFaces.{AreSteps, is_step, is_short, turned, turned_next}
use Rattle.gj_cover.proofs.WalkPlaces.{first_face}
use Rattle.gj_shape.specs.Cover.{IsFirstFace}
use Rattle.gj_shape.specs.declared.faces.Face.{Face}
use Rattle.gj_shape.specs.declared.faces.FaceKind.{FaceKind}
use Rattle.gj_shape.specs.declared.faces.FaceKind.TheVariants.{Vertex, Horizontal, Vertical, Diagonal, Lower, Upper}
use Rattle.gj_limit_cover.specs.FirstFaces.{LinksAs, IsOneOfThree, IsSquareBelow}
use Rattle.gj_limit_cover.specs.LimitCover.{LinksBy, JoinsAs}
use Rattle.gj_limit_cover.proofs.Complexes.{IsComplex}
use Rattle.gj_limit_cover.proofs.Reductions.{joins_reduced}

abbrev IsFrom : (FaceKind → ℕ → ℕ → Type 0) → (FaceKind → ℕ → ℕ → Type 0) → Option Face →
    Option Face → Type 0
IsFrom S P x y = IfSome y (λ f. (x ≡ Some f) ⊎ (S f.kind f.a f.b × P f.kind f.a f.b))

from_squares : (S P : FaceKind → ℕ → ℕ → Type 0) (q : ℕ) (x y : Option Face) →
    ((kind : FaceKind) (a b : ℕ) → S kind a b → IsSquareBelow q kind a b) →
    IsFrom S P x y → IsFrom (IsSquareBelow q) P x y
from_squares S P q x None on h = tt
from_squares S P q x (Some f) on (inl e) = inl e
from_squares S P q x (Some f) on (inr (at, p)) = inr (on f.kind f.a f.b at, p)

-- some faces are all of the complex that have the property
pub squares_added : (S P : FaceKind → ℕ → ℕ → Type 0) (q : ℕ) (x y : Option Face) →
    ((kind : FaceKind) (a b : ℕ) → S kind a b → IsSquareBelow q kind a b) →
    ((kind : FaceKind) (a b : ℕ) → a < q → b < q → P kind a b → S kind a b) → AddsFirst S P x y →
    AddsFirst (IsSquareBelow q) P x y
squares_added S P q x y on back h = record {
  from = from_squares S P q x y on h.from;
  behind = h.behind;
  first = λ kind a b (a_low, b_low) p. h.first kind a b (back kind a b a_low b_low p) p;
}

-- ---- the nine faces that may link i to j

abbrev pub IsOneOfNine : ℕ → ℕ → ℕ → ℕ → FaceKind → ℕ → ℕ → Type 0
IsOneOfNine i j step short =
    EitherOf (EitherOf (IsOneOfThree Horizontal i step i short) (IsOneOfThree Vertical step i short
    i))
    (IsOneOfThree Diagonal i j i j)

three_below : (q a b c d e f : ℕ) (kind other : FaceKind) → a < q → b < q → c < q → d < q →
    IsOneOfThree kind a b c d other e f → (e < q) × (f < q)
three_below q a b c d e f kind other h k l m (inl (inl (_, x, y))) = (omega arith, omega arith)
three_below q a b c d e f kind other h k l m (inl (inr (_, x, y))) = (omega arith, omega arith)
three_below q a b c d e f kind other h k l m (inr (_, x, y)) = (omega arith, omega arith)

pub nine_below : (q i j step short : ℕ) → AreSteps q i step short j → (kind : FaceKind) (a b : ℕ) →
    IsOneOfNine i j step short kind a b → IsSquareBelow q kind a b
nine_below q i j step short s kind a b (inl (inl h)) =
    three_below q i step i short a b Horizontal kind s.start s.step_below s.start s.short_below h
nine_below q i j step short s kind a b (inl (inr h)) =
    three_below q step i short i a b Vertical kind s.step_below s.start s.short_below s.start h
nine_below q i j step short s kind a b (inr h) =
    three_below q i j i j a b Diagonal kind s.start s.end s.start s.end h

step_is : (q i j step short a b : ℕ) → AreSteps q i step short j → b < q → a ≡ i →
    (a + b) % q ≡ j % q → b ≡ step
step_is q i j step short a b s b_low e g =
    is_step q i step short j b s b_low (ap (λ n. (n + b) % q) (sym e) ∙ g ∙ mod-eq_of_lt s.end)

short_is : (q i j step short a b : ℕ) → AreSteps q i step short j → b < q → a ≡ i →
    (a + b + 1) % q ≡ j % q → b ≡ short
short_is q i j step short a b s b_low e g =
    is_short q i step short j b s b_low
    (ap (λ n. (n + b + 1) % q) (sym e) ∙ g ∙ mod-eq_of_lt s.end)

pub nine_back : (q i j step short : ℕ) (T : FaceKind → ℕ → ℕ → ℕ → Type 0) →
    AreSteps q i step short j →
    (kind : FaceKind) (a b : ℕ) → a < q → b < q → LinksBy q T kind a b i j →
    IsOneOfNine i j step short kind a b
nine_back q i j step short T s Vertex a b a_low b_low h = absurd h
nine_back q i j step short T s Horizontal a b a_low b_low (x, y, e, g) =
    let at = is_it q a i a_low s.start e in
    inl (inl (inl (inl (refl, at, step_is q i j step short a b s b_low at g))))
nine_back q i j step short T s Vertical a b a_low b_low (x, y, e, g) =
    let at = is_it q b i b_low s.start e in
    inl (inr (inl (inl (
      refl,
      step_is q i j step short b a s a_low at
          (turned q a b (j % q) g),
      at,
    ))))
nine_back q i j step short T s Diagonal a b a_low b_low (x, y, e, g) =
    inr (inl (inl (refl, is_it q a i a_low s.start e, is_it q b j b_low s.end g)))
nine_back q i j step short T s Lower a b a_low b_low (inl (x, y, e, g)) =
    let at = is_it q a i a_low s.start e in
    inl (inl (inl (inr (refl, at, step_is q i j step short a b s b_low at g))))
nine_back q i j step short T s Lower a b a_low b_low (inr (inl (x, y, e, g))) =
    let at = is_it q b i b_low s.start e in
    inl (inr (inl (inr (
      refl,
      step_is q i j step short b a s a_low at
          (turned q a b (j % q) g),
      at,
    ))))
nine_back q i j step short T s Lower a b a_low b_low (inr (inr (x, y, e, g))) =
    inr (inl (inr (refl, is_it q a i a_low s.start e, is_it q b j b_low s.end g)))
nine_back q i j step short T s Upper a b a_low b_low (inl (x, y, e, g)) =
    let at = is_it q a i a_low s.start e in
    inl (inl (inr (refl, at, short_is q i j step short a b s b_low at g)))
nine_back q i j step short T s Upper a b a_low b_low (inr (inl (x, y, e, g))) =
    let at = is_it q b i b_low s.start e in
    inl (inr (inr (
      refl,
      short_is q i j step short b a s a_low at (turned_next q a b (j % q)
          g),
      at,
    )))
nine_back q i j step short T s Upper a b a_low b_low (inr (inr (x, y, e, g))) =
    inr (inr (refl, is_it q a i a_low s.start e, is_it q b j b_low s.end g))

-- ---- both ways

source : (q : ℕ) (T : FaceKind → ℕ → ℕ → ℕ → Type 0) (asked : Bool) (i j : ℕ) (x : Option Face)
    (f : Face) →
    AddsFirst (IsSquareBelow q) (LinksAs q T asked i j) None x →
    AddsFirst (IsSquareBelow q) (LinksAs q T asked j i) x (Some f) →
    ((f.a < q) × (f.b < q)) × JoinsAs q T asked i j f.kind f.a f.b
source q T asked i j x f h k = elim k.from [
  | inl e ↦ elim (subst (IsFrom (IsSquareBelow q) (LinksAs q T asked i j) None) e h.from) [
    | inl none ↦ absurd (cc (none))
    | inr (low, p) ↦ (low, (p.0, inl p.1))
  ]
  | inr (low, p) ↦ (low, (p.0, inr p.1))
]

reached : (q : ℕ) (T : FaceKind → ℕ → ℕ → ℕ → Type 0) (asked : Bool) (i j : ℕ) (x y : Option Face) →
    AddsFirst (IsSquareBelow q) (LinksAs q T asked i j) None x →
    AddsFirst (IsSquareBelow q) (LinksAs q T asked j i) x y → (kind : FaceKind) (a b : ℕ) → a < q →
    b < q →
    JoinsAs q T asked i j kind a b → IsFaceReached y kind a b
reached q T asked i j x y h k kind a b a_low b_low (p, inl l) =
    k.behind kind a b (h.first kind a b (a_low, b_low) (p, l))
reached q T asked i j x y h k kind a b a_low b_low (p, inr l) = k.first kind a b (a_low, b_low)
    (p, l)

pub joining_found : (q : ℕ) (T : FaceKind → ℕ → ℕ → ℕ →
    Type 0) (asked : Bool) (i j : ℕ) (x y : Option Face) →
    AddsFirst (IsSquareBelow q) (LinksAs q T asked i j) None x →
    AddsFirst (IsSquareBelow q) (LinksAs q T asked j i) x y →
    IfSome y (IsFirstFace q (JoinsAs q T asked i j))
joining_found q T asked i j x None h k = tt
joining_found q T asked i j x (Some f) h k =
    let at = source q T asked i j x f h k in
    first_face q (JoinsAs q T asked i j) f at.0.0 at.0.1 at.1
    (λ kind a b a_low b_low p. reached q T asked i j x (Some f) h k kind a b a_low b_low p)

pub joining_none : (q : ℕ) (T : FaceKind → ℕ → ℕ → ℕ → Type 0) → IsComplex q T → 0 < q →
    (asked : Bool) (i j : ℕ) (x y : Option Face) →
    AddsFirst (IsSquareBelow q) (LinksAs q T asked i j) None x →
    AddsFirst (IsSquareBelow q) (LinksAs q T asked j i) x y →
    IfNone y ((kind : FaceKind) (a b : ℕ) → JoinsAs q T asked i j kind a b → ⊥)
joining_none q T complex some asked i j x (Some f) h k = tt
joining_none q T complex some asked i j x None h k = λ kind a b p.
    reached q T asked i j x None h k kind (a % q) (b % q) (mod-lt a some) (mod-lt b some)
    (joins_reduced q T complex asked i j kind a b p)
