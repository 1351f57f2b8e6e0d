-- From the limits of one square to the tests of its faces.
use Rattle.std.proofs.Common.{◌≡◌, ℕ, zero, suc, ◌+◌, ◌*◌, ◌<◌, ◌≤◌, pos, ◌≤ℤ◌, [], ◌∷◌, length, get_or, All, lit<, sym, subst, refl, ⊎_elim, below_none, below_more, arith}
use Rattle.std.proofs.lemmas.Bool.{cases_lt}
use Rattle.std.proofs.lemmas.List.Elements.{All-nil, All-cons}
use Rattle.gj_shape.specs.FunctionData.{FunctionData, IsWithinBounds, IsContinuous}
use Rattle.gj_shape.specs.Faces.{corners_of}
use Rattle.gj_shape.specs.FirstViolation.{Test, Passes}
use Rattle.gj_shape.specs.FirstViolation.Test.{subadditive_at}
use Rattle.gj_shape.specs.declared.faces.FaceKind.{FaceKind}
use Rattle.gj_shape.specs.declared.faces.FaceKind.TheVariants.{Vertex, Horizontal, Vertical, Diagonal, Lower, Upper}
use Rattle.gj_complex.specs.declared.square.Square.{Square}
use Rattle.gj_complex.specs.Squares.{HasLimits}
use Rattle.gj_theory.specs.EarlierTests.{PassesVertices, PassesFace, PassesSquare, HoldsBefore, PassesKindsBefore, PassesFacesBefore}
use Rattle.gj_theory.proofs.FirstFailed.{IsNoVertex}
use Rattle.gj_lemmas.proofs.Lists.{made_has}
use Rattle.gj_theory.proofs.Lanes.{PassesAt, HasLanes, FitAtSums, mirrored_square, continuous_square, square_passes, fit_from_sums}
use Rattle.gj_minimal.specs.FirstFailure.{IsFirstFailingIndex, HoldsBelow}
use Rattle.gj_minimal.specs.declared.failures.Failure.TheVariants as failure
use Rattle.gj_minimal.specs.Failures.{FailsFirst, PassesRow, IsNonnegativeIn}
use Rattle.gj_loops.specs.Lanes.{AreInRange}
use Rattle.gj_minimal.proofs.NumbersInLanes.{natural_at, natural_is}

-- how many corners a face has does not depend on the square
pub same_corners : (kind : FaceKind) (a b : ℕ) →
    length (corners_of kind 0 0) ≡ length (corners_of kind a b)
same_corners Vertex a b = refl
same_corners Horizontal a b = refl
same_corners Vertical a b = refl
same_corners Diagonal a b = refl
same_corners Lower a b = refl
same_corners Upper a b = refl

-- a limit in the square is one of the function
pub limit_passes : (f : FunctionData) (s : Square) (kind : FaceKind) (a b c : ℕ) →
    HasLimits s f a b →
    IsNonnegativeIn s kind c → Passes f (subadditive_at kind a b c)
limit_passes f s kind a b c has h = subst (λ ns. pos 0 ≤ℤ get_or ns c (pos 0)) (has kind) h

pub passes_limit : (f : FunctionData) (s : Square) (kind : FaceKind) (a b c : ℕ) →
    HasLimits s f a b →
    Passes f (subadditive_at kind a b c) → IsNonnegativeIn s kind c
passes_limit f s kind a b c has h = subst (λ ns. pos 0 ≤ℤ get_or ns c (pos 0)) (sym (has kind)) h

-- the tests of a face pass if those at each corner do
tests_of_two : (P : Test → Type 0) (s t : Test) → P s → P t → All P (s ∷ t ∷ [])
tests_of_two P s t p q = All-cons P s (t ∷ []) p (All-cons P t [] q (All-nil P))

tests_of_three : (P : Test → Type 0) (s t u : Test) → P s → P t → P u → All P (s ∷ t ∷ u ∷ [])
tests_of_three P s t u p q r = All-cons P s (t ∷ u ∷ []) p (tests_of_two P t u q r)

pub face_passes : (f : FunctionData) (kind : FaceKind) (a b : ℕ) →
    ((c : ℕ) → c < length (corners_of kind a b) → Passes f (subadditive_at kind a b c)) →
    PassesFace f kind a b
face_passes f Vertex a b h = All-cons (Passes f) (subadditive_at Vertex a b 0) [] (h 0 (lit< tt))
    (All-nil (Passes f))
face_passes f Horizontal a b h = tests_of_two (Passes f) (subadditive_at Horizontal a b 0)
    (subadditive_at Horizontal a b 1) (h 0 (lit< tt)) (h 1 (lit< tt))
face_passes f Vertical a b h = tests_of_two (Passes f) (subadditive_at Vertical a b 0)
    (subadditive_at Vertical a b 1)
    (h 0 (lit< tt)) (h 1 (lit< tt))
face_passes f Diagonal a b h = tests_of_two (Passes f) (subadditive_at Diagonal a b 0)
    (subadditive_at Diagonal a b 1)
    (h 0 (lit< tt)) (h 1 (lit< tt))
face_passes f Lower a b h = tests_of_three (Passes f) (subadditive_at Lower a b 0)
    (subadditive_at Lower a b 1)
    (subadditive_at Lower a b 2) (h 0 (lit< tt)) (h 1 (lit< tt)) (h 2 (lit< tt))
face_passes f Upper a b h = tests_of_three (Passes f) (subadditive_at Upper a b 0)
    (subadditive_at Upper a b 1)
    (subadditive_at Upper a b 2) (h 0 (lit< tt)) (h 1 (lit< tt)) (h 2 (lit< tt))

-- ---- rows of squares

-- the square passes if all limits in it do
pub square_passes_at : (f : FunctionData) (a b : ℕ) → PassesAt f a b → PassesSquare f a b
square_passes_at f a b h = record {
  horizontal = face_passes f Horizontal a b (h Horizontal);
  vertical = face_passes f Vertical a b (h Vertical);
  diagonal = face_passes f Diagonal a b (h Diagonal);
  lower = face_passes f Lower a b (h Lower);
  upper = face_passes f Upper a b (h Upper);
}

-- and all limits in it pass if it and the vertex do
passes_at : (f : FunctionData) (a b : ℕ) → PassesVertices f → a < f.order → b < f.order →
    PassesSquare f a b →
    PassesAt f a b
passes_at f a b v a_below b_below h Vertex =
    below_more (λ c. Passes f (subadditive_at Vertex a b c)) 0
    (below_none (λ c. Passes f (subadditive_at Vertex a b c))) (v.vertices a b a_below b_below)
passes_at f a b v a_below b_below h Horizontal =
    λ c below. made_has (Passes f) (subadditive_at Horizontal a b) c 2 below h.horizontal
passes_at f a b v a_below b_below h Vertical =
    λ c below. made_has (Passes f) (subadditive_at Vertical a b) c 2 below h.vertical
passes_at f a b v a_below b_below h Diagonal =
    λ c below. made_has (Passes f) (subadditive_at Diagonal a b) c 2 below h.diagonal
passes_at f a b v a_below b_below h Lower =
    λ c below. made_has (Passes f) (subadditive_at Lower a b) c 3 below h.lower
passes_at f a b v a_below b_below h Upper =
    λ c below. made_has (Passes f) (subadditive_at Upper a b) c 3 below h.upper

-- a row passes from its diagonal on, and before it as the earlier rows do
pub squares_from_diagonal : (f : FunctionData) (a : ℕ) → PassesVertices f → a < f.order →
    HoldsBelow (PassesRow f) a →
    ((b : ℕ) → a ≤ b → b < f.order → PassesSquare f a b) → PassesRow f a
squares_from_diagonal f a v below rows h b b_below =
    ⊎_elim
    (λ before. square_passes_at f a b
    (mirrored_square f b a (passes_at f b a v b_below below (rows b before a below))))
    (λ after. h b after b_below) (cases_lt b a)

-- the squares of a continuous function pass if the vertices do
pub continuous_passes : (f : FunctionData) (a b : ℕ) → IsWithinBounds f → IsContinuous f →
    PassesVertices f →
    PassesSquare f a b
continuous_passes f a b l continuous v =
    square_passes_at f a b (continuous_square f l continuous v.vertices a b)

-- the limits and values of a function, from 0 on
pub has_lanes : (bound : ℕ) (f : FunctionData) → AreInRange (pos 0) bound f.left →
    AreInRange (pos 0) bound f.value →
    AreInRange (pos 0) bound f.right →
    HasLanes f (λ i. natural_at f.left (i + 1)) (λ i. natural_at f.value i)
    (λ i. natural_at f.right i) (2 * f.order)
has_lanes bound f lefts values rights = record {
  lefts = λ i below. natural_is bound f.left (i + 1) lefts;
  values = λ i below. natural_is bound f.value i values;
  rights = λ i below. natural_is bound f.right i rights;
}

-- a square passes if no limit in it is negative, over naturals
pub square_from_naturals : (bound : ℕ) (f : FunctionData) (a b : ℕ) →
    AreInRange (pos 0) bound f.left → AreInRange (pos 0) bound f.value →
    AreInRange (pos 0) bound f.right → PassesVertices f → a < f.order → b < f.order →
    FitAtSums (λ i. natural_at f.left (i + 1)) (λ i. natural_at f.value i)
    (λ i. natural_at f.right i) a b → PassesSquare f a b
square_from_naturals bound f a b lefts values rights v a_below b_below sums =
    let before = λ (i : ℕ). natural_at f.left (i + 1) in
    let there = λ (i : ℕ). natural_at f.value i in
    let after = λ (i : ℕ). natural_at f.right i in
    square_passes_at f a b
    (square_passes f before there after (2 * f.order) a b (has_lanes bound f lefts values rights)
    (omega arith) (v.vertices a b a_below b_below)
    (fit_from_sums before there after a b sums))

-- ---- the first failed limit

-- what is known of the function before a face of the square (a, b)
pub record IsReached (f : FunctionData) (s : Square) (a b : ℕ) : Type 0 where
  pub first : a < f.order
  pub second : b < f.order
  pub vertices : PassesVertices f
  pub squares : HoldsBefore f (PassesSquare f) a b
  pub limits : HasLimits s f a b

pub reached : (f : FunctionData) (s : Square) (a b : ℕ) → a < f.order → b < f.order →
    PassesVertices f →
    HoldsBefore f (PassesSquare f) a b → HasLimits s f a b → IsReached f s a b
reached f s a b first second vertices squares limits =
    record {
      first = first;
      second = second;
      vertices = vertices;
      squares = squares;
      limits =
          limits;
    }

-- a face of the square with no negative limit passes
pub face_in_square : {f : FunctionData} {s : Square} {a b : ℕ} → IsReached f s a b →
    (kind : FaceKind) →
    HoldsBelow (IsNonnegativeIn s kind) (length (corners_of kind 0 0)) → PassesFace f kind a b
face_in_square {f} {s} {a} {b} r kind h =
    let same = same_corners kind a b in
    face_passes f kind a b (λ c below. limit_passes f s kind a b c r.limits (h c (omega arith)))

-- the first negative limit in a face is the first failed test, if the faces before it pass
record FailsAt (f : FunctionData) (kind : FaceKind) (a b c : ℕ) : Type 0 where
  pub test : (a < f.order) × (b < f.order) × (c < length (corners_of kind a b))
  pub before : PassesFacesBefore f kind a b c
  pub fails : Passes f (subadditive_at kind a b c) → ⊥

fails_at : (f : FunctionData) (s : Square) (kind : FaceKind) (a b c : ℕ) → IsReached f s a b →
    PassesKindsBefore f a b kind →
    IsFirstFailingIndex (IsNonnegativeIn s kind) (length (corners_of kind 0 0)) c →
    FailsAt f kind a b c
fails_at f s kind a b c reached kinds found =
    let same = same_corners kind a b in
    let within = found.within in
    record {
      test = (reached.first, reached.second, omega arith);
      before = record {
        vertices = reached.vertices;
        squares = reached.squares;
        kinds = kinds;
        corners = λ k below. limit_passes f s kind a b k reached.limits (found.before k below);
      };
      fails = λ h. found.fails (passes_limit f s kind a b c reached.limits h);
    }

-- a corner of a face that is no vertex fails first
first_at : (f : FunctionData) (kind : FaceKind) (a b c : ℕ) → IsNoVertex kind →
    FailsAt f kind a b c →
    FailsFirst f (failure.Corner (record { kind = kind; a = a; b = b }) c)
first_at f Vertex a b c none h = absurd none
first_at f Horizontal a b c none h = record { test = h.test; before = h.before; fails = h.fails }
first_at f Vertical a b c none h = record { test = h.test; before = h.before; fails = h.fails }
first_at f Diagonal a b c none h = record { test = h.test; before = h.before; fails = h.fails }
first_at f Lower a b c none h = record { test = h.test; before = h.before; fails = h.fails }
first_at f Upper a b c none h = record { test = h.test; before = h.before; fails = h.fails }

-- ---- the kinds of faces that are no vertices, by their indices in walk order

abbrev kind_at : ℕ → FaceKind
kind_at i = get_or (Horizontal ∷ Vertical ∷ Diagonal ∷ Lower ∷ Upper ∷ []) i Vertex

-- the square's face of the kind at this index passes
abbrev pub PassesKind : FunctionData → ℕ → ℕ → ℕ → Type 0
PassesKind f a b i = PassesFace f (kind_at i) a b

-- what passes before the kind at an index
kinds_before : (f : FunctionData) (a b i : ℕ) → i < 5 → HoldsBelow (PassesKind f a b) i →
    IsNoVertex (kind_at i) × PassesKindsBefore f a b (kind_at i)
kinds_before f a b zero below h = (tt, tt)
kinds_before f a b (suc zero) below h = (tt, h 0 (lit< tt))
kinds_before f a b (suc (suc zero)) below h = (tt, (h 0 (lit< tt), h 1 (lit< tt)))
kinds_before f a b (suc (suc (suc zero))) below h =
    (tt, (h 0 (lit< tt), h 1 (lit< tt), h 2 (lit< tt)))
kinds_before f a b (suc (suc (suc (suc zero)))) below h =
    (tt, (h 0 (lit< tt), h 1 (lit< tt), h 2 (lit< tt), h 3 (lit< tt)))
kinds_before f a b (suc (suc (suc (suc (suc i))))) below h = absurd (omega arith)

-- the first negative limit in the face of this kind fails first, where those of the kinds before it
-- pass
pub corner_fails : {f : FunctionData} {s : Square} {a b : ℕ} → IsReached f s a b → (i c : ℕ) →
    i < 5 →
    HoldsBelow (PassesKind f a b) i →
    IsFirstFailingIndex (IsNonnegativeIn s (kind_at i)) (length (corners_of (kind_at i) 0 0)) c →
    FailsFirst f (failure.Corner (record { kind = kind_at i; a = a; b = b }) c)
corner_fails {f} {s} {a} {b} reached i c below passed found =
    let kinds = kinds_before f a b i below passed in
    first_at f (kind_at i) a b c kinds.0 (fails_at f s (kind_at i) a b c reached kinds.1 found)

-- the square passes where the faces of all five kinds do
pub kinds_pass : {f : FunctionData} {a b : ℕ} → HoldsBelow (PassesKind f a b) 5 → PassesSquare f a b
kinds_pass h = record {
  horizontal = h 0 (lit< tt);
  vertical = h 1 (lit< tt);
  diagonal = h 2 (lit< tt);
  lower = h 3 (lit< tt);
  upper = h 4 (lit< tt);
}
