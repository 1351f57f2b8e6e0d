-- The list of tests has each test of a function, and no other.
use Rattle.std.proofs.Common.{ℕ, ◌<◌, List, [], ◌∷◌, ◌++◌, length, map, arith}
use Rattle.std.specs.List.{range_with_len, flat_map, All}
use Rattle.std.proofs.lemmas.List.Elements.{All-nil, All-cons, All-head, All-tail, All-append}
use Rattle.gj_shape.specs.FunctionData.{FunctionData}
use Rattle.gj_shape.specs.Faces.{corners_of}
use Rattle.gj_shape.specs.FirstViolation.{Test, tests_of, tests_of_face, over_squares}
use Rattle.gj_shape.specs.FirstViolation.Test.{zero_at_zero, nonnegative_at, nonnegative_after, nonnegative_before, symmetric_at, symmetric_between, subadditive_at}
use Rattle.gj_shape.specs.declared.faces.FaceKind.{FaceKind}
use Rattle.gj_shape.specs.declared.faces.FaceKind.TheVariants.{Vertex, Horizontal, Vertical, Diagonal, Lower, Upper}
use Rattle.gj_lemmas.proofs.Lists.{All-front, All-back, All-made, All-joined, made_has, joined_has}
use Rattle.gj_theory.specs.EarlierTests.{IsTestOf}

-- ---- the parts of the list

abbrev pub indices : FunctionData → List ℕ
indices f = range_with_len 0 f.order

abbrev pub sign_tests : FunctionData → List Test
sign_tests f = map nonnegative_at (indices f)

abbrev pub signs_around : ℕ → List Test
signs_around i = nonnegative_after i ∷ nonnegative_before i ∷ []

abbrev pub sign_tests_between : FunctionData → List Test
sign_tests_between f = flat_map signs_around (indices f)

abbrev pub symmetry_tests : FunctionData → List Test
symmetry_tests f = map symmetric_at (indices f)

abbrev pub symmetry_tests_between : FunctionData → List Test
symmetry_tests_between f = map symmetric_between (indices f)

abbrev pub vertex_tests : FunctionData → List Test
vertex_tests f = over_squares f.order (tests_of_face Vertex)

-- the faces of a square but its vertex, from each kind on
abbrev pub from_upper : ℕ → ℕ → List Test
from_upper a b = tests_of_face Upper a b ++ []

abbrev pub from_lower : ℕ → ℕ → List Test
from_lower a b = tests_of_face Lower a b ++ from_upper a b

abbrev pub from_diagonal : ℕ → ℕ → List Test
from_diagonal a b = tests_of_face Diagonal a b ++ from_lower a b

abbrev pub from_vertical : ℕ → ℕ → List Test
from_vertical a b = tests_of_face Vertical a b ++ from_diagonal a b

abbrev pub square_tests : ℕ → ℕ → List Test
square_tests a b = tests_of_face Horizontal a b ++ from_vertical a b

abbrev pub other_tests : FunctionData → List Test
other_tests f = over_squares f.order square_tests

-- the list up to each part
abbrev pub to_signs : FunctionData → List Test
to_signs f = zero_at_zero ∷ [] ++ sign_tests f

abbrev pub to_signs_between : FunctionData → List Test
to_signs_between f = to_signs f ++ sign_tests_between f

abbrev pub to_symmetry : FunctionData → List Test
to_symmetry f = to_signs_between f ++ symmetry_tests f

abbrev pub to_symmetry_between : FunctionData → List Test
to_symmetry_between f = to_symmetry f ++ symmetry_tests_between f

abbrev pub to_vertices : FunctionData → List Test
to_vertices f = to_symmetry_between f ++ vertex_tests f

-- ---- what holds of each test of the function holds of the list

pub signs_around_have : (P : Test → Type 0) (i : ℕ) → P (nonnegative_after i) →
    P (nonnegative_before i) →
    All P (signs_around i)
signs_around_have P i after before =
    All-cons P (nonnegative_after i) (nonnegative_before i ∷ []) after
    (All-cons P (nonnegative_before i) [] before (All-nil P))

pub squares_have : (P : Test → Type 0) (n : ℕ) (tests : ℕ → ℕ → List Test) →
    ((a b : ℕ) → a < n → b < n → All P (tests a b)) → All P (over_squares n tests)
squares_have P n tests h =
    All-joined P (λ a. flat_map (λ b. tests a b) (range_with_len 0 n)) 0 n
    (λ a a_below. All-joined P (λ b. tests a b) 0 n
    (λ b b_below. h a b (omega arith) (omega arith)))

pub square_has : (P : Test → Type 0) (a b : ℕ) → All P (tests_of_face Horizontal a b) →
    All P (tests_of_face Vertical a b) → All P (tests_of_face Diagonal a b) →
    All P (tests_of_face Lower a b) →
    All P (tests_of_face Upper a b) → All P (square_tests a b)
square_has P a b horizontal vertical diagonal lower upper =
    All-append P (tests_of_face Horizontal a b) (from_vertical a b) horizontal
    (All-append P (tests_of_face Vertical a b) (from_diagonal a b) vertical
    (All-append P (tests_of_face Diagonal a b) (from_lower a b) diagonal
    (All-append P (tests_of_face Lower a b) (from_upper a b) lower
    (All-append P (tests_of_face Upper a b) [] upper (All-nil P)))))

face_has : (f : FunctionData) (P : Test → Type 0) → ((t : Test) → IsTestOf f t → P t) →
    (kind : FaceKind) (a b : ℕ) →
    a < f.order → b < f.order → All P (tests_of_face kind a b)
face_has f P h kind a b a_below b_below =
    All-made P (subadditive_at kind a b) 0 (length (corners_of kind a b))
    (λ c c_below. h (subadditive_at kind a b c) (a_below, b_below, omega arith))

pub each_test : (f : FunctionData) (P : Test → Type 0) → ((t : Test) → IsTestOf f t → P t) →
    All P (tests_of f)
each_test f P h =
    All-append P (to_vertices f) (other_tests f)
    (All-append P (to_symmetry_between f) (vertex_tests f)
    (All-append P (to_symmetry f) (symmetry_tests_between f)
    (All-append P (to_signs_between f) (symmetry_tests f)
    (All-append P (to_signs f) (sign_tests_between f)
    (All-append P (zero_at_zero ∷ []) (sign_tests f)
    (All-cons P zero_at_zero [] (h zero_at_zero tt) (All-nil P))
    (All-made P nonnegative_at 0 f.order (λ i below. h (nonnegative_at i) (omega arith))))
    (All-joined P signs_around 0 f.order (λ i below.
    signs_around_have P i (h (nonnegative_after i) (omega arith))
    (h (nonnegative_before i) (omega arith)))))
    (All-made P symmetric_at 0 f.order (λ i below. h (symmetric_at i) (omega arith))))
    (All-made P symmetric_between 0 f.order (λ i below. h (symmetric_between i) (omega arith))))
    (squares_have P f.order (tests_of_face Vertex) (face_has f P h Vertex)))
    (squares_have P f.order square_tests (λ a b a_below b_below.
    let face = λ (kind : FaceKind). face_has f P h kind a b a_below b_below in
    square_has P a b (face Horizontal) (face Vertical) (face Diagonal) (face Lower) (face Upper)))

-- ---- and the other way round

in_square : (P : Test → Type 0) (n : ℕ) (tests : ℕ → ℕ → List Test) (a b : ℕ) → a < n → b < n →
    All P (over_squares n tests) → All P (tests a b)
in_square P n tests a b a_below b_below h =
    joined_has P (λ b. tests a b) b n b_below
    (joined_has P (λ a. flat_map (λ b. tests a b) (range_with_len 0 n)) a n a_below h)

in_face : (P : Test → Type 0) (kind : FaceKind) (a b c : ℕ) → c < length (corners_of kind a b) →
    All P (tests_of_face kind a b) → P (subadditive_at kind a b c)
in_face P kind a b c below h =
    made_has P (subadditive_at kind a b) c (length (corners_of kind a b)) below h

-- what holds of the list up to each part
pub record HoldsUpTo (f : FunctionData) (P : Test → Type 0) : Type 0 where
  pub signs : All P (to_signs f)
  pub signs_between : All P (to_signs_between f)
  pub symmetry : All P (to_symmetry f)
  pub symmetry_between : All P (to_symmetry_between f)
  pub vertices : All P (to_vertices f)
  pub whole : All P (tests_of f)

up_to : (f : FunctionData) (P : Test → Type 0) → All P (tests_of f) → HoldsUpTo f P
up_to f P h =
    let vertices = All-front P (to_vertices f) (other_tests f) h in
    let symmetry_between = All-front P (to_symmetry_between f) (vertex_tests f) vertices in
    let symmetry = All-front P (to_symmetry f) (symmetry_tests_between f) symmetry_between in
    let signs_between = All-front P (to_signs_between f) (symmetry_tests f) symmetry in
    record {
      signs = All-front P (to_signs f) (sign_tests_between f) signs_between;
      signs_between = signs_between;
      symmetry = symmetry;
      symmetry_between = symmetry_between;
      vertices = vertices;
      whole = h;
    }

around : (f : FunctionData) (P : Test → Type 0) → HoldsUpTo f P → (k : ℕ) → k < f.order →
    All P (signs_around k)
around f P p k below =
    joined_has P signs_around k f.order below
    (All-back P (to_signs f) (sign_tests_between f) p.signs_between)

-- the faces of a square but its vertex
faces : (f : FunctionData) (P : Test → Type 0) → HoldsUpTo f P → (a b : ℕ) → a < f.order →
    b < f.order →
    All P (tests_of_face Horizontal a b) × All P (tests_of_face Vertical a b)
    × All P (tests_of_face Diagonal a b)
    × All P (tests_of_face Lower a b) × All P (tests_of_face Upper a b)
faces f P p a b a_below b_below =
    let square = in_square P f.order square_tests a b a_below b_below
    (All-back P (to_vertices f) (other_tests f) p.whole) in
    let vertical = All-back P (tests_of_face Horizontal a b) (from_vertical a b) square in
    let diagonal = All-back P (tests_of_face Vertical a b) (from_diagonal a b) vertical in
    let lower = All-back P (tests_of_face Diagonal a b) (from_lower a b) diagonal in
    let upper = All-back P (tests_of_face Lower a b) (from_upper a b) lower in (
      All-front P (tests_of_face Horizontal a b) (from_vertical a b) square,
      All-front P (tests_of_face Vertical a b) (from_diagonal a b) vertical,
      All-front P (tests_of_face Diagonal a b) (from_lower a b) diagonal,
      All-front P (tests_of_face Lower a b) (from_upper a b) lower,
      All-front P (tests_of_face Upper a b) [] upper,
    )

by_parts : (f : FunctionData) (P : Test → Type 0) → HoldsUpTo f P → (t : Test) → IsTestOf f t → P t
by_parts f P p zero_at_zero i = All-head P zero_at_zero (sign_tests f) p.signs
by_parts f P p (nonnegative_at k) i =
    made_has P nonnegative_at k f.order i (All-back P (zero_at_zero ∷ []) (sign_tests f) p.signs)
by_parts f P p (nonnegative_after k) i =
    All-head P (nonnegative_after k) (nonnegative_before k ∷ []) (around f P p k i)
by_parts f P p (nonnegative_before k) i =
    All-head P (nonnegative_before k) []
    (All-tail P (nonnegative_after k) (nonnegative_before k ∷ []) (around f P p k i))
by_parts f P p (symmetric_at k) i =
    made_has P symmetric_at k f.order i
    (All-back P (to_signs_between f) (symmetry_tests f) p.symmetry)
by_parts f P p (symmetric_between k) i =
    made_has P symmetric_between k f.order i
    (All-back P (to_symmetry f) (symmetry_tests_between f) p.symmetry_between)
by_parts f P p (subadditive_at Vertex a b c) i =
    in_face P Vertex a b c i.2
    (in_square P f.order (tests_of_face Vertex) a b i.0 i.1
    (All-back P (to_symmetry_between f) (vertex_tests f) p.vertices))
by_parts f P p (subadditive_at Horizontal a b c) i =
    in_face P Horizontal a b c i.2 (faces f P p a b i.0 i.1).0
by_parts f P p (subadditive_at Vertical a b c) i =
    in_face P Vertical a b c i.2 (faces f P p a b i.0 i.1).1
by_parts f P p (subadditive_at Diagonal a b c) i =
    in_face P Diagonal a b c i.2 (faces f P p a b i.0 i.1).2
by_parts f P p (subadditive_at Lower a b c) i =
    in_face P Lower a b c i.2 (faces f P p a b i.0 i.1).3
by_parts f P p (subadditive_at Upper a b c) i =
    in_face P Upper a b c i.2 (faces f P p a b i.0 i.1).4

-- what holds of the list holds of each test of the function
pub test_has : (f : FunctionData) (P : Test → Type 0) → All P (tests_of f) → (t : Test) →
    IsTestOf f t → P t
test_has f P h = by_parts f P (up_to f P h)
