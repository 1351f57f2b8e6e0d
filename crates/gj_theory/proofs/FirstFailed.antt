-- The first test of minimality that fails gives the first violation.
use Rattle.std.proofs.Common.{ℕ, ◌<◌, List, [], ◌∷◌, ◌++◌, length, map, refl, arith}
use Rattle.std.specs.List.{range_with_len, flat_map, All}
use Rattle.std.proofs.lemmas.List.Elements.{All-nil, All-cons, All-append}
use Rattle.gj_shape.specs.FunctionData.{FunctionData}
use Rattle.gj_shape.specs.Faces.{corners_of}
use Rattle.gj_shape.specs.FirstViolation.{Test, Passes, PassesAll, Shows, IsFirstViolation, tests_of, tests_of_face, over_squares}
use Rattle.gj_shape.specs.FirstViolation.Test.{zero_at_zero, nonnegative_at, nonnegative_after, nonnegative_before, symmetric_at, symmetric_between, subadditive_at}
use Rattle.gj_shape.specs.declared.faces.FaceKind.{FaceKind}
use Rattle.gj_shape.specs.declared.faces.FaceKind.TheVariants.{Vertex, Horizontal, Vertical, Diagonal, Lower, Upper}
use Rattle.gj_shape.specs.declared.violations.Violation.{Violation}
use Rattle.gj_theory.specs.EarlierTests.{IsTestOf, PassesBefore, PassesValues, PassesSigns, PassesMirrors, PassesSymmetry, PassesVertices, PassesFace, PassesSquare, PassesKindsBefore, HoldsBefore, PassesFacesBefore}
use Rattle.gj_lemmas.specs.FirstThatFails.{IsFirstFailing}
use Rattle.gj_lemmas.proofs.Lists.{All-made, All-joined}
use Rattle.gj_lemmas.proofs.FirstThatFails.{first_failing, first_failing_denies_all, first_failing_in_front, first_failing_in_back, first_failing_in_map, first_failing_in_joined, first_failing_in_range}
use Rattle.gj_theory.proofs.EachTest.{indices, sign_tests, signs_around, sign_tests_between, symmetry_tests, symmetry_tests_between, vertex_tests, from_vertical, from_diagonal, from_lower, from_upper, square_tests, other_tests, to_signs, to_signs_between, to_symmetry, to_symmetry_between, to_vertices, signs_around_have, squares_have, square_has}

-- ---- what passes of each part

zero_passes : (f : FunctionData) → Passes f zero_at_zero → All (Passes f) (zero_at_zero ∷ [])
zero_passes f h = All-cons (Passes f) zero_at_zero [] h (All-nil (Passes f))

values_pass : (f : FunctionData) → PassesValues f → All (Passes f) (to_signs f)
values_pass f h =
    All-append (Passes f) (zero_at_zero ∷ []) (sign_tests f) (zero_passes f h.zero)
    (All-made (Passes f) nonnegative_at 0 f.order (λ i below. h.nonnegative i (omega arith)))

signs_pass : (f : FunctionData) → PassesSigns f → All (Passes f) (to_signs_between f)
signs_pass f h =
    All-append (Passes f) (to_signs f) (sign_tests_between f) (values_pass f h.values)
    (All-joined (Passes f) signs_around 0 f.order
    (λ i below. signs_around_have (Passes f) i (h.after i (omega arith))
    (h.before i (omega arith))))

mirrors_pass : (f : FunctionData) → PassesMirrors f → All (Passes f) (to_symmetry f)
mirrors_pass f h =
    All-append (Passes f) (to_signs_between f) (symmetry_tests f) (signs_pass f h.signs)
    (All-made (Passes f) symmetric_at 0 f.order (λ i below. h.symmetric i (omega arith)))

symmetry_passes : (f : FunctionData) → PassesSymmetry f → All (Passes f) (to_symmetry_between f)
symmetry_passes f h =
    All-append (Passes f) (to_symmetry f) (symmetry_tests_between f) (mirrors_pass f h.mirrors)
    (All-made (Passes f) symmetric_between 0 f.order (λ i below. h.between i (omega arith)))

vertex_passes : (f : FunctionData) (a b : ℕ) → Passes f (subadditive_at Vertex a b 0) →
    PassesFace f Vertex a b
vertex_passes f a b h = All-cons (Passes f) (subadditive_at Vertex a b 0) [] h (All-nil (Passes f))

vertices_pass : (f : FunctionData) → PassesVertices f → All (Passes f) (to_vertices f)
vertices_pass f h =
    All-append (Passes f) (to_symmetry_between f) (vertex_tests f) (symmetry_passes f h.symmetry)
    (squares_have (Passes f) f.order (tests_of_face Vertex)
    (λ a b a_below b_below. vertex_passes f a b (h.vertices a b a_below b_below)))

square_passes : (f : FunctionData) (a b : ℕ) → PassesSquare f a b →
    All (Passes f) (square_tests a b)
square_passes f a b h = square_has (Passes f) a b h.horizontal h.vertical h.diagonal h.lower h.upper

-- ---- where a test stands in its part

-- the test is the first of these that fails
abbrev Fails : FunctionData → List Test → Test → Type 0
Fails f tests t = (before : List Test) × IsFirstFailing (All (Passes f)) tests before t

in_front : (f : FunctionData) (xs ys : List Test) (t : Test) → Fails f xs t → Fails f (xs ++ ys) t
in_front f xs ys t (before, h) = (before, first_failing_in_front (All (Passes f)) xs ys before t h)

behind : (f : FunctionData) (xs ys : List Test) (t : Test) → All (Passes f) xs → Fails f ys t →
    Fails f (xs ++ ys) t
behind f xs ys t pass (before, h) =
    (xs ++ before, first_failing_in_back (Passes f) xs ys before t pass h)

-- the first of all
at_head : (f : FunctionData) (xs : List Test) (t : Test) → (Passes f t → ⊥) → Fails f (t ∷ xs) t
at_head f xs t fails =
    ([], first_failing (Passes f) (t ∷ xs) [] xs t refl (All-nil (Passes f)) fails)

-- the test of a number, if those of the numbers before it pass
of_number : (f : FunctionData) (g : ℕ → Test) (i n : ℕ) → i < n →
    ((j : ℕ) → j < i → Passes f (g j)) →
    (Passes f (g i) → ⊥) → Fails f (map g (range_with_len 0 n)) (g i)
of_number f g i n below h fails = (
  map g (range_with_len 0 i),
  first_failing_in_map (Passes f) g (range_with_len 0 n) (range_with_len 0 i) i
      (first_failing_in_range (λ k. Passes f (g k)) i n below h fails),
)

-- a test of a number that has several
among_number : (f : FunctionData) (g : ℕ → List Test) (i n : ℕ) (t : Test) → i < n →
    ((j : ℕ) → j < i → All (Passes f) (g j)) → Fails f (g i) t →
    Fails f (flat_map g (range_with_len 0 n)) t
among_number f g i n t below pass (before, h) =
    let fails = first_failing_denies_all (Passes f) (g i) before t h in (
      flat_map g (range_with_len 0 i) ++ before,
      first_failing_in_joined (Passes f) g (range_with_len 0 n) (range_with_len 0 i) i before t
          (first_failing_in_range (λ k. All (Passes f) (g k)) i n below pass fails) h,
    )

-- a test of a square, if the tests of all squares before it pass
in_squares : (f : FunctionData) (P : ℕ → ℕ → Type 0) (tests : ℕ → ℕ → List Test) (a b : ℕ)
    (t : Test) →
    a < f.order → b < f.order → ((i j : ℕ) → P i j → All (Passes f) (tests i j)) →
    HoldsBefore f P a b →
    Fails f (tests a b) t → Fails f (over_squares f.order tests) t
in_squares f P tests a b t a_below b_below pass h fails =
    among_number f (λ i. flat_map (λ j. tests i j) (indices f)) a f.order t a_below
    (λ i i_below. All-joined (Passes f) (λ j. tests i j) 0 f.order
    (λ j j_below. pass i j (h.rows i j i_below (omega arith))))
    (among_number f (λ j. tests a j) b f.order t b_below (λ j j_below. pass a j (h.row j j_below))
    fails)

-- a limit of a face, if those at the corners before it pass
in_face : (f : FunctionData) (kind : FaceKind) (a b c : ℕ) → c < length (corners_of kind a b) →
    ((k : ℕ) → k < c → Passes f (subadditive_at kind a b k)) →
    (Passes f (subadditive_at kind a b c) → ⊥) →
    Fails f (tests_of_face kind a b) (subadditive_at kind a b c)
in_face f kind a b c below =
    of_number f (subadditive_at kind a b) c (length (corners_of kind a b)) below

-- the face is no vertex
abbrev pub IsNoVertex : FaceKind → Type 0
IsNoVertex Vertex = ⊥
IsNoVertex Horizontal = Unit {0}
IsNoVertex Vertical = Unit {0}
IsNoVertex Diagonal = Unit {0}
IsNoVertex Lower = Unit {0}
IsNoVertex Upper = Unit {0}

-- a test of a face in the list of its square, if those of the faces before it pass
in_square : (f : FunctionData) (kind : FaceKind) (a b : ℕ) (t : Test) → IsNoVertex kind →
    PassesKindsBefore f a b kind →
    Fails f (tests_of_face kind a b) t → Fails f (square_tests a b) t
in_square f Vertex a b t other h first = absurd other
in_square f Horizontal a b t other h first =
    in_front f (tests_of_face Horizontal a b) (from_vertical a b) t first
in_square f Vertical a b t other h first =
    behind f (tests_of_face Horizontal a b) (from_vertical a b) t h
    (in_front f (tests_of_face Vertical a b) (from_diagonal a b) t first)
in_square f Diagonal a b t other h first =
    behind f (tests_of_face Horizontal a b) (from_vertical a b) t h.0
    (behind f (tests_of_face Vertical a b) (from_diagonal a b) t h.1
    (in_front f (tests_of_face Diagonal a b) (from_lower a b) t first))
in_square f Lower a b t other h first =
    behind f (tests_of_face Horizontal a b) (from_vertical a b) t h.0
    (behind f (tests_of_face Vertical a b) (from_diagonal a b) t h.1
    (behind f (tests_of_face Diagonal a b) (from_lower a b) t h.2
    (in_front f (tests_of_face Lower a b) (from_upper a b) t first)))
in_square f Upper a b t other h first =
    behind f (tests_of_face Horizontal a b) (from_vertical a b) t h.0
    (behind f (tests_of_face Vertical a b) (from_diagonal a b) t h.1
    (behind f (tests_of_face Diagonal a b) (from_lower a b) t h.2
    (behind f (tests_of_face Lower a b) (from_upper a b) t h.3
    (in_front f (tests_of_face Upper a b) [] t first))))

-- ---- where a test stands in the whole list

-- from the list up to each part to the whole list: only tests after it join
whole_from_vertices : (f : FunctionData) (t : Test) → Fails f (to_vertices f) t →
    Fails f (tests_of f) t
whole_from_vertices f t = in_front f (to_vertices f) (other_tests f) t

whole_from_symmetry_between : (f : FunctionData) (t : Test) → Fails f (to_symmetry_between f) t →
    Fails f (tests_of f) t
whole_from_symmetry_between f t first =
    whole_from_vertices f t (in_front f (to_symmetry_between f) (vertex_tests f) t first)

whole_from_symmetry : (f : FunctionData) (t : Test) → Fails f (to_symmetry f) t →
    Fails f (tests_of f) t
whole_from_symmetry f t first =
    whole_from_symmetry_between f t (in_front f (to_symmetry f) (symmetry_tests_between f) t first)

whole_from_signs_between : (f : FunctionData) (t : Test) → Fails f (to_signs_between f) t →
    Fails f (tests_of f) t
whole_from_signs_between f t first =
    whole_from_symmetry f t (in_front f (to_signs_between f) (symmetry_tests f) t first)

whole_from_signs : (f : FunctionData) (t : Test) → Fails f (to_signs f) t → Fails f (tests_of f) t
whole_from_signs f t first =
    whole_from_signs_between f t (in_front f (to_signs f) (sign_tests_between f) t first)

-- a test of an open interval, if the values and the intervals before it pass
of_interval : (f : FunctionData) (i : ℕ) (t : Test) → i < f.order → PassesValues f →
    ((j : ℕ) → j < i → Passes f (nonnegative_after j) × Passes f (nonnegative_before j)) →
    Fails f (signs_around i) t → Fails f (tests_of f) t
of_interval f i t below values h first =
    whole_from_signs_between f t
    (behind f (to_signs f) (sign_tests_between f) t (values_pass f values)
    (among_number f signs_around i f.order t below
    (λ j j_below. signs_around_have (Passes f) j (h j j_below).0 (h j j_below).1) first))

-- the limit at a vertex, if those before it pass
of_vertex : (f : FunctionData) (a b c : ℕ) → a < f.order → b < f.order → c < 1 → PassesSymmetry f →
    HoldsBefore f (λ i j. Passes f (subadditive_at Vertex i j 0)) a b →
    (Passes f (subadditive_at Vertex a b c) → ⊥) →
    Fails f (tests_of f) (subadditive_at Vertex a b c)
of_vertex f a b c a_below b_below c_below symmetry h fails =
    let t = subadditive_at Vertex a b c in
    whole_from_vertices f t
    (behind f (to_symmetry_between f) (vertex_tests f) t (symmetry_passes f symmetry)
    (in_squares f (λ i j. Passes f (subadditive_at Vertex i j 0))
    (tests_of_face Vertex) a b t a_below b_below
    (vertex_passes f) h (in_face f Vertex a b c c_below (λ k k_below. absurd (omega arith)) fails)))

-- a limit at a corner of another face, if those before it pass
of_face : (f : FunctionData) (kind : FaceKind) (a b c : ℕ) → IsNoVertex kind → a < f.order →
    b < f.order →
    c < length (corners_of kind a b) → PassesFacesBefore f kind a b c →
    (Passes f (subadditive_at kind a b c) → ⊥) →
    Fails f (tests_of f) (subadditive_at kind a b c)
of_face f kind a b c other a_below b_below c_below h fails =
    let t = subadditive_at kind a b c in
    behind f (to_vertices f) (other_tests f) t (vertices_pass f h.vertices)
    (in_squares f (PassesSquare f) square_tests a b t a_below b_below (square_passes f) h.squares
    (in_square f kind a b t other h.kinds (in_face f kind a b c c_below h.corners fails)))

-- a test of the function that fails, if those that come before it pass
fails_first : (f : FunctionData) (t : Test) → IsTestOf f t → PassesBefore f t → (Passes f t → ⊥) →
    Fails f (tests_of f) t
fails_first f zero_at_zero is before fails =
    whole_from_signs f zero_at_zero (at_head f (sign_tests f) zero_at_zero fails)
fails_first f (nonnegative_at i) is before fails =
    whole_from_signs f (nonnegative_at i)
    (behind f (zero_at_zero ∷ []) (sign_tests f) (nonnegative_at i) (zero_passes f before.0)
    (of_number f nonnegative_at i f.order is before.1 fails))
fails_first f (nonnegative_after i) is before fails =
    of_interval f i (nonnegative_after i) is before.0 before.1
    (at_head f (nonnegative_before i ∷ []) (nonnegative_after i) fails)
fails_first f (nonnegative_before i) is before fails =
    of_interval f i (nonnegative_before i) is before.0 before.1
    (behind f (nonnegative_after i ∷ []) (nonnegative_before i ∷ []) (nonnegative_before i)
    (All-cons (Passes f) (nonnegative_after i) [] before.2 (All-nil (Passes f)))
    (at_head f [] (nonnegative_before i) fails))
fails_first f (symmetric_at i) is before fails =
    whole_from_symmetry f (symmetric_at i)
    (behind f (to_signs_between f) (symmetry_tests f) (symmetric_at i) (signs_pass f before.0)
    (of_number f symmetric_at i f.order is before.1 fails))
fails_first f (symmetric_between i) is before fails =
    whole_from_symmetry_between f (symmetric_between i)
    (behind f (to_symmetry f) (symmetry_tests_between f) (symmetric_between i)
    (mirrors_pass f before.0)
    (of_number f symmetric_between i f.order is before.1 fails))
fails_first f (subadditive_at Vertex a b c) is before fails =
    of_vertex f a b c is.0 is.1 is.2 before.0 before.1 fails
fails_first f (subadditive_at Horizontal a b c) is before fails =
    of_face f Horizontal a b c tt is.0 is.1 is.2 before fails
fails_first f (subadditive_at Vertical a b c) is before fails =
    of_face f Vertical a b c tt is.0 is.1 is.2 before fails
fails_first f (subadditive_at Diagonal a b c) is before fails =
    of_face f Diagonal a b c tt is.0 is.1 is.2 before fails
fails_first f (subadditive_at Lower a b c) is before fails =
    of_face f Lower a b c tt is.0 is.1 is.2 before fails
fails_first f (subadditive_at Upper a b c) is before fails =
    of_face f Upper a b c tt is.0 is.1 is.2 before fails

-- ---- the three theorems

-- all tests pass if those of all parts do
pub tests_pass : (f : FunctionData) → PassesVertices f →
    ((a b : ℕ) → a < f.order → b < f.order → PassesSquare f a b) → PassesAll f
tests_pass f vertices_part squares =
    All-append (Passes f) (to_vertices f) (other_tests f) (vertices_pass f vertices_part)
    (squares_have (Passes f) f.order square_tests
    (λ a b a_below b_below. square_passes f a b (squares a b a_below b_below)))

-- if all tests before a test pass and it fails, what it shows is the first violation
pub first_failed : (f : FunctionData) (t : Test) (v : Violation) → IsTestOf f t → PassesBefore f t →
    (Passes f t → ⊥) →
    Shows f t v → IsFirstViolation f v
first_failed f t v is before fails shows =
    let (passed, first) = fails_first f t is before fails in
    record { before = passed; test = t; first = first; shows = shows }

-- if there is a first violation not all tests pass
pub first_denies : (f : FunctionData) (v : Violation) → IsFirstViolation f v → PassesAll f → ⊥
first_denies f v h = first_failing_denies_all (Passes f) (tests_of f) h.before h.test h.first
