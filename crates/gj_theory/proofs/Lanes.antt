-- Values and limits as lanes: once the tests of signs and of symmetry pass they are naturals up to
-- the scale, and the limits of the slack in a square are sums of such naturals.
use Rattle.std.proofs.Common.{◌≡◌, ◌↔◌, ℕ, zero, suc, ◌+◌, ◌-◌, ◌%◌, ◌<◌, ◌≤◌, min, max, ℤ, pos, ◌+ℤ◌, ◌≤ℤ◌, List, length, get_or, map, lit<, refl, sym, ap, subst, ◌∙◌, below_none, below_more, arith}
use Rattle.std.proofs.Math.Nat.{add_comm, add-mod, mod-lt}
use Rattle.std.proofs.lemmas.Int.{ints}
use Rattle.std.proofs.lemmas.List.{get_or-map}
use Rattle.gj_shape.specs.FunctionData.{FunctionData, IsWithinBounds, IsContinuous, at}
use Rattle.gj_shape.specs.Faces.{corners_of, limits_of, slack_from}
use Rattle.gj_shape.specs.FirstViolation.{Passes}
use Rattle.gj_shape.specs.FirstViolation.Test.{subadditive_at}
use Rattle.gj_shape.specs.declared.faces.FaceKind.{FaceKind}
use Rattle.gj_shape.specs.declared.faces.FaceKind.TheVariants.{Vertex, Horizontal, Vertical, Diagonal, Lower, Upper}
use Rattle.gj_shape.proofs.AtLemmas.{at_plus_length, at_wrapped}
use Rattle.gj_shape.proofs.TableLemmas.{slack_at, limits_are_slacks}
use Rattle.gj_theory.specs.EarlierTests.{PassesSymmetry}
use Rattle.gj_theory.proofs.Everywhere.{everywhere}

-- ---- from 0 to the scale

-- what holds of each entry one further on than an index below the length
pub each_below : (P : ℤ → Type 0) (xs : List ℤ) (n : ℕ) → length xs ≡ n →
    ((i : ℕ) → i < n → P (at xs (i + 1))) →
    (i : ℕ) → i < n → P (at xs i)
each_below P xs n len h zero below =
    let last : n - 1 + 1 ≡ 0 + length xs = omega arith in
    subst P (ap (at xs) last ∙ at_plus_length xs 0) (h (n - 1) (omega arith))
each_below P xs n len h (suc i) below =
    let next : i + 1 ≡ suc i = omega arith in
    subst P (ap (at xs) next) (h i (omega arith))

everywhere_after : (P : ℤ → Type 0) (xs : List ℤ) (n : ℕ) → length xs ≡ n → 0 < n →
    ((i : ℕ) → i < n → P (at xs (i + 1))) →
    (i : ℕ) → P (at xs i)
everywhere_after P xs n len some h = everywhere P xs n len some (each_below P xs n len h)

-- the values and limits are from 0 to the scale
pub record AreBounded (f : FunctionData) : Type 0 where
  pub value_low : (i : ℕ) → pos 0 ≤ℤ at f.value i
  pub value_high : (i : ℕ) → at f.value i ≤ℤ pos f.scale
  pub left_low : (i : ℕ) → pos 0 ≤ℤ at f.left i
  pub left_high : (i : ℕ) → at f.left i ≤ℤ pos f.scale
  pub right_low : (i : ℕ) → pos 0 ≤ℤ at f.right i
  pub right_high : (i : ℕ) → at f.right i ≤ℤ pos f.scale

at_most : (x y : ℤ) (s : ℕ) → x +ℤ y ≡ pos s → pos 0 ≤ℤ y → x ≤ℤ pos s
at_most x y s e low = omega (arith, ints)

pub are_bounded : (f : FunctionData) → IsWithinBounds f → PassesSymmetry f → AreBounded f
are_bounded f l h =
    let some : 0 < f.order = omega arith in
    let values = everywhere (λ z. pos 0 ≤ℤ z) f.value f.order l.value_length some
    h.mirrors.signs.values.nonnegative in
    let lefts = everywhere_after (λ z. pos 0 ≤ℤ z) f.left f.order l.left_length some
    h.mirrors.signs.before in
    let rights = everywhere (λ z. pos 0 ≤ℤ z) f.right f.order l.right_length some
    h.mirrors.signs.after in
    record {
      value_low = values;
      value_high = everywhere (λ z. z ≤ℤ pos f.scale) f.value f.order l.value_length some
          (λ i below. at_most _ _ f.scale (h.mirrors.symmetric i below)
          (values (f.place + (f.order - i))));
      left_low = lefts;
      left_high = everywhere_after (λ z. z ≤ℤ pos f.scale) f.left f.order l.left_length some
          (λ i below. at_most _ _ f.scale (h.between i below).1
          (rights (f.place + (f.order - (i + 1)))));
      right_low = rights;
      right_high = everywhere (λ z. z ≤ℤ pos f.scale) f.right f.order l.right_length some
          (λ i below. at_most _ _ f.scale (h.between i below).0 (lefts (f.place + (f.order - i))));
    }

-- a maximum that is 0
pub max_zero : (x y m : ℕ) → m ≡ max x y → (m ≡ 0) ↔ ((x ≡ 0) × (y ≡ 0))
max_zero x y m e = (λ h. (omega arith, omega arith), λ h. omega arith)

-- ---- all limits of the slack in a square

-- the limits at the corners of all faces of the square (a, b) pass
abbrev pub PassesAt : FunctionData → ℕ → ℕ → Type 0
PassesAt f a b =
    (kind : FaceKind) (c : ℕ) → c < length (corners_of kind a b) →
    Passes f (subadditive_at kind a b c)

-- what holds at one, two or three corners
one_corner : (P : ℕ → Type 0) → P 0 → (c : ℕ) → c < 1 → P c
one_corner P p = below_more P 0 (below_none P) p

two_corners : (P : ℕ → Type 0) → P 0 → P 1 → (c : ℕ) → c < 2 → P c
two_corners P p q = below_more P 1 (one_corner P p) q

three_corners : (P : ℕ → Type 0) → P 0 → P 1 → P 2 → (c : ℕ) → c < 3 → P c
three_corners P p q r = below_more P 2 (two_corners P p q) r

-- a slack does not change if its two terms change places
swapped : (x y s t : ℤ) → s ≡ t → pos 0 ≤ℤ slack_from x y s → pos 0 ≤ℤ slack_from y x t
swapped x y s t e h = omega (arith, ints)

-- so the slack at (b/q, a/q) is that at (a/q, b/q)
pub mirrored_vertex : (f : FunctionData) (a b : ℕ) → Passes f (subadditive_at Vertex a b 0) →
    Passes f (subadditive_at Vertex b a 0)
mirrored_vertex f a b h =
    swapped (at f.value a) (at f.value b) _ _ (ap (at f.value) (add_comm a b)) h

-- and the limits in the square (b, a) are those in the square (a, b)
pub mirrored_square : (f : FunctionData) (a b : ℕ) → PassesAt f a b → PassesAt f b a
mirrored_square f a b h Vertex =
    one_corner (λ c. Passes f (subadditive_at Vertex b a c))
    (mirrored_vertex f a b (h Vertex 0 (lit< tt)))
mirrored_square f a b h Horizontal =
    let sum = λ (xs : List ℤ). ap (at xs) (add_comm a b) in
    let next = λ (xs : List ℤ). ap (λ i. at xs (i + 1)) (add_comm a b) in
    two_corners (λ c. Passes f (subadditive_at Horizontal b a c))
    (swapped (at f.value a) (at f.right b) _ _ (sum f.right) (h Vertical 0 (lit< tt)))
    (swapped (at f.value a) (at f.left (b + 1)) _ _ (next f.left) (h Vertical 1 (lit< tt)))
mirrored_square f a b h Vertical =
    let sum = λ (xs : List ℤ). ap (at xs) (add_comm a b) in
    let next = λ (xs : List ℤ). ap (λ i. at xs (i + 1)) (add_comm a b) in
    two_corners (λ c. Passes f (subadditive_at Vertical b a c))
    (swapped (at f.right a) (at f.value b) _ _ (sum f.right) (h Horizontal 0 (lit< tt)))
    (swapped (at f.left (a + 1)) (at f.value b) _ _ (next f.left) (h Horizontal 1 (lit< tt)))
mirrored_square f a b h Diagonal =
    let next = λ (xs : List ℤ). ap (λ i. at xs (i + 1)) (add_comm a b) in
    two_corners (λ c. Passes f (subadditive_at Diagonal b a c))
    (swapped (at f.right a) (at f.left (b + 1)) _ _ (next f.value) (h Diagonal 1 (lit< tt)))
    (swapped (at f.left (a + 1)) (at f.right b) _ _ (next f.value) (h Diagonal 0 (lit< tt)))
mirrored_square f a b h Lower =
    let sum = λ (xs : List ℤ). ap (at xs) (add_comm a b) in
    let next = λ (xs : List ℤ). ap (λ i. at xs (i + 1)) (add_comm a b) in
    three_corners (λ c. Passes f (subadditive_at Lower b a c))
    (swapped (at f.right a) (at f.right b) _ _ (sum f.right) (h Lower 0 (lit< tt)))
    (swapped (at f.right a) (at f.left (b + 1)) _ _ (next f.left) (h Lower 2 (lit< tt)))
    (swapped (at f.left (a + 1)) (at f.right b) _ _ (next f.left) (h Lower 1 (lit< tt)))
mirrored_square f a b h Upper =
    let next = λ (xs : List ℤ). ap (λ i. at xs (i + 1)) (add_comm a b) in
    let last = λ (xs : List ℤ). ap (λ i. at xs (i + 1 + 1)) (add_comm a b) in
    three_corners (λ c. Passes f (subadditive_at Upper b a c))
    (swapped (at f.right a) (at f.left (b + 1)) _ _ (next f.right) (h Upper 1 (lit< tt)))
    (swapped (at f.left (a + 1)) (at f.right b) _ _ (next f.right) (h Upper 0 (lit< tt)))
    (swapped (at f.left (a + 1)) (at f.left (b + 1)) _ _ (last f.left) (h Upper 2 (lit< tt)))

-- ---- over lanes

-- the lanes are the values and the limits from the right at the indices below n, and the limits
-- from the left one further on
pub record HasLanes (f : FunctionData) (left value right : ℕ → ℕ) (n : ℕ) : Type 0 where
  pub lefts : (i : ℕ) → i < n → pos (left i) ≡ at f.left (i + 1)
  pub values : (i : ℕ) → i < n → pos (value i) ≡ at f.value i
  pub rights : (i : ℕ) → i < n → pos (right i) ≡ at f.right i

-- no limit of the slack in the square (a, b) but that at its vertex is negative, over lanes
pub record FitLanes (left value right : ℕ → ℕ) (a b : ℕ) : Type 0 where
  pub horizontal : (right (a + b) ≤ right a + value b) × (left (a + b) ≤ left a + value b)
  pub vertical : (right (a + b) ≤ value a + right b) × (left (a + b) ≤ value a + left b)
  pub diagonal : (value (a + b + 1) ≤ left a + right b) × (value (a + b + 1) ≤ right a + left b)
  pub lower : (right (a + b) ≤ right a + right b) × (left (a + b) ≤ left a + right b)
      × (left (a + b) ≤ right a + left b)
  pub upper : (right (a + b + 1) ≤ left a + right b) × (right (a + b + 1) ≤ right a + left b)
      × (left (a + b + 1) ≤ left a + left b)

-- the same, by where the sum is: at the sum of the indices, before and at the next index, and
-- before the one after that
pub record FitAtSums (left value right : ℕ → ℕ) (a b : ℕ) : Type 0 where
  pub at_sum : (right (a + b) ≤ right a + value b)
      × (right (a + b) ≤ min (right a) (value a) + right b)
  pub before_next : (left (a + b) ≤ left a + min (value b) (right b))
      × (left (a + b) ≤ min (right a) (value a) + left b)
  pub at_next : (max (value (a + b + 1)) (right (a + b + 1)) ≤ left a + right b)
      × (max (value (a + b + 1)) (right (a + b + 1)) ≤ right a + left b)
  pub before_last : left (a + b + 1) ≤ left a + left b

min_above : (s t x y : ℕ) → (s ≤ t + min x y) ↔ ((s ≤ t + x) × (s ≤ t + y))
min_above s t x y = (λ h. (omega arith, omega arith), λ h. omega arith)

min_above_first : (s t x y : ℕ) → (s ≤ min x y + t) ↔ ((s ≤ x + t) × (s ≤ y + t))
min_above_first s t x y = (λ h. (omega arith, omega arith), λ h. omega arith)

max_below : (x y t : ℕ) → (max x y ≤ t) ↔ ((x ≤ t) × (y ≤ t))
max_below x y t = (λ h. (omega arith, omega arith), λ h. omega arith)

pub fit_from_sums : (left value right : ℕ → ℕ) (a b : ℕ) → FitAtSums left value right a b →
    FitLanes left value right a b
fit_from_sums left value right a b h =
    let sum = (min_above_first (right (a + b)) (right b) (right a) (value a)).0 h.at_sum.1 in
    let next = (min_above (left (a + b)) (left a) (value b) (right b)).0 h.before_next.0 in
    let next_first = (min_above_first (left (a + b)) (left b) (right a) (value a)).0
    h.before_next.1 in
    let across = (max_below (value (a + b + 1)) (right (a + b + 1)) (left a + right b)).0
    h.at_next.0 in
    let across_first = (max_below (value (a + b + 1)) (right (a + b + 1)) (right a + left b)).0
    h.at_next.1 in
    record {
      horizontal = (h.at_sum.0, next.0);
      vertical = (sum.1, next_first.1);
      diagonal = (across.0, across_first.0);
      lower = (sum.0, next.1, next_first.0);
      upper = (across.1, across_first.1, h.before_last);
    }

pub fit_at_sums : (left value right : ℕ → ℕ) (a b : ℕ) → FitLanes left value right a b →
    FitAtSums left value right a b
fit_at_sums left value right a b h = record {
  at_sum = (
    h.horizontal.0,
    (min_above_first (right (a + b)) (right b) (right a) (value a)).1 (h.lower.0, h.vertical.0),
  );
  before_next = (
    (min_above (left (a + b)) (left a) (value b) (right b)).1 (h.horizontal.1, h.lower.1),
    (min_above_first (left (a + b)) (left b) (right a) (value a)).1 (h.lower.2, h.vertical.1),
  );
  at_next = (
    (max_below (value (a + b + 1)) (right (a + b + 1)) (left a + right b)).1
        (h.diagonal.0, h.upper.0),
    (max_below (value (a + b + 1)) (right (a + b + 1)) (right a + left b)).1
        (h.diagonal.1, h.upper.1),
  );
  before_last = h.upper.2;
}

slack_of_lanes : (x y s : ℕ) (u v t : ℤ) → pos x ≡ u → pos y ≡ v → pos s ≡ t →
    (s ≤ x + y) ↔ (pos 0 ≤ℤ slack_from u v t)
slack_of_lanes x y s u v t e g h = (λ fits. omega (arith, ints), λ fits. omega (arith, ints))

-- the test at a vertex
pub vertex_of_lanes : (f : FunctionData) (value : ℕ → ℕ) (n a b : ℕ) →
    ((i : ℕ) → i < n → pos (value i) ≡ at f.value i) →
    a + b < n → (value (a + b) ≤ value a + value b) ↔ Passes f (subadditive_at Vertex a b 0)
vertex_of_lanes f value n a b has below =
    slack_of_lanes _ _ _ _ _ _ (has a (omega arith)) (has b (omega arith)) (has (a + b) below)

-- the other tests in a square, each over lanes
record AreTested (f : FunctionData) (left value right : ℕ → ℕ) (a b : ℕ) : Type 0 where
  horizontal : (right (a + b) ≤ right a + value b) ↔ Passes f (subadditive_at Horizontal a b 0)
  horizontal_end : (left (a + b) ≤ left a + value b) ↔ Passes f (subadditive_at Horizontal a b 1)
  vertical : (right (a + b) ≤ value a + right b) ↔ Passes f (subadditive_at Vertical a b 0)
  vertical_end : (left (a + b) ≤ value a + left b) ↔ Passes f (subadditive_at Vertical a b 1)
  diagonal : (value (a + b + 1) ≤ left a + right b) ↔ Passes f (subadditive_at Diagonal a b 0)
  diagonal_end : (value (a + b + 1) ≤ right a + left b) ↔ Passes f (subadditive_at Diagonal a b 1)
  lower : (right (a + b) ≤ right a + right b) ↔ Passes f (subadditive_at Lower a b 0)
  lower_first : (left (a + b) ≤ left a + right b) ↔ Passes f (subadditive_at Lower a b 1)
  lower_second : (left (a + b) ≤ right a + left b) ↔ Passes f (subadditive_at Lower a b 2)
  upper_first : (right (a + b + 1) ≤ left a + right b) ↔ Passes f (subadditive_at Upper a b 0)
  upper_second : (right (a + b + 1) ≤ right a + left b) ↔ Passes f (subadditive_at Upper a b 1)
  upper : (left (a + b + 1) ≤ left a + left b) ↔ Passes f (subadditive_at Upper a b 2)

are_tested : (f : FunctionData) (left value right : ℕ → ℕ) (n a b : ℕ) →
    HasLanes f left value right n →
    a + b + 1 < n → AreTested f left value right a b
are_tested f left value right n a b has below =
    let first : a < n = omega arith in
    let second : b < n = omega arith in
    let sum : a + b < n = omega arith in
    let l = has.lefts a first in
    let v = has.values a first in
    let r = has.rights a first in
    let l' = has.lefts b second in
    let v' = has.values b second in
    let r' = has.rights b second in
    record {
      horizontal = slack_of_lanes _ _ _ _ _ _ r v' (has.rights (a + b) sum);
      horizontal_end = slack_of_lanes _ _ _ _ _ _ l v' (has.lefts (a + b) sum);
      vertical = slack_of_lanes _ _ _ _ _ _ v r' (has.rights (a + b) sum);
      vertical_end = slack_of_lanes _ _ _ _ _ _ v l' (has.lefts (a + b) sum);
      diagonal = slack_of_lanes _ _ _ _ _ _ l r' (has.values (a + b + 1) below);
      diagonal_end = slack_of_lanes _ _ _ _ _ _ r l' (has.values (a + b + 1) below);
      lower = slack_of_lanes _ _ _ _ _ _ r r' (has.rights (a + b) sum);
      lower_first = slack_of_lanes _ _ _ _ _ _ l r' (has.lefts (a + b) sum);
      lower_second = slack_of_lanes _ _ _ _ _ _ r l' (has.lefts (a + b) sum);
      upper_first = slack_of_lanes _ _ _ _ _ _ l r' (has.rights (a + b + 1) below);
      upper_second = slack_of_lanes _ _ _ _ _ _ r l' (has.rights (a + b + 1) below);
      upper = slack_of_lanes _ _ _ _ _ _ l l' (has.lefts (a + b + 1) below);
    }

each_passes : (f : FunctionData) (left value right : ℕ → ℕ) (a b : ℕ) →
    AreTested f left value right a b →
    Passes f (subadditive_at Vertex a b 0) → FitLanes left value right a b → PassesAt f a b
each_passes f left value right a b t vertex fit Vertex =
    one_corner (λ c. Passes f (subadditive_at Vertex a b c)) vertex
each_passes f left value right a b t vertex fit Horizontal =
    two_corners (λ c. Passes f (subadditive_at Horizontal a b c)) (t.horizontal.0 fit.horizontal.0)
    (t.horizontal_end.0 fit.horizontal.1)
each_passes f left value right a b t vertex fit Vertical =
    two_corners (λ c. Passes f (subadditive_at Vertical a b c)) (t.vertical.0 fit.vertical.0)
    (t.vertical_end.0 fit.vertical.1)
each_passes f left value right a b t vertex fit Diagonal =
    two_corners (λ c. Passes f (subadditive_at Diagonal a b c)) (t.diagonal.0 fit.diagonal.0)
    (t.diagonal_end.0 fit.diagonal.1)
each_passes f left value right a b t vertex fit Lower =
    three_corners (λ c. Passes f (subadditive_at Lower a b c)) (t.lower.0 fit.lower.0)
    (t.lower_first.0 fit.lower.1)
    (t.lower_second.0 fit.lower.2)
each_passes f left value right a b t vertex fit Upper =
    three_corners (λ c. Passes f (subadditive_at Upper a b c)) (t.upper_first.0 fit.upper.0)
    (t.upper_second.0 fit.upper.1) (t.upper.0 fit.upper.2)

-- the tests in a square pass if no limit is negative over lanes
pub square_passes : (f : FunctionData) (left value right : ℕ → ℕ) (n a b : ℕ) →
    HasLanes f left value right n →
    a + b + 1 < n → Passes f (subadditive_at Vertex a b 0) → FitLanes left value right a b →
    PassesAt f a b
square_passes f left value right n a b has below =
    each_passes f left value right a b (are_tested f left value right n a b has below)

-- and only there
pub square_fits : (f : FunctionData) (left value right : ℕ → ℕ) (n a b : ℕ) →
    HasLanes f left value right n →
    a + b + 1 < n → PassesAt f a b → FitLanes left value right a b
square_fits f left value right n a b has below h =
    let t = are_tested f left value right n a b has below in
    record {
      horizontal = (
        t.horizontal.1 (h Horizontal 0 (lit< tt)),
        t.horizontal_end.1
            (h Horizontal 1 (lit< tt)),
      );
      vertical = (t.vertical.1 (h Vertical 0 (lit< tt)), t.vertical_end.1 (h Vertical 1 (lit< tt)));
      diagonal = (t.diagonal.1 (h Diagonal 0 (lit< tt)), t.diagonal_end.1 (h Diagonal 1 (lit< tt)));
      lower = (
        t.lower.1 (h Lower 0 (lit< tt)),
        t.lower_first.1 (h Lower 1 (lit< tt)),
        t.lower_second.1 (h Lower 2 (lit< tt)),
      );
      upper = (
        t.upper_first.1 (h Upper 0 (lit< tt)),
        t.upper_second.1 (h Upper 1 (lit< tt)),
        t.upper.1 (h Upper 2 (lit< tt)),
      );
    }

-- ---- a continuous function

-- if no slack at grid points is negative, none is at indices from the order on
vertex_anywhere : (f : FunctionData) → IsWithinBounds f →
    ((a b : ℕ) → a < f.order → b < f.order → Passes f (subadditive_at Vertex a b 0)) →
    (a b : ℕ) → pos 0 ≤ℤ slack_at f (a, b)
vertex_anywhere f l h a b =
    let n = f.order in
    let some : 0 < f.order = omega (arith, l.order_low) in
    let first : at f.value (a % n) ≡ at f.value a =
    at_wrapped f.value a (a % n) n l.value_length refl in
    let second : at f.value (b % n) ≡ at f.value b =
    at_wrapped f.value b (b % n) n l.value_length refl in
    let sum : at f.value (a % n + b % n) ≡ at f.value (a + b) =
    sym (at_wrapped f.value (a % n + b % n) ((a + b) % n) n l.value_length (add-mod a b n))
    ∙ at_wrapped f.value (a + b) ((a + b) % n) n l.value_length refl in
    let within = h (a % n) (b % n) (mod-lt a some) (mod-lt b some) in
    omega (arith, ints, within, first, second, sum)

-- so all limits pass, since they are slacks at grid points
pub continuous_square : (f : FunctionData) → IsWithinBounds f → IsContinuous f →
    ((a b : ℕ) → a < f.order → b < f.order → Passes f (subadditive_at Vertex a b 0)) → (a b : ℕ) →
    PassesAt f a b
continuous_square f l continuous h a b kind c below =
    let corners = corners_of kind a b in
    let corner = get_or corners c (0, 0) in
    let slack : get_or (map (slack_at f) corners) c (pos 0) ≡ slack_at f corner =
    get_or-map (slack_at f) corners c (0, 0) (pos 0) below in
    let limit : get_or (limits_of f kind a b) c (pos 0) ≡ slack_at f corner =
    ap (λ ns. get_or ns c (pos 0)) (limits_are_slacks f kind a b continuous) ∙ slack in
    subst (λ z. pos 0 ≤ℤ z) (sym limit) (vertex_anywhere f l h corner.0 corner.1)
