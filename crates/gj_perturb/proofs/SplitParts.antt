-- From the parts of a split to the halves.
use Rattle.std.proofs.Common.{◌≡◌, ◌≢◌, ℕ, ◌*◌, ◌<◌, ◌≤◌, ◌^◌, ℤ, pos, neg_ℤ, ◌+ℤ◌, ◌-ℤ◌, ◌*ℤ◌, ◌≤ℤ◌, List, length, get_or, map, All, unsigned_abs, to_z, refl, sym, ap, ap₂, subst, ◌∙◌, mul-pos, mul-le-mul_right, arith}
use Rattle.std.specs.List.{range_with_len}
use Rattle.std.proofs.Math.Nat.{mul-le-mul_left}
use Rattle.std.proofs.lemmas.Int.{ints, unsigned_abs-mul, to_z-of_z, to_z_pos, fits_signed_from_abs}
use Rattle.std.proofs.lemmas.List.FromFn.{fill_by_all, get_or-map-range_with_len, length-map-range_with_len}
use Rattle.gj_lemmas.proofs.Integers.{abs_add_z, abs_zero_z, neg_mul_z}
use Rattle.gj_lemmas.proofs.Lists.{All-made}
use Rattle.gj_shape.specs.FunctionData.{FunctionData, IsWithinBounds, at}
use Rattle.gj_shape.specs.Perturbation.{IsLeastSlack, IsGreatestSize, AreHalvesOf, AreHalvesInBounds}
use Rattle.gj_shape.specs.Table.{table, IsMinimal}
use Rattle.gj_shape.specs.declared.extremality.Halves.{Halves}
use Rattle.gj_shape.proofs.AtLemmas.{at_below}
use Rattle.gj_theory.specs.Halves.{AreDifferentHalves}
use Rattle.gj_theory.proofs.HalvesAsLists.{lists_are_halves}
use Rattle.gj_perturb.specs.Moves.{moved_at, IsSmallMove}
use Rattle.gj_frac.specs.Fraction.{Fits}
use Rattle.gj_perturb.specs.Split.{CanSplit, IsWide}
use Rattle.gj_perturb.specs.declared.tables.Perturbation.{Perturbation}
use Rattle.gj_perturb.proofs.TableParts.{entry_at_most, listed_at, HasLeastSlack, has_least_slack}
use Rattle.gj_perturb.proofs.MovedEntries.{wide}
use mir.Syntax.{w128}

-- two lists made from functions that agree
map_same : (g h : ℕ → ℤ) (n : ℕ) → ((i : ℕ) → i < n → g i ≡ h i) →
    map g (range_with_len 0 n) ≡ map h (range_with_len 0 n)
map_same g h n e =
    fill_by_all h (map g (range_with_len 0 n)) n (pos 0) (length-map-range_with_len g 0 n)
    (λ i below. get_or-map-range_with_len g 0 n i i (pos 0) below (omega arith) ∙ e i below)

-- what the halves are made from: the greatest size, the table over two periods, and its least
-- positive slack
pub record AreParts (f : FunctionData) (p : Perturbation) (size : ℕ) (x : ℤ) (values xs : List ℤ) :
    Type 0 where
  pub within : IsWithinBounds f
  pub minimal : IsMinimal f
  pub can : CanSplit f p
  pub values_is : values ≡ p.values
  pub greatest : IsGreatestSize (at values) size
  pub narrow : 3 * size * (f.scale * p.times) ≤ 2 ^ 124
  pub table_is : xs ≡ map (table f p.times) (range_with_len 0 (f.order * p.times))
  pub u : ℕ
  pub same : x ≡ pos u
  pub least : IsLeastSlack f p.times u

pub parts_of : (f : FunctionData) (p : Perturbation) (size u : ℕ) (values xs : List ℤ) →
    IsWithinBounds f → IsMinimal f →
    CanSplit f p → values ≡ p.values → IsGreatestSize (at values) size →
    3 * size * (f.scale * p.times) ≤ 2 ^ 124 →
    xs ≡ map (table f p.times) (range_with_len 0 (f.order * p.times)) → IsLeastSlack f p.times u →
    AreParts f p size (pos u) values xs
parts_of f p size u values xs within minimal can values_is greatest narrow table_is least = record {
  within = within;
  minimal = minimal;
  can = can;
  values_is = values_is;
  greatest = greatest;
  narrow = narrow;
  table_is = table_is;
  u = u;
  same = refl;
  least = least;
}

-- ---- what the code reads

pub size_fits : (size d m : ℕ) → 1 ≤ d → 1 ≤ m → 3 * size * (d * m) ≤ 2 ^ 124 → 3 * size ≤ 2 ^ 124
size_fits size d m d_some m_some narrow =
    let unit : 0 < d * m = mul-pos d_some m_some in
    let least : 3 * size * 1 ≤ 3 * size * (d * m) = mul-le-mul_left (3 * size) unit in
    omega arith

pub step_read : (u : ℕ) → u < 2 ^ 64 → wide (pos u) ≡ pos u
step_read u small = to_z-of_z w128 (pos u) (omega (arith, ints))

pub factor_read : (size : ℕ) → 3 * size ≤ 2 ^ 124 → wide (pos 3 *ℤ to_z w128 size) ≡ pos (3 * size)
factor_read size small =
    ap (λ z. wide (pos 3 *ℤ z)) (to_z_pos w128 size (omega arith))
    ∙ to_z-of_z w128 (pos (3 * size)) (fits_signed_from_abs w128 (pos (3 * size)) (omega arith))

turned : (x : ℤ) → pos 0 -ℤ x ≡ neg_ℤ x
turned x = omega (arith, ints)

pub turned_read : (y : ℤ) (u : ℕ) → y ≡ pos u → u < 2 ^ 64 → wide (pos 0 -ℤ y) ≡ neg_ℤ (pos u)
turned_read y u e small =
    ap (λ z. wide (pos 0 -ℤ z)) e ∙ to_z-of_z w128 (pos 0 -ℤ pos u) (omega (arith, ints))
    ∙ turned (pos u)

pub count_is : (f : FunctionData) (p : Perturbation) (size : ℕ) (x : ℤ) (values xs : List ℤ) →
    AreParts f p size x values xs →
    length values ≡ f.order * p.times
count_is f p size x values xs h = ap length h.values_is ∙ h.can.whole

slack_is : (f : FunctionData) (p : Perturbation) (size : ℕ) (x : ℤ) (values xs : List ℤ) →
    AreParts f p size x values xs →
    HasLeastSlack f p.times x
slack_is f p size x values xs h =
    has_least_slack f p.times x h.u h.within h.minimal h.can.times_low h.same h.least

-- the greatest size is not 0
pub size_some : (p : ℕ → ℤ) (size i : ℕ) → IsGreatestSize p size → p i ≢ pos 0 → 0 < size
size_some p size i h some =
    let most = h.greatest i in
    let apart : unsigned_abs (p i) ≢ 0 = λ e. some (abs_zero_z (p i) e) in
    omega arith

pub product_at_most : (a b : ℕ) (x y : ℤ) → unsigned_abs x ≤ a → unsigned_abs y ≤ b →
    unsigned_abs (x *ℤ y) ≤ a * b
product_at_most a b x y first second =
    let size : unsigned_abs (x *ℤ y) ≡ unsigned_abs x * unsigned_abs y = unsigned_abs-mul x y in
    let left : unsigned_abs x * unsigned_abs y ≤ a * unsigned_abs y =
    mul-le-mul_right (unsigned_abs y) first in
    let right : a * unsigned_abs y ≤ a * b = mul-le-mul_left a second in
    omega arith

-- the products that an entry is made from are small
pub small_move : (f : FunctionData) (p : Perturbation) (size : ℕ) (x : ℤ) (values xs : List ℤ) →
    AreParts f p size x values xs →
    (step : ℤ) → unsigned_abs step ≡ unsigned_abs x → (i : ℕ) → i < length values →
    IsSmallMove xs (pos (3 * size)) values step i
small_move f p size x values xs h step same i below =
    let m = p.times in
    let s = f.scale * p.times in
    let n = f.order * p.times in
    let count : length values ≡ f.order * p.times = count_is f p size x values xs h in
    let n_some : 0 < f.order * p.times = omega arith in
    let here : get_or xs i (pos 0) ≡ table f p.times i =
    listed_at (table f m) xs n i h.table_is (omega arith) in
    let entry : unsigned_abs (get_or xs i (pos 0)) ≤ f.scale * p.times =
    subst (λ z. unsigned_abs z ≤ f.scale * p.times) (sym here)
    (entry_at_most (table f m) n (f.place * m) s i n_some (h.minimal m h.can.times_low)) in
    let value : unsigned_abs (get_or values i (pos 0)) ≤ size =
    subst (λ z. unsigned_abs z ≤ size) (at_below values i below) (h.greatest.greatest i) in
    let slack = slack_is f p size x values xs h in
    let step_is : unsigned_abs step ≡ slack.u = same ∙ ap unsigned_abs slack.same in
    let step_small : unsigned_abs step ≤ 2 * (f.scale * p.times) = let small = slack.small in
    omega arith in
    let first : unsigned_abs (pos (3 * size) *ℤ get_or xs i (pos 0))
    ≤ 3 * size * (f.scale * p.times) =
    product_at_most (3 * size) s (pos (3 * size)) (get_or xs i (pos 0)) (omega arith) entry in
    let second : unsigned_abs (step *ℤ get_or values i (pos 0)) ≤ 2 * (f.scale * p.times) * size =
    product_at_most (2 * s) size step (get_or values i (pos 0)) step_small value in
    let narrow : 3 * size * (f.scale * p.times) ≤ 2 ^ 124 = h.narrow in
    record { entry = omega arith; move = omega arith }

-- ---- the halves

-- the two lists that the code makes, and the order and the scale
pub record AreMade (f : FunctionData) (p : Perturbation) (size : ℕ) (x : ℤ) (values xs : List ℤ)
    (h : Halves) : Type 0 where
  pub order : h.order ≡ f.order * p.times
  pub scale : h.scale ≡ pos (3 * size * (f.scale * p.times))
  pub first : h.first ≡ map (moved_at xs (pos (3 * size)) values x)
      (range_with_len 0 (length values))
  pub second : h.second ≡ map (moved_at xs (pos (3 * size)) values (neg_ℤ x))
      (range_with_len 0 (length values))

moved_down : (a x y z : ℤ) → a *ℤ x +ℤ neg_ℤ y *ℤ z ≡ a *ℤ x -ℤ y *ℤ z
moved_down a x y z = ap (λ t. a *ℤ x +ℤ t) (neg_mul_z y z)

pub are_halves : (f : FunctionData) (p : Perturbation) (size : ℕ) (x : ℤ) (values xs : List ℤ)
    (made : Halves) →
    AreParts f p size x values xs → AreMade f p size x values xs made →
    AreHalvesOf f p.times (at p.values) made
are_halves f p size x values xs made h d =
    let m = p.times in
    let n = f.order * p.times in
    let slack = slack_is f p size x values xs h in
    let count : length values ≡ f.order * p.times = count_is f p size x values xs h in
    let entry = λ (i : ℕ) (below : i < f.order * p.times).
    listed_at (table f m) xs n i h.table_is (omega arith) in
    let value = λ (i : ℕ) (below : i < f.order * p.times).
    sym (at_below values i (omega arith)) ∙ ap (λ ys. at ys i) h.values_is in
    record {
      u = slack.u;
      p = size;
      least_slack = slack.least;
      greatest_size = subst (λ ys. IsGreatestSize (at ys) size) h.values_is h.greatest;
      order = d.order;
      scale = d.scale;
      first = d.first ∙ ap (λ k. map (moved_at xs (pos (3 * size)) values x) (range_with_len 0 k))
          count
          ∙ map_same (moved_at xs (pos (3 * size)) values x)
          (λ i. pos (3 * size) *ℤ table f p.times i +ℤ pos slack.u *ℤ at p.values i) n
          (λ i below. ap₂ (λ y z. pos (3 * size) *ℤ y +ℤ z) (entry i below)
          (ap₂ (λ y z. y *ℤ z) slack.same (value i below)));
      second = d.second ∙ ap
          (λ k. map (moved_at xs (pos (3 * size)) values (neg_ℤ x)) (range_with_len 0 k)) count
          ∙ map_same (moved_at xs (pos (3 * size)) values (neg_ℤ x))
          (λ i. pos (3 * size) *ℤ table f p.times i -ℤ pos slack.u *ℤ at p.values i) n
          (λ i below. moved_down (pos (3 * size)) (get_or xs i (pos 0)) x (get_or values i (pos 0))
          ∙ ap₂ (λ y z. pos (3 * size) *ℤ y -ℤ z) (entry i below)
          (ap₂ (λ y z. y *ℤ z) slack.same (value i below)));
    }

pub are_different : (f : FunctionData) (p : Perturbation) (size : ℕ) (x : ℤ) (values xs : List ℤ)
    (made : Halves) →
    AreParts f p size x values xs → AreMade f p size x values xs made → (other : ℕ) →
    IsGreatestSize (at p.values) other →
    AreDifferentHalves (table f p.times) (f.order * p.times) (f.place * p.times) (f.scale * p.times)
    (3 * other)
    (at made.first) (at made.second)
unfolding are_halves
are_different f p size x values xs made h d other greatest =
    let halves = are_halves f p size x values xs made h d in
    let different = lists_are_halves f p.times (at p.values) made h.can.index h.within h.minimal
    h.can.times_low
    h.can.perturbation h.can.not_zero halves in
    subst (λ k. AreDifferentHalves (table f p.times) (f.order * p.times) (f.place * p.times)
    (f.scale * p.times) (3 * k)
    (at made.first) (at made.second))
    (one_size (at p.values) size other
    (subst (λ ys. IsGreatestSize (at ys) size) h.values_is h.greatest) greatest) different
  where
    one_size : (g : ℕ → ℤ) (a b : ℕ) → IsGreatestSize g a → IsGreatestSize g b → a ≡ b
    one_size g a b first second =
        let low = second.greatest first.i in
        let high = first.greatest second.i in
        let first_is = first.reached in
        let second_is = second.reached in
        omega arith

all_fit : (xs : List ℤ) (factor : ℤ) (values : List ℤ) (step : ℤ) (ys : List ℤ) →
    ((i : ℕ) → i < length values → IsSmallMove xs factor values step i) →
    ys ≡ map (moved_at xs factor values step) (range_with_len 0 (length values)) → All Fits ys
all_fit xs factor values step ys small e =
    subst (All Fits) (sym e)
    (All-made Fits (moved_at xs factor values step) 0 (length values)
    (λ i below.
    let here = small i (omega arith) in
    let entry = here.entry in
    let move = here.move in
    let both = abs_add_z (factor *ℤ get_or xs i (pos 0)) (step *ℤ get_or values i (pos 0)) in
    omega arith))

pub fit_proof_text : (f : FunctionData) (p : Perturbation) (size : ℕ) (x : ℤ) (values xs : List ℤ)
    (made : Halves) →
    AreParts f p size x values xs → AreMade f p size x values xs made → AreHalvesInBounds made
fit_proof_text f p size x values xs made h d =
    let count : length values ≡ f.order * p.times = count_is f p size x values xs h in
    let some : 0 < size = size_some (at p.values) size h.can.index
    (subst (λ ys. IsGreatestSize (at ys) size) h.values_is h.greatest) h.can.not_zero in
    let order_low : 2 ≤ f.order = h.within.order_low in
    let order_high : f.order ≤ 1000 = h.within.order_high in
    let times_low : 1 ≤ p.times = h.can.times_low in
    let times_high : p.times ≤ 4 = h.can.times_high in
    let least : f.order * 1 ≤ f.order * p.times = mul-le-mul_left f.order times_low in
    let most : f.order * p.times ≤ f.order * 4 = mul-le-mul_left f.order times_high in
    let order : made.order ≡ f.order * p.times = d.order in
    let unit : 0 < f.scale * p.times = mul-pos (let b = h.within.scale_low in omega arith)
    (omega arith) in
    let scale_some : 0 < 3 * size * (f.scale * p.times) = mul-pos (omega arith) unit in
    let scale : made.scale ≡ pos (3 * size * (f.scale * p.times)) = d.scale in
    let narrow : 3 * size * (f.scale * p.times) ≤ 2 ^ 124 = h.narrow in
    record {
      order_low = omega arith;
      order_high = omega arith;
      scale_low = subst (λ z. pos 1 ≤ℤ z) (sym scale) (omega (arith, ints));
      scale_high = subst (λ z. z ≤ℤ pos (2 ^ 124)) (sym scale) (omega (arith, ints));
      first_length = ap length d.first ∙ length-map-range_with_len _ 0 (length values) ∙ count
          ∙ sym order;
      second_length = ap length d.second ∙ length-map-range_with_len _ 0 (length values) ∙ count
          ∙ sym order;
      first_fit = all_fit xs (pos (3 * size)) values x made.first
          (small_move f p size x values xs h x refl) d.first;
      second_fit = all_fit xs (pos (3 * size)) values (neg_ℤ x) made.second
          (small_move f p size x values xs h (neg_ℤ x) (omega (arith, ints))) d.second;
    }

-- if one size is not too great, no size is
pub not_wide : (f : FunctionData) (p : Perturbation) (size : ℕ) →
    IsGreatestSize (at p.values) size →
    3 * size * (f.scale * p.times) ≤ 2 ^ 124 → IsWide f p → ⊥
not_wide f p size h narrow wide =
    let low = h.greatest wide.greatest.i in
    let size_is = wide.greatest.reached in
    let least : wide.size ≤ size = omega arith in
    let most : wide.size * (f.scale * p.times) ≤ size * (f.scale * p.times) =
    mul-le-mul_right (f.scale * p.times) least in
    let above = wide.above in
    omega arith
