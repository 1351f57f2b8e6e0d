-- The perturbations that are made here can be split.
use Rattle.std.proofs.Common.{◌≡◌, ◌≢◌, ℕ, ◌+◌, ◌*◌, ◌/◌, ◌%◌, ◌<◌, ◌≤◌, ◌==◌, ◌^◌, Bool, true, false, if◌then◌else◌, ℤ, pos, ◌-ℤ◌, ◌+ℤ◌, List, length, get_or, map, All, Contains, unsigned_abs, refl, sym, ap, ap₂, subst, ◌∙◌, mul-pos, mul-le-mul_right, arith}
use Rattle.std.specs.List.{range_with_len, list_any}
use Rattle.std.proofs.lemmas.List.FromFn.{length-map-range_with_len}
use Rattle.gj_frac.specs.Fraction.{Fits}
use Rattle.gj_lemmas.proofs.Lists.{All-made}
use Rattle.gj_shape.specs.Additive.{IsTight}
use Rattle.gj_shape.specs.Elimination.{at_column}
use Rattle.gj_shape.specs.FunctionData.{FunctionData, IsWithinBounds, IsContinuous, at}
use Rattle.gj_shape.specs.Perturbation.{zigzag, perturbation_of}
use Rattle.gj_shape.specs.SlopeRows.{SolveRows}
use Rattle.gj_shape.specs.Table.{table, IsMinimal}
use Rattle.gj_shape.proofs.AtLemmas.{all_at}
use Rattle.gj_theory.specs.Halves.{IsPerturbation}
use Rattle.gj_theory.specs.Uncovered.{AreUncoveredClasses}
use Rattle.gj_theory.proofs.CoverPaths.{all_contained}
use Rattle.gj_theory.proofs.HalvesAsLists.{at_made}
use Rattle.gj_theory.proofs.SlopePerturbations.{slopes_perturb, slopes_not_zero}
use Rattle.gj_theory.proofs.Zigzags.{zigzag_perturbs, zigzag_period, zigzag_at_quarter}
use Rattle.gj_perturb.specs.SlopeSums.{slope_at, slope_sum}
use Rattle.gj_perturb.specs.Split.{CanSplit, IsWide}
use Rattle.gj_perturb.specs.declared.tables.Perturbation.{Perturbation}
use Rattle.gj_perturb.proofs.TableParts.{scale_small}

same_perturbation : (t g h : ℕ → ℤ) (n k : ℕ) → ((i : ℕ) → h i ≡ g i) → IsPerturbation t n k g →
    IsPerturbation t n k h
same_perturbation t g h n k e d = record {
  at_tight = record {
    has_period = λ i. e (i + n) ∙ d.at_tight.has_period i ∙ sym (e i);
    additive = λ i j tight. ap₂ (λ x y. x +ℤ y) (e i) (e j) ∙ d.at_tight.additive i j tight
        ∙ sym (e (i + j));
  };
  zero_at_place = e k ∙ d.zero_at_place;
}

-- a list over one period of a perturbation that is not 0 can be split
listed_can_split : (f : FunctionData) (p : Perturbation) (m : ℕ) (g : ℕ → ℤ) (i : ℕ) →
    IsWithinBounds f → 1 ≤ m → m ≤ 4 →
    IsPerturbation (table f m) (f.order * m) (f.place * m) g → g i ≢ pos 0 → p.times ≡ m →
    p.values ≡ map g (range_with_len 0 (f.order * m)) → All Fits p.values → CanSplit f p
listed_can_split f p m g i l low high perturbs some times values fits =
    let n_some : 0 < f.order * m = mul-pos (omega (arith, l.order_low)) low in
    let same = λ (j : ℕ). ap (λ xs. at xs j) values
    ∙ at_made g (f.order * m) n_some perturbs.at_tight.has_period j in
    let here = same_perturbation (table f m) g (at p.values) (f.order * m)
    (f.place * m) same perturbs in
    record {
      times_low = omega arith;
      times_high = omega arith;
      whole = ap length values ∙ length-map-range_with_len g 0 (f.order * m)
          ∙ ap (λ k. f.order * k) (sym times);
      entries = fits;
      perturbation = subst
          (λ k. IsPerturbation (table f k) (f.order * k) (f.place * k) (at p.values))
          (sym times) here;
      index = i;
      not_zero = λ e. some (sym (same i) ∙ e);
    }

-- ---- the zigzag

-- the list of the zigzag has its values
pub zigzag_at_list : (q : ℕ) (class : List ℕ) (xs : List ℤ) → 0 < q →
    xs ≡ map (zigzag q class) (range_with_len 0 (q * 4)) → (i : ℕ) → at xs i ≡ zigzag q class i
zigzag_at_list q class xs some values i =
    ap (λ ys. at ys i) values
    ∙ at_made (zigzag q class) (q * 4) (omega arith) (zigzag_period q class) i

-- and is the perturbation that the zigzag is
pub zigzag_list_perturbs : (f : FunctionData) (q : ℕ) (class : List ℕ) (xs : List ℤ) → 0 < q →
    xs ≡ map (zigzag q class) (range_with_len 0 (q * 4)) → f.order ≡ q → IsWithinBounds f →
    IsContinuous f → IsMinimal f →
    AreUncoveredClasses q (IsTight f) class →
    IsPerturbation (table f 4) (q * 4) (f.place * 4) (at xs)
zigzag_list_perturbs f q class xs some values order l continuous minimal uncovered =
    let classes = subst (λ n. AreUncoveredClasses n (IsTight f) class) (sym order) uncovered in
    same_perturbation (table f 4) (zigzag q class) (at xs) (q * 4) (f.place * 4)
    (zigzag_at_list q class xs some values)
    (subst (λ n. IsPerturbation (table f 4) (n * 4) (f.place * 4) (zigzag n class)) order
    (zigzag_perturbs f class l continuous minimal classes))

picked : (b c d : Bool) →
    unsigned_abs (if b then (if c then pos 1 else if d then pos 0 -ℤ pos 1 else pos 0) else pos 0)
    ≤ 1
picked true true d = omega arith
picked true false true = omega arith
picked true false false = omega arith
picked false c d = omega arith

pub zigzag_size : (q : ℕ) (class : List ℕ) (i : ℕ) → unsigned_abs (zigzag q class i) ≤ 1
zigzag_size q class i = picked (list_any (λ a. a == (i / 4) % q) class) (i % 4 == 1) (i % 4 == 3)

zigzags_small : (q : ℕ) (class : List ℕ) (xs : List ℤ) →
    xs ≡ map (zigzag q class) (range_with_len 0 (q * 4)) →
    All (λ x. unsigned_abs x ≤ 1) xs
zigzags_small q class xs e =
    subst (All (λ x. unsigned_abs x ≤ 1)) (sym e)
    (All-made (λ x. unsigned_abs x ≤ 1) (zigzag q class) 0 (q * 4)
    (λ i below. zigzag_size q class i))

zigzags_fit : (q : ℕ) (class : List ℕ) (xs : List ℤ) →
    xs ≡ map (zigzag q class) (range_with_len 0 (q * 4)) → All Fits xs
zigzags_fit q class xs e =
    subst (All Fits) (sym e)
    (All-made Fits (zigzag q class) 0 (q * 4) (λ i below. let size = zigzag_size q class i in
    omega arith))

one_is_some : (x : ℤ) → x ≡ pos 1 → x ≢ pos 0
one_is_some x e zero = let same : pos 1 ≡ pos 0 = sym e ∙ zero in absurd (cc)

pub zigzag_splits : (f : FunctionData) (class : List ℕ) (p : Perturbation) (a : ℕ) →
    IsWithinBounds f → IsContinuous f →
    IsMinimal f → AreUncoveredClasses f.order (IsTight f) class → Contains class a → p.times ≡ 4 →
    p.values ≡ map (zigzag f.order class) (range_with_len 0 (f.order * 4)) → CanSplit f p
zigzag_splits f class p a l continuous minimal uncovered has times values =
    let below : a < f.order = all_contained (λ i. i < f.order) class a uncovered.within has in
    listed_can_split f p 4 (zigzag f.order class) (a * 4 + 1) l (omega arith) (omega arith)
    (zigzag_perturbs f class l continuous minimal uncovered)
    (one_is_some _ (zigzag_at_quarter f.order class a has below)) times values
    (zigzags_fit f.order class p.values values)

pub zigzag_narrow : (f : FunctionData) (class : List ℕ) (p : Perturbation) → IsWithinBounds f →
    p.times ≡ 4 →
    p.values ≡ map (zigzag f.order class) (range_with_len 0 (f.order * 4)) → IsWide f p → ⊥
zigzag_narrow f class p l times values wide =
    let low : 2 ≤ f.order = l.order_low in
    let len : length p.values ≡ f.order * 4 = ap length values
    ∙ length-map-range_with_len (zigzag f.order class) 0 (f.order * 4) in
    let size : unsigned_abs (at p.values wide.greatest.i) ≤ 1 =
    all_at (λ x. unsigned_abs x ≤ 1) p.values wide.greatest.i (omega arith)
    (zigzags_small f.order class p.values values) in
    let reached : unsigned_abs (at p.values wide.greatest.i) ≡ wide.size = wide.greatest.reached in
    let unit : f.scale * p.times < 2 ^ 33 =
    scale_small f.scale p.times l.scale_high (omega arith) in
    let most : 3 * wide.size * (f.scale * p.times) ≤ 3 * (f.scale * p.times) =
    mul-le-mul_right (f.scale * p.times) (let few : 3 * wide.size ≤ 3 = omega arith in few) in
    let above : 2 ^ 124 < 3 * wide.size * (f.scale * p.times) = wide.above in
    omega arith

-- ---- sums of slopes

pub slopes_split : (f : FunctionData) (component : List ℕ) (slopes : List ℤ) (p : Perturbation)
    (i : ℕ) → IsWithinBounds f →
    length component ≡ f.order → All (λ c. c < length slopes) component →
    SolveRows (λ j. get_or component j 0) (length slopes) f slopes → i < f.order →
    at_column slopes (get_or component i 0) ≢ pos 0 → p.times ≡ 1 →
    p.values ≡ map (slope_sum component slopes) (range_with_len 0 (length component)) →
    All Fits p.values → CanSplit f p
slopes_split f component slopes p i l len within solved below some times values fits =
    let from = λ (j : ℕ). get_or component j 0 in
    let n = length slopes in
    let inside : (j : ℕ) → j < f.order → get_or component j 0 < length slopes =
    λ j j_below. within j 0 (omega arith) in
    let found = slopes_not_zero f from n slopes i l refl inside solved below some in
    let perturbs = slopes_perturb f from n slopes l refl inside solved in
    let once : f.order ≡ f.order * 1 = omega arith in
    let listed : p.values ≡ map (perturbation_of f.order (slope_at component slopes))
    (range_with_len 0 (f.order * 1)) =
    values ∙ ap (λ q. map (perturbation_of q (slope_at component slopes)) (range_with_len 0 q)) len
    ∙ ap (λ k. map (perturbation_of f.order (slope_at component slopes)) (range_with_len 0 k))
    once in
    listed_can_split f p 1 (perturbation_of f.order (slope_at component slopes)) found.0 l
    (omega arith) (omega arith) perturbs
    found.1 times listed fits
