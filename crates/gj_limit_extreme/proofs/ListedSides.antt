-- Perturbations that are given as lists.
use Rattle.std.proofs.Common.{◌≡◌, ◌≢◌, ℕ, zero, suc, ◌⊎◌, inl, inr, ◌+◌, ◌*◌, ◌/◌, ◌%◌, ◌<◌, ◌≤◌, ◌==◌, ◌^◌, Bool, true, false, if◌then◌else◌, ℤ, pos, negsuc, List, [], Some, length, map, unsigned_abs, refl, sym, ap, ap₂, subst, ◌∙◌, arith}
use Rattle.std.specs.Prelude.{All}
use Rattle.std.specs.List.{list_any, range_with_len}
use Rattle.std.proofs.lemmas.Int.{ints}
use Rattle.std.proofs.lemmas.List.FromFn.{length-map-range_with_len}
use Rattle.gj_frac.specs.Fraction.{Fits}
use Rattle.gj_cover.specs.declared.covered.Cover.{Cover}
use Rattle.gj_lemmas.proofs.Lists.{All-made}
use Rattle.gj_shape.specs.Elimination.{Solution, at_column, kernel}
use Rattle.gj_shape.specs.FunctionData.{FunctionData, IsWithinBounds}
use Rattle.gj_shape.specs.SlopeRows.{component_in}
use Rattle.gj_shape.specs.Table.{IsMinimal}
use Rattle.gj_shape.specs.declared.extremality.SideNumbers.{SideNumbers}
use Rattle.gj_jumps.specs.LimitCover.{IsTightAt}
use Rattle.gj_jumps.specs.LimitSystem.{Limits}
use Rattle.gj_limit_averages.specs.Moved.{HasSome}
use Rattle.gj_limit_averages.proofs.Corners.{same_limits}
use Rattle.gj_limit_averages.proofs.RefinedData.{at_first, at_everywhere}
use Rattle.gj_limit_cover.specs.CoverOf.{IsLeastClass}
use Rattle.gj_limit_grids.specs.Grids.{IsLimitPerturbation, zigzag_of, zigzag_limits}
use Rattle.gj_limit_halves.specs.LimitHalves.{CanSplitLimits, IsWideSplit}
use Rattle.gj_limit_halves.specs.Sides.{limits_on_sides, listed, AreSidesWithin, IsGreatestOf}
use Rattle.gj_limit_system.specs.Unknowns.{limits_from}
use Rattle.gj_limit_system.proofs.Components.{length_is}
use Rattle.gj_limit_extreme.specs.Decision.{AreAllCovered, class_zigzag, kernel_limits, columns_of, limit_elimination}
use Rattle.gj_limit_extreme.proofs.KernelLimits.{kernel_perturbs}
use Rattle.gj_limit_extreme.proofs.Zigzags.{zigzag_is_perturbation, zigzag_some}

-- the lists of a perturbation have its limits and values
pub sides_listed : (f : FunctionData) (m : ℕ) (w : Limits ℤ) (s : SideNumbers) → 0 < f.order * m →
    IsLimitPerturbation f m w →
    s ≡ listed (f.order * m) w → limits_on_sides s ≡ w
sides_listed f m w s some d is =
    let n = f.order * m in
    ap limits_on_sides is
    ∙ same_limits (limits_on_sides (listed n w)) w
    (at_everywhere (map w.left (range_with_len 0 n)) n w.left
    (length-map-range_with_len w.left 0 n) some d.left_period (at_first n w.left))
    (at_everywhere (map w.value (range_with_len 0 n)) n w.value
    (length-map-range_with_len w.value 0 n) some d.value_period
    (at_first n w.value))
    (at_everywhere (map w.right (range_with_len 0 n)) n w.right
    (length-map-range_with_len w.right 0 n) some d.right_period
    (at_first n w.right))

-- what can be split
can_split : (f : FunctionData) (m : ℕ) (w : Limits ℤ) (s : SideNumbers) → 1 ≤ m → m ≤ 4 →
    AreSidesWithin (f.order * m) s →
    limits_on_sides s ≡ w → IsLimitPerturbation f m w → HasSome w → CanSplitLimits f m s
can_split f m w s low high within same d some = record {
  times_low = low;
  times_high = high;
  within = within;
  perturbation = subst (IsLimitPerturbation f m) (sym same) d;
  some = subst HasSome (sym same) some;
}

-- ---- the zigzag

zigzag_small : (chosen : ℕ → Bool) (i : ℕ) → unsigned_abs (zigzag_of chosen i) ≤ 1
zigzag_small chosen i = by_tests (chosen (i / 4)) (i % 4 == 1) (i % 4 == 3)
  where
    by_tests : (b c d : Bool) →
        unsigned_abs (if b then (if c then pos 1 else if d then negsuc 0 else pos 0) else pos 0) ≤ 1
    by_tests true true d = omega arith
    by_tests true false true = omega arith
    by_tests true false false = omega arith
    by_tests false c d = omega arith

zigzag_fits : (chosen : ℕ → Bool) (n : ℕ) → All Fits (map (zigzag_of chosen) (range_with_len 0 n))
zigzag_fits chosen n =
    All-made Fits (zigzag_of chosen) 0 n (λ i below. let small = zigzag_small chosen i in
    omega arith)

zigzag_within : (n : ℕ) (chosen : ℕ → Bool) → AreSidesWithin n (listed n (zigzag_limits chosen))
zigzag_within n chosen = record {
  left_length = length-map-range_with_len (zigzag_of chosen) 0 n;
  value_length = length-map-range_with_len (zigzag_of chosen) 0 n;
  right_length = length-map-range_with_len (zigzag_of chosen) 0 n;
  left_fit = zigzag_fits chosen n;
  value_fit = zigzag_fits chosen n;
  right_fit = zigzag_fits chosen n;
}

-- the lists for an order
abbrev pub zigzag_lists : ℕ → List ℕ → SideNumbers
zigzag_lists order class =
    listed (order * 4) (zigzag_limits (λ i. list_any (λ a. a == i % order) class))

module _ (f : FunctionData) (class : List ℕ) (s : SideNumbers) (order : ℕ)
    (bounds : IsWithinBounds f) (minimal : IsMinimal f)
    (least : IsLeastClass f.order (IsTightAt f) class) (some : class ≢ [])
    (order_is : order ≡ f.order)
    (is : s ≡ zigzag_lists order class) where
  own : s ≡ listed (f.order * 4) (class_zigzag f class)
  own = is ∙ ap (λ q. zigzag_lists q class) order_is

  pub zigzag_sides_are : limits_on_sides s ≡ class_zigzag f class
  zigzag_sides_are =
      let two : 2 ≤ f.order = bounds.order_low in
      sides_listed f 4 (class_zigzag f class) s (omega arith)
      (zigzag_is_perturbation f class least some bounds minimal) own

  pub zigzag_can_split : CanSplitLimits f 4 s
  zigzag_can_split =
      can_split f 4 (class_zigzag f class) s (omega arith) (omega arith)
      (subst (AreSidesWithin (f.order * 4)) (sym own)
      (zigzag_within (f.order * 4) (λ i. list_any (λ a. a == i % f.order) class)))
      zigzag_sides_are (zigzag_is_perturbation f class least some bounds minimal)
      (zigzag_some f class least some)

  -- it is never too wide
  pub zigzag_narrow : IsWideSplit f 4 (limits_on_sides s) → ⊥
  zigzag_narrow wide =
      let greatest = subst (λ (w : Limits ℤ). IsGreatestOf w wide.size) zigzag_sides_are
      wide.greatest in
      let small : wide.size ≤ 1 = by_side wide.size greatest.i greatest.reached in
      let scale = bounds.scale_high in
      too_small wide.size f.scale small scale wide.above
    where
      by_side : (size i : ℕ) →
          (unsigned_abs ((class_zigzag f class).left i) ≡ size)
          ⊎ (unsigned_abs ((class_zigzag f class).value i) ≡ size)
          ⊎ (unsigned_abs ((class_zigzag f class).right i) ≡ size) → size ≤ 1
      by_side size i h = let low = zigzag_small (λ j. list_any (λ a. a == j % f.order) class) i in
          elim h [
            | inl left ↦ omega arith
            | inr rest ↦ elim rest [ inl value ↦ omega arith | inr right ↦ omega arith ]
          ]

      too_small : (size scale : ℕ) → size ≤ 1 → scale < 2 ^ 31 → 2 ^ 124 < 3 * size * (scale * 4) →
          ⊥
      too_small zero scale low high above = absurd (omega arith)
      too_small (suc zero) scale low high above = omega arith
      too_small (suc (suc n)) scale low high above = absurd (omega arith)

-- ---- the kernel

-- the limits that the numbers give
pub kernel_limits_are : (f : FunctionData) (cover : Cover) (component : List ℕ) (s : Solution)
    (numbers : List ℤ) →
    AreAllCovered f cover component → numbers ≡ s.numbers →
    limits_from (length component) (component_in component) (at_column numbers)
    ≡ kernel_limits f component s
kernel_limits_are f cover component s numbers covered same =
    ap₂ (λ q xs. limits_from q (component_in component) (at_column xs))
    (length_is f.order (IsTightAt f) cover component covered.is_cover covered.numbers) same

module _ (f : FunctionData) (cover : Cover) (component : List ℕ) (s : Solution) (numbers : List ℤ)
    (sides : SideNumbers)
    (bounds : IsWithinBounds f) (covered : AreAllCovered f cover component)
    (solves : kernel (columns_of f cover) (limit_elimination f component (columns_of f cover)).kept
    ≡ Some s)
    (same : numbers ≡ s.numbers) where
  pub kernel_sides_are : sides
      ≡ listed (length component)
      (limits_from (length component) (component_in component) (at_column numbers)) →
      limits_on_sides sides ≡ kernel_limits f component s
  kernel_sides_are is =
      let two : 2 ≤ f.order = bounds.order_low in
      let len = length_is f.order (IsTightAt f) cover component covered.is_cover covered.numbers in
      let once : length component ≡ f.order * 1 = omega arith in
      sides_listed f 1 (kernel_limits f component s) sides (omega arith)
      (kernel_perturbs f cover component s bounds covered solves).perturbation
      (is ∙ ap₂ listed once (kernel_limits_are f cover component s numbers covered same))

  pub kernel_can_split : sides
      ≡ listed (length component)
      (limits_from (length component) (component_in component) (at_column numbers)) →
      AreSidesWithin (length component) sides → CanSplitLimits f 1 sides
  kernel_can_split is within =
      let len = length_is f.order (IsTightAt f) cover component covered.is_cover covered.numbers in
      let once : length component ≡ f.order * 1 = omega arith in
      let perturbs = kernel_perturbs f cover component s bounds covered solves in
      can_split f 1 (kernel_limits f component s) sides (omega arith) (omega arith)
      (subst (λ (n : ℕ). AreSidesWithin n sides) once within)
      (kernel_sides_are is) perturbs.perturbation perturbs.some
