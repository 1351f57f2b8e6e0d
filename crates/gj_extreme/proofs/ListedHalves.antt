-- The halves of a perturbation that is given as a list.
use Rattle.std.proofs.Common.{◌≡◌, ℕ, ◌+◌, ◌*◌, ◌<◌, ◌≤◌, ℤ, List, Some, length, map, sym, ap, subst, ◌∙◌, arith}
use Rattle.std.specs.Prelude.{All}
use Rattle.std.specs.List.{range_with_len}
use Rattle.std.proofs.Math.Path.{fun_ext}
use Rattle.std.proofs.lemmas.List.FromFn.{length-map-range_with_len}
use Rattle.gj_frac.specs.Fraction.{Fits}
use Rattle.gj_shape.specs.SlopeRows.{component_in}
use Rattle.gj_shape.specs.Additive.{IsTight}
use Rattle.gj_shape.specs.Elimination.{Solution, kernel}
use Rattle.gj_shape.specs.FunctionData.{FunctionData, IsWithinBounds, IsContinuous, at}
use Rattle.gj_shape.specs.Perturbation.{zigzag, perturbation_of, AreHalvesOf}
use Rattle.gj_shape.specs.Table.{table, IsMinimal}
use Rattle.gj_shape.specs.declared.extremality.CoverLine.{CoverLine}
use Rattle.gj_shape.specs.declared.extremality.Halves.{Halves}
use Rattle.gj_theory.specs.Halves.{IsPerturbation}
use Rattle.gj_theory.specs.Uncovered.{AreUncoveredClasses}
use Rattle.gj_theory.proofs.HalvesAsLists.{at_made}
use Rattle.gj_theory.proofs.SlopePerturbations.{slopes_perturb}
use Rattle.gj_theory.proofs.Zigzags.{zigzag_perturbs}
use Rattle.gj_perturb.specs.SlopeSums.{slope_sum, slope_at}
use Rattle.gj_perturb.specs.Split.{CanSplit}
use Rattle.gj_perturb.specs.declared.tables.Perturbation.{Perturbation}
use Rattle.gj_extreme.specs.Decision.{AreAllCovered, slope_elimination, slope_perturbation}
use Rattle.gj_extreme.proofs.DecidedHalves.{solution_solves, some_slope, components_below}

-- a list over one period has the entries of the perturbation
list_is : (g : ℕ → ℤ) (n : ℕ) (xs : List ℤ) → 0 < n → ((i : ℕ) → g (i + n) ≡ g i) →
    xs ≡ map g (range_with_len 0 n) → at xs ≡ g
list_is g n xs some period values =
    fun_ext (λ i. ap (λ l. at l i) values ∙ at_made g n some period i)

halves_of : (f : FunctionData) (m : ℕ) (g : ℕ → ℤ) (p : Perturbation) (h : Halves) → p.times ≡ m →
    at p.values ≡ g →
    AreHalvesOf f p.times (at p.values) h → AreHalvesOf f m g h
halves_of f m g p h times same halves =
    subst (λ (q : ℕ → ℤ). AreHalvesOf f m q h) same
    (subst (λ (k : ℕ). AreHalvesOf f k (at p.values) h) times halves)

-- ---- the zigzag

zigzag_is : (f : FunctionData) (class : List ℕ) (p : Perturbation) → IsWithinBounds f →
    IsContinuous f → IsMinimal f →
    AreUncoveredClasses f.order (IsTight f) class →
    p.values ≡ map (zigzag f.order class) (range_with_len 0 (f.order * 4)) →
    at p.values ≡ zigzag f.order class
zigzag_is f class p l continuous minimal uncovered values =
    let low : 2 ≤ f.order = l.order_low in
    list_is (zigzag f.order class) (f.order * 4) p.values (omega arith)
    (zigzag_perturbs f class l continuous minimal uncovered).at_tight.has_period values

pub zigzag_halves_are : (f : FunctionData) (class : List ℕ) (p : Perturbation) (h : Halves) →
    IsWithinBounds f → IsContinuous f →
    IsMinimal f → AreUncoveredClasses f.order (IsTight f) class → p.times ≡ 4 →
    p.values ≡ map (zigzag f.order class) (range_with_len 0 (f.order * 4)) →
    AreHalvesOf f p.times (at p.values) h →
    AreHalvesOf f 4 (zigzag f.order class) h
zigzag_halves_are f class p h l continuous minimal uncovered times values halves =
    halves_of f 4 (zigzag f.order class) p h times
    (zigzag_is f class p l continuous minimal uncovered values) halves

-- ---- slopes

-- the list has the sums of slopes that solve the system
pub record AreSums (f : FunctionData) (component : List ℕ) (slopes : List ℤ) (p : Perturbation) :
    Type 0 where
  pub times : p.times ≡ 1
  pub same : at p.values ≡ slope_perturbation f (component_in component) slopes
  pub whole : length p.values ≡ f.order * 1
  pub perturbs : IsPerturbation (table f 1) (f.order * 1) (f.place * 1)
      (slope_perturbation f (component_in component) slopes)

pub sums_are : (f : FunctionData) (lines : List CoverLine) (component : List ℕ) (n : ℕ)
    (s : Solution) (p : Perturbation) →
    IsWithinBounds f → length component ≡ f.order →
    AreAllCovered f lines (component_in component) n →
    kernel n (slope_elimination f (component_in component) n).kept ≡ Some s → p.times ≡ 1 →
    p.values ≡ map (slope_sum component s.numbers) (range_with_len 0 (length component)) →
    AreSums f component s.numbers p
sums_are f lines component n s p l len covered e times values =
    let comp = component_in component in
    let g = slope_perturbation f comp s.numbers in
    let solves = solution_solves f comp n s e in
    let perturbs = slopes_perturb f comp n s.numbers l solves.columns
    (components_below f lines comp n covered) solves.rows in
    let low : 2 ≤ f.order = l.order_low in
    let once : f.order ≡ f.order * 1 = omega arith in
    let listed : p.values ≡ map g (range_with_len 0 (f.order * 1)) =
    values ∙ ap (λ q. map (perturbation_of q (slope_at component s.numbers)) (range_with_len 0 q))
    len
    ∙ ap (λ k. map g (range_with_len 0 k)) once in
    record {
      times = times;
      same = list_is g (f.order * 1) p.values (omega arith) perturbs.at_tight.has_period listed;
      whole = ap length listed ∙ length-map-range_with_len g 0 (f.order * 1);
      perturbs = perturbs;
    }

pub sums_can_split : (f : FunctionData) (lines : List CoverLine) (component : List ℕ) (n : ℕ)
    (s : Solution) (p : Perturbation) →
    IsWithinBounds f → AreAllCovered f lines (component_in component) n →
    kernel n (slope_elimination f (component_in component) n).kept ≡ Some s →
    AreSums f component s.numbers p → All Fits p.values →
    CanSplit f p
sums_can_split f lines component n s p l covered e h fits =
    let comp = component_in component in
    let some = some_slope f lines comp n s.numbers l covered (solution_solves f comp n s e) in
    record {
      times_low = let t = h.times in omega arith;
      times_high = let t = h.times in omega arith;
      whole = h.whole ∙ ap (λ k. f.order * k) (sym h.times);
      entries = fits;
      perturbation = subst
          (λ (k : ℕ). IsPerturbation (table f k) (f.order * k) (f.place * k) (at p.values))
          (sym h.times)
          (subst (λ (q : ℕ → ℤ). IsPerturbation (table f 1) (f.order * 1) (f.place * 1) q)
          (sym h.same) h.perturbs);
      index = some.index;
      not_zero = λ zero. some.not_zero (sym (ap (λ (q : ℕ → ℤ). q some.index) h.same) ∙ zero);
    }

pub slope_halves_are : (f : FunctionData) (component : List ℕ) (slopes : List ℤ) (p : Perturbation)
    (h : Halves) →
    AreSums f component slopes p → AreHalvesOf f p.times (at p.values) h →
    AreHalvesOf f 1 (slope_perturbation f (component_in component) slopes) h
slope_halves_are f component slopes p h sums halves =
    halves_of f 1 _ p h sums.times sums.same halves
