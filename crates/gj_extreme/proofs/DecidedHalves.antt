-- The halves that the decision gives are two different minimal tables that average to the
-- function's.
use Rattle.std.proofs.Common.{◌≡◌, ◌≢◌, ℕ, zero, suc, inl, inr, ◌+◌, ◌*◌, ◌<◌, Bool, true, false, ◌||◌, Option, Some, ℤ, pos, ◌<ℤ◌, List, [], ◌∷◌, length, map, get_or, eqb, refl, sym, ap, subst, ◌∙◌, arith}
use Rattle.std.specs.Prelude.{All, Any, Contains, IfSome}
use Rattle.std.specs.List.{list_any}
use Rattle.std.proofs.lemmas.Bool.{cases_lt, eq-eqb}
use Rattle.std.proofs.lemmas.Bool.Decides.{Decides-eqb}
use Rattle.std.proofs.lemmas.Int.{ints}
use Rattle.std.proofs.lemmas.List.{get_or_default}
use Rattle.std.proofs.lemmas.List.Elements.{All-nil, All-cons, All-head, All-tail, All-contains_itself}
use Rattle.std.proofs.lemmas.List.FromFn.{length-map-range_with_len}
use Rattle.std.proofs.lemmas.Map.Views.{Contains-from_any}
use Rattle.gj_shape.specs.Additive.{IsTight}
use Rattle.gj_shape.specs.Cover.{IsCovered, components_in}
use Rattle.gj_shape.specs.Elimination.{Solution, at_column, kernel}
use Rattle.gj_shape.specs.FirstViolation.{IsLeastFrom}
use Rattle.gj_shape.specs.FunctionData.{FunctionData, IsWithinBounds, IsContinuous, at}
use Rattle.gj_shape.specs.Perturbation.{zigzag}
use Rattle.gj_shape.specs.SlopeRows.{row_entry, row_names, SolveRows}
use Rattle.gj_shape.specs.Table.{table, IsMinimal}
use Rattle.gj_shape.specs.declared.extremality.CoverLine.{CoverLine}
use Rattle.gj_shape.specs.declared.extremality.Halves.{Halves}
use Rattle.gj_shape.specs.declared.extremality.RowName.{RowName}
use Rattle.gj_theory.specs.Halves.{AreDifferentHalves}
use Rattle.gj_theory.specs.TriangularRows.{Solves, SolvesKept}
use Rattle.gj_theory.specs.Uncovered.{AreUncoveredClasses}
use Rattle.gj_theory.proofs.ComponentIntervals.{interval_of_component}
use Rattle.gj_theory.proofs.CoverLines.{lines_meet_rules}
use Rattle.gj_theory.proofs.CoverPaths.{all_contained, class_uncovered}
use Rattle.gj_theory.proofs.CoverSteps.{number_below}
use Rattle.gj_theory.proofs.Eliminations.{elimination_has}
use Rattle.gj_theory.proofs.SoundArithmetic.{whole_sound}
use Rattle.gj_theory.proofs.HalvesAsLists.{lists_are_halves}
use Rattle.gj_theory.proofs.Kernels.{kernel_columns, kernel_solves, kernel_positive}
use Rattle.gj_theory.proofs.LineComponents.{one_component}
use Rattle.gj_theory.proofs.SlopePerturbations.{slopes_perturb, slopes_not_zero}
use Rattle.gj_theory.proofs.Zigzags.{zigzag_perturbs, zigzag_at_quarter}
use Rattle.gj_cover.specs.CoverOf.{IsLeastClass}
use Rattle.gj_proof.specs.PresentRows.{named_row}
use Rattle.gj_extreme.specs.Decision.{AreAllCovered, slope_elimination, slope_perturbation, AreZigzagHalves, AreSlopeHalves}

-- ---- what is not not so

pub less_stable : (a q : ℕ) → ((a < q → ⊥) → ⊥) → a < q
less_stable a q h = elim (cases_lt a q) [
  | inl low ↦ low
  | inr high ↦ absurd (h (λ low. omega arith))
]

not_listed : (xs : List ℕ) (j : ℕ) → list_any (eqb j) xs ≡ false → All (λ x. x ≢ j) xs
not_listed [] j e = All-nil (λ x. x ≢ j)
not_listed (x ∷ xs) j e = by_test (eqb j x) refl e (not_listed xs j)
  where
    by_test : (b : Bool) → eqb j x ≡ b → (b || list_any (eqb j) xs) ≡ false →
        (list_any (eqb j) xs ≡ false → All (λ y. y ≢ j) xs) → All (λ y. y ≢ j) (x ∷ xs)
    by_test true t e later = absurd cc
    by_test false t e later =
        All-cons (λ y. y ≢ j) x xs (λ same. let u = eq-eqb j x (sym same) in absurd cc) (later e)

pub contains_stable : (xs : List ℕ) (j : ℕ) → ((Contains xs j → ⊥) → ⊥) → Contains xs j
contains_stable xs j h = by_test (list_any (eqb j) xs) refl
  where
    by_test : (b : Bool) → list_any (eqb j) xs ≡ b → Contains xs j
    by_test true t = Contains-from_any (λ x y e. (Decides-eqb x y).0 e) j xs t
    by_test false t = absurd
        (h (λ one. all_contained (λ x. x ≢ j) xs j (not_listed xs j t) one refl))

-- what not not holds of each number below a bound, not not holds of all
pub not_not_all : (P : ℕ → Type 0) (n : ℕ) → ((i : ℕ) → i < n → (P i → ⊥) → ⊥) →
    (((i : ℕ) → i < n → P i) → ⊥) → ⊥
not_not_all P zero h none = none (λ i low. absurd (omega arith))
not_not_all P (suc n) h none =
    not_not_all P n (λ i low. h i (omega arith))
    (λ before. h n (omega arith)
    (λ here. none (λ i low. elim (cases_lt i n) [
      | inl earlier ↦ before i earlier
      | inr later ↦ subst P (let e : n ≡ i = omega arith in e) here
    ])))

-- ---- the class of the least uncovered interval

abbrev pub IsLeastUncovered : ℕ → (ℕ → ℕ → Type 0) → ℕ → Type 0
IsLeastUncovered q Tight least = IsLeastFrom 0 (λ i. (i < q) × (IsCovered q Tight i → ⊥)) least

-- if none is the least that is uncovered, each is not not covered
none_uncovered : (q : ℕ) (Tight : ℕ → ℕ → Type 0) →
    ((least : ℕ) → IsLeastUncovered q Tight least → ⊥) →
    (n i : ℕ) → i < n → i < q → (IsCovered q Tight i → ⊥) → ⊥
none_uncovered q Tight none zero i low within out = absurd (omega arith)
none_uncovered q Tight none (suc n) i low within out =
    none i record {
      from = omega arith;
      holds = (within, out);
      least = λ k from before both. none_uncovered q Tight none n k (omega arith) both.0 both.1;
    }

pub some_least : (q : ℕ) (Tight : ℕ → ℕ → Type 0) (class : List ℕ) → IsLeastClass q Tight class →
    class ≢ [] →
    ((least : ℕ) → IsLeastUncovered q Tight least → ⊥) → ⊥
some_least q Tight class h some none =
    not_not_all (IsCovered q Tight) q
    (λ i low. none_uncovered q Tight none (suc i) i (omega arith) low)
    (λ all. some (h.none.1 all))

pub least_class_uncovered : (f : FunctionData) (class : List ℕ) →
    IsLeastClass f.order (IsTight f) class → class ≢ [] →
    AreUncoveredClasses f.order (IsTight f) class
least_class_uncovered f class h some = record {
  within = λ k d low. less_stable (get_or class k d) f.order
      (λ no. by_least (λ least is. no ((of_least least is).within k d low)));
  uncovered = λ k d low covered. by_least
      (λ least is. (of_least least is).uncovered k d low covered);
  closed = λ i j one low both. contains_stable class j
      (λ no. by_least (λ least is. no ((of_least least is).closed i j one low both)));
}
  where
    by_least : ((least : ℕ) → IsLeastUncovered f.order (IsTight f) least → ⊥) → ⊥
    by_least none = some_least f.order (IsTight f) class h some none

    of_least : (least : ℕ) → IsLeastUncovered f.order (IsTight f) least →
        AreUncoveredClasses f.order (IsTight f) class
    of_least least is =
        let members = h.members least is in
        class_uncovered f class least is.holds.1
        (λ k d low. ((members (get_or class k d)).0 (All-contains_itself class k d low)).0)
        (λ k d low. ((members (get_or class k d)).0 (All-contains_itself class k d low)).1)
        (λ a low leads. (members a).1 (low, leads))

-- the first interval of the class
pub first_of_class : (class : List ℕ) → class ≢ [] → (a : ℕ) × Contains class a
first_of_class [] some = absurd (some refl)
first_of_class (a ∷ class) some = (a, All-contains_itself (a ∷ class) 0 a (omega arith))

pub zigzag_halves : (f : FunctionData) (h : Halves) → IsWithinBounds f → IsContinuous f →
    IsMinimal f →
    (zig : AreZigzagHalves f h) →
    AreDifferentHalves (table f 4) (f.order * 4) (f.place * 4) (f.scale * 4) (3 * zig.halves.p)
    (at h.first) (at h.second)
zigzag_halves f h l continuous minimal zig =
    let classes = least_class_uncovered f zig.intervals zig.least zig.some in
    let a = first_of_class zig.intervals zig.some in
    let within = all_contained (λ x. x < f.order) zig.intervals a.0 classes.within a.1 in
    lists_are_halves f 4 (zigzag f.order zig.intervals) h (a.0 * 4 + 1) l minimal (omega arith)
    (zigzag_perturbs f zig.intervals l continuous minimal classes)
    (λ e. let one = zigzag_at_quarter f.order zig.intervals a.0 a.1 within in
    absurd (omega (arith, ints))) zig.halves

-- ---- the slopes of a solution

pub all_made_of : {X Y : Type 0} (P : Y → Type 0) (g : X → Y) (xs : List X) → All P (map g xs) →
    All (λ x. P (g x)) xs
all_made_of P g [] h = All-nil (λ x. P (g x))
all_made_of P g (x ∷ xs) h =
    All-cons (λ y. P (g y)) x xs (All-head P (g x) (map g xs) h)
    (all_made_of P g xs (All-tail P (g x) (map g xs) h))

pub begun_columns : (f : FunctionData) (component : ℕ → ℕ) (n : ℕ) (names : List RowName) →
    All (λ row. length row ≡ n) (map (named_row f component n) names)
begun_columns f component n [] = All-nil (λ row. length row ≡ n)
begun_columns f component n (name ∷ names) =
    All-cons (λ row. length row ≡ n) (named_row f component n name)
    (map (named_row f component n) names)
    (length-map-range_with_len (row_entry component f.order f.place name) 0 n)
    (begun_columns f component n names)

-- what is so of a solution, if there is one, is so of this one
pub of_some : (o : Option Solution) (s : Solution) (P : Solution → Type 0) → o ≡ Some s →
    IfSome o P → P s
of_some o s P e h = subst (λ (r : Option Solution). IfSome r P) e h

-- what the solution gives
pub record SolvesSlopes (f : FunctionData) (component : ℕ → ℕ) (n : ℕ) (numbers : List ℤ) :
    Type 0 where
  pub columns : length numbers ≡ n
  pub rows : SolveRows component n f numbers
  pub positive : Any (λ x. pos 0 <ℤ x) numbers

pub solution_solves : (f : FunctionData) (component : ℕ → ℕ) (n : ℕ) (s : Solution) →
    kernel n (slope_elimination f component n).kept ≡ Some s → SolvesSlopes f component n s.numbers
solution_solves f component n s e =
    let rows = map (named_row f component n) (row_names f) in
    let kept = (slope_elimination f component n).kept in
    let has = elimination_has whole_sound n rows (begun_columns f component n (row_names f)) in
    let columns = of_some (kernel n kept) s (λ t. length t.numbers ≡ n) e (kernel_columns n kept) in
    let solves = of_some (kernel n kept) s (λ t. SolvesKept t.numbers kept) e
    (kernel_solves n kept has.triangular) in
    record {
      columns = columns;
      rows = all_made_of (Solves s.numbers) (named_row f component n) (row_names f)
          ((has.same s.numbers).before (tt, columns) solves).1;
      positive = of_some (kernel n kept) s (λ t. Any (λ x. pos 0 <ℤ x) t.numbers) e
          (kernel_positive n kept has.triangular);
    }

-- a column where a number is positive
pub positive_column : (xs : List ℤ) → Any (λ x. pos 0 <ℤ x) xs →
    (c : ℕ) × (c < length xs) × (pos 0 <ℤ at_column xs c)
positive_column xs (k, x, low, there, h) =
    (k, low, subst (λ (z : ℤ). pos 0 <ℤ z) (sym there ∙ get_or_default xs k x (pos 0) low) h)

-- the slopes are a perturbation, and one that is not 0
pub record ArePerturbing (f : FunctionData) (component : ℕ → ℕ) (numbers : List ℤ) : Type 0 where
  pub index : ℕ
  pub not_zero : slope_perturbation f component numbers index ≢ pos 0

pub components_below : (f : FunctionData) (lines : List CoverLine) (component : ℕ → ℕ) (n : ℕ) →
    AreAllCovered f lines component n →
    (i : ℕ) → i < f.order → component i < n
components_below f lines component n covered i low =
    subst (λ (k : ℕ). component i < k) (sym covered.count)
    (number_below lines (component i) i (covered.numbers i low))

pub some_slope : (f : FunctionData) (lines : List CoverLine) (component : ℕ → ℕ) (n : ℕ)
    (numbers : List ℤ) → IsWithinBounds f →
    AreAllCovered f lines component n → SolvesSlopes f component n numbers →
    ArePerturbing f component numbers
some_slope f lines component n numbers l covered solves =
    let column = positive_column numbers solves.positive in
    let c = column.0 in
    let below : c < components_in lines =
    subst (λ (k : ℕ). c < k) (solves.columns ∙ covered.count) column.1 in
    let found = interval_of_component f.order (IsTight f) lines c covered.are_lines below in
    let same : component found.0 ≡ c =
    one_component f.order (IsTight f) lines found.0 (component found.0) c
    (lines_meet_rules f.order (IsTight f) lines covered.are_lines)
    (covered.numbers found.0 found.1) found.2 in
    let apart : at_column numbers (component found.0) ≢ pos 0 =
    λ e. let positive = column.2 in let here = ap (at_column numbers) same in
    absurd (omega (arith, ints)) in
    let index = slopes_not_zero f component n numbers found.0 l solves.columns
    (components_below f lines component n covered)
    solves.rows found.1 apart in
    record { index = index.0; not_zero = index.1 }

pub slope_halves : (f : FunctionData) (h : Halves) → IsWithinBounds f → IsMinimal f →
    (slope : AreSlopeHalves f h) →
    AreDifferentHalves (table f 1) (f.order * 1) (f.place * 1) (f.scale * 1) (3 * slope.halves.p)
    (at h.first) (at h.second)
slope_halves f h l minimal slope =
    let solves = solution_solves f slope.component slope.n slope.solution slope.solves in
    let some = some_slope f slope.lines slope.component slope.n slope.solution.numbers l
    slope.covered solves in
    lists_are_halves f 1 (slope_perturbation f slope.component slope.solution.numbers) h some.index
    l minimal (omega arith)
    (slopes_perturb f slope.component slope.n slope.solution.numbers l solves.columns
    (components_below f slope.lines slope.component slope.n slope.covered) solves.rows)
    some.not_zero slope.halves
