-- Where there are at most four components, no number is too wide.
use Rattle.std.proofs.Common.{◌≡◌, ℕ, suc, inl, inr, ◌+◌, ◌-◌, ◌*◌, ◌%◌, ◌<◌, ◌≤◌, ◌^◌, ◌⊎◌, Bool, cond, Some, ℤ, pos, ◌<ℤ◌, List, [], length, map, count_by, eqb, unsigned_abs, refl, sym, ap, subst, ◌∙◌, mul-le-mul, arith}
use Rattle.std.specs.Prelude.{All}
use Rattle.std.specs.List.{range_with_len}
use Rattle.std.proofs.Math.Nat.{mod-lt, mod-eq_of_lt, add-mod_left, mul-le-mul_right}
use Rattle.std.proofs.lemmas.Bool.{cases_lt}
use Rattle.std.proofs.lemmas.List.Sums.{sum_by-append, count_by-le-length}
use Rattle.std.proofs.lemmas.Int.{ints}
use Rattle.std.proofs.lemmas.List.FromFn.{length-range_with_len, length-map-range_with_len}
use Rattle.std.proofs.lemmas.List.Elements.{All-nil, All-map}
use Rattle.gj_shape.specs.Cover.{components_in}
use Rattle.gj_lemmas.proofs.Lists.{All-made, range_split}
use Rattle.gj_shape.specs.Additive.{IsTight}
use Rattle.gj_shape.specs.Elimination.{KeptRow, Solution, at_column, kernel, Passes}
use Rattle.gj_shape.specs.FunctionData.{FunctionData, IsWithinBounds}
use Rattle.gj_shape.specs.SlopeRows.{rises, row_entry, row_names}
use Rattle.gj_shape.specs.declared.extremality.CoverLine.{CoverLine}
use Rattle.gj_shape.specs.declared.extremality.RowName.{RowName}
use Rattle.gj_shape.specs.declared.extremality.RowName.TheVariants.{Period, F, Pair}
use Rattle.gj_theory.proofs.CarriedSteps.{all_of_any}
use Rattle.gj_theory.proofs.Eliminations.{elimination_has}
use Rattle.gj_theory.proofs.SoundArithmetic.{whole_sound}
use Rattle.gj_theory.proofs.ExtremeByCover.{each_row}
use Rattle.gj_theory.proofs.RiseCounts.{rises_at_most}
use Rattle.gj_proof.specs.PresentRows.{named_row}
use Rattle.gj_proof.specs.ProofText.{numbers_of}
use Rattle.gj_proof.specs.declared.claim.Claim.{Claim}
use Rattle.gj_proof.specs.declared.claim.Claim.TheVariants.{Minimal, NotMinimal, Cut, Extreme, ExtremeByResidues, NotExtreme}
use Rattle.gj_proof.specs.declared.numbers.Numbers.TheVariants.{Whole, Residues}
use Rattle.gj_proof.specs.declared.pivot.PivotRow.{PivotRow}
use Rattle.gj_extreme.specs.Decision.{AreAllCovered, AreExtremeRows, IsDecided, slope_elimination, slope_perturbation, IsWideBehind, IsTooWide}
use Rattle.gj_extreme.specs.Decision.IsWideBehind.{kernel_passes, perturbation_passes, scale_passes}
use Rattle.gj_extreme.proofs.DecidedHalves.{begun_columns}
use Rattle.gj_extreme.proofs.OneCover.{one_cover}
use Rattle.gj_extreme.proofs.SmallNumbers.{IsSmall, small_at, bound, bound_at, EliminationIsSmall, elimination_small}
use Rattle.gj_extreme.proofs.SmallSolutions.{small_total, grown, SolutionIsSmall, kernel_small}

-- ---- the rows of the system

-- from one place to a later one a component rises, by at most their distance
rises_between : (component : ℕ → ℕ) (i j c : ℕ) → i ≤ j →
    (rises component i c ≤ rises component j c)
    × (rises component j c ≤ rises component i c + (j - i))
rises_between component i j c up =
    let test : ℕ → Bool = λ a. eqb (component a) c in
    let behind : List ℕ = range_with_len (0 + i) (j - i) in
    let place : j ≡ i + (j - i) = omega arith in
    let split : rises component j c ≡ rises component i c + count_by test behind =
    ap (λ k. rises component k c) place ∙ ap (count_by test) (range_split 0 i (j - i))
    ∙ sum_by-append (λ a. cond (test a) 1 0) (range_with_len 0 i) behind in
    let most = count_by-le-length test behind in
    let long = length-range_with_len (0 + i) (j - i) in
    (omega arith, omega arith)

-- the entry of a pair is at most the order
pair_low : (component : ℕ → ℕ) (q k a b c : ℕ) → a < q → b < q →
    unsigned_abs (row_entry component q k (Pair a b) c) ≤ q
pair_low component q k a b c a_low b_low = by_place (cases_lt (a + b) q)
  where
    r : ℕ
    r = (a + b) % q

    by_place : (a + b < q) ⊎ (q ≤ a + b) → unsigned_abs (row_entry component q k (Pair a b) c) ≤ q
    by_place (inl below) =
        let place : r ≡ a + b = mod-eq_of_lt below in
        let (up, most) = rises_between component b r c (omega arith) in
        let first = rises_at_most component a c in
        omega (arith, ints)
    by_place (inr behind) =
        let place : r ≡ a + b - q =
        ap (λ i. i % q) (let e : a + b ≡ q + (a + b - q) = omega arith in e)
        ∙ add-mod_left q (a + b - q)
        ∙ mod-eq_of_lt (let low : a + b - q < q = omega arith in low) in
        let (up, most) = rises_between component r a c (omega arith) in
        let second = rises_at_most component b c in
        omega (arith, ints)

entries_small : (f : FunctionData) (component : ℕ → ℕ) (n : ℕ) → IsWithinBounds f →
    All (λ name. IsSmall 1000 (named_row f component n name)) (row_names f)
entries_small f component n l =
    each_row (λ name. IsSmall 1000 (named_row f component n name)) f
    (each Period (λ c. rises_at_most component f.order c))
    (each F (λ c. let low = rises_at_most component f.place c in let place = l.place_high in
    omega arith))
    (λ a b a_low b_low tight. each (Pair a b)
    (λ c. pair_low component f.order f.place a b c a_low b_low))
  where
    each : (name : RowName) →
        ((c : ℕ) → unsigned_abs (row_entry component f.order f.place name c) ≤ f.order) →
        IsSmall 1000 (named_row f component n name)
    each name low =
        All-made (λ x. unsigned_abs x ≤ 1000) (row_entry component f.order f.place name) 0 n
        (λ c below. let entry = low c in let high = l.order_high in omega arith)

elimination_is_small : (f : FunctionData) (component : ℕ → ℕ) (n t : ℕ) → IsWithinBounds f →
    n ≤ suc t →
    EliminationIsSmall 1000 t (slope_elimination f component n)
elimination_is_small f component n t l few =
    elimination_small 1000 t n [] 0 (map (named_row f component n) (row_names f)) (omega arith) few
    (All-nil (λ (k : KeptRow). IsSmall (bound_at 1000 [] k.pivot) k.entries))
    (All-map (IsSmall 1000) (named_row f component n) (row_names f) (entries_small f component n l))

solution_is_small : (f : FunctionData) (component : ℕ → ℕ) (n t : ℕ) (s : Solution) →
    IsWithinBounds f → 1 ≤ t → n ≤ suc t →
    kernel n (slope_elimination f component n).kept ≡ Some s → SolutionIsSmall (grown 1000 t t) s
solution_is_small f component n t s l some few e =
    kernel_small 1000 t n (slope_elimination f component n).kept s (omega arith) some few
    (elimination_has whole_sound n (map (named_row f component n) (row_names f))
    (begun_columns f component n (row_names f))).triangular
    (elimination_is_small f component n t l few).kept e

perturbation_small : (f : FunctionData) (component : ℕ → ℕ) (numbers : List ℤ) (b i : ℕ) →
    IsWithinBounds f → IsSmall b numbers →
    unsigned_abs (slope_perturbation f component numbers i) ≤ 1000 * b
perturbation_small f component numbers b i l small =
    let slope = λ (a : ℕ). at_column numbers (component a) in
    let slopes = map slope (range_with_len 0 (i % f.order)) in
    let long : length slopes ≡ i % f.order = length-map-range_with_len slope 0 (i % f.order) in
    let below = mod-lt i (let some : 0 < f.order = omega (arith, l.order_low) in some) in
    let sum = small_total b slopes
    (All-made (λ x. unsigned_abs x ≤ b) slope 0 (i % f.order)
    (λ a low. small_at b numbers (component a) small)) in
    let high = l.order_high in
    let times : length slopes * b ≤ 1000 * b =
    mul-le-mul_right b (let e : length slopes ≤ 1000 = omega arith in e) in
    omega arith

-- ---- the widths

-- with at most t rows before each, all bounds are below the widths
pub record BoundsFit (t : ℕ) : Type 0 where
  pub some : 1 ≤ t
  pub elimination : bound 1000 t < 2 ^ 127
  pub perturbation : 1000 * grown 1000 t t < 2 ^ 127
  pub scale : 3 * (1000 * grown 1000 t t) * 2 ^ 31 ≤ 2 ^ 124

apart : (b top x : ℕ) → b < top → x ≤ b → top ≤ x → ⊥
apart b top x low small high = omega arith

narrow : (b : ℕ) (xs : List ℤ) → b < 2 ^ 127 → IsSmall b xs → Passes xs → ⊥
narrow b xs low small passes =
    let found = all_of_any (λ x. unsigned_abs x ≤ b) (λ x. 2 ^ 127 ≤ unsigned_abs x) xs small
    passes in
    apart b (2 ^ 127) (unsigned_abs found.0) low found.1 found.2

narrow_behind : (f : FunctionData) (component : ℕ → ℕ) (s : Solution) (g d : ℕ) → IsWithinBounds f →
    f.scale ≤ d →
    1000 * g < 2 ^ 127 → 3 * (1000 * g) * d ≤ 2 ^ 124 → SolutionIsSmall g s →
    IsWideBehind f component s → ⊥
narrow_behind f component s g d l low fits scale_fits small (kernel_passes passes) =
    narrow g s.marked (below g (2 ^ 127) fits) small.marked passes
  where
    below : (g top : ℕ) → 1000 * g < top → g < top
    below g top fits = omega arith
narrow_behind f component s g d l low fits scale_fits small (perturbation_passes i within wide) =
    apart (1000 * g) (2 ^ 127) (unsigned_abs (slope_perturbation f component s.numbers i)) fits
    (perturbation_small f component s.numbers g i l small.numbers) wide
narrow_behind f component s g d l low fits scale_fits small (scale_passes h halves wide) =
    let p_low : halves.p ≤ 1000 * g =
    subst (λ (x : ℕ). x ≤ 1000 * g) halves.greatest_size.reached
    (perturbation_small f component s.numbers g halves.greatest_size.i l small.numbers) in
    let thrice : 3 * halves.p ≤ 3 * (1000 * g) = omega arith in
    let product : 3 * halves.p * (f.scale * 1) ≤ 3 * (1000 * g) * d =
    mul-le-mul thrice (let e : f.scale * 1 ≤ d = omega arith in e) in
    scale_apart (3 * (1000 * g) * d) (2 ^ 124) (3 * halves.p * (f.scale * 1)) scale_fits product
    (subst (λ (x : ℤ). pos (2 ^ 124) <ℤ x) halves.scale wide)
  where
    scale_apart : (b top x : ℕ) → b ≤ top → x ≤ b → pos top <ℤ pos x → ⊥
    scale_apart b top x low small high = omega (arith, ints)

pub narrow_components : (f : FunctionData) (lines : List CoverLine) (component : ℕ → ℕ) (n t : ℕ) →
    IsWithinBounds f →
    AreAllCovered f lines component n → n ≤ suc t → BoundsFit t → IsTooWide f → ⊥
narrow_components f lines component n t l covered few fits wide =
    let same : wide.n ≡ n =
    wide.covered.count ∙ ap components_in
    (one_cover f.order (IsTight f) wide.lines lines wide.covered.are_lines covered.are_lines)
    ∙ sym covered.count in
    let so_few : wide.n ≤ suc t = omega arith in
    let scale_low : f.scale ≤ 2 ^ 31 = let high = l.scale_high in omega arith in
    elim (wide.passes) [
      | inl passes ↦
          narrow (bound 1000 t) (slope_elimination f wide.component wide.n).marked fits.elimination
          (elimination_is_small f wide.component wide.n t l so_few).marked passes.0
      | inr (narrow_elimination, behind) ↦
          narrow_behind f wide.component behind.0 (grown 1000 t t)
          (2 ^ 31) l scale_low fits.perturbation fits.scale
          (solution_is_small f wide.component wide.n t behind.0 l fits.some so_few behind.1)
          behind.2
    ]

-- ---- at most four components

three_steps : bound 1000 3 ≡ 128000000000000000000000000
unfolding bound
three_steps = refl

three_solved : grown 1000 3 3 ≡ 432000000000000000000000
unfolding bound grown
three_solved = refl

four_fit : BoundsFit 3
four_fit = record {
  some = omega arith;
  elimination = let e = three_steps in omega arith;
  perturbation = let e = three_solved in omega arith;
  scale = subst (λ (g : ℕ). 3 * (1000 * g) * 2 ^ 31 ≤ 2 ^ 124) (sym three_solved) (omega arith);
}

pub few_components : (f : FunctionData) (lines : List CoverLine) (component : ℕ → ℕ) (n : ℕ) →
    IsWithinBounds f →
    AreAllCovered f lines component n → n ≤ 4 → IsTooWide f → ⊥
few_components f lines component n l covered few wide =
    narrow_components f lines component n 3 l covered few four_fit wide

-- no number of the elimination passes, so that no proof is by residues
pub few_components_narrow : (f : FunctionData) (lines : List CoverLine) (component : ℕ → ℕ)
    (n : ℕ) → IsWithinBounds f →
    AreAllCovered f lines component n → n ≤ 4 → Passes (slope_elimination f component n).marked → ⊥
few_components_narrow f lines component n l covered few passes =
    narrow (bound 1000 3) (slope_elimination f component n).marked four_fit.elimination
    (elimination_is_small f component n 3 l few).marked
    passes

few_residues : (f : FunctionData) (lines others : List CoverLine) (component : ℕ → ℕ) (n : ℕ)
    (rows : List PivotRow) → IsWithinBounds f →
    AreAllCovered f lines component n → n ≤ 4 → AreExtremeRows Residues f others rows → ⊥
few_residues f lines others component n rows l covered few h =
    let same : h.n ≡ n =
    h.covered.count ∙ ap components_in
    (one_cover f.order (IsTight f) others lines h.covered.are_lines covered.are_lines)
    ∙ sym covered.count in
    few_components_narrow f others h.component h.n l h.covered (omega arith) h.needed

pub few_components_plain : (f : FunctionData) (lines : List CoverLine) (component : ℕ → ℕ) (n : ℕ)
    (c : Claim) → IsWithinBounds f →
    AreAllCovered f lines component n → n ≤ 4 → IsDecided f c → numbers_of c ≡ Whole
few_components_plain f lines component n (Minimal g) l covered few h = refl
few_components_plain f lines component n (NotMinimal g v) l covered few h = refl
few_components_plain f lines component n (Cut rule rows) l covered few h = refl
few_components_plain f lines component n (Extreme g others rows) l covered few h = refl
few_components_plain f lines component n (ExtremeByResidues g others rows) l covered few h =
    absurd (few_residues f lines others component n rows l covered few h.3)
few_components_plain f lines component n (NotExtreme g halves) l covered few h = refl
