-- Numbers that are too wide for the decision, as its parts find them.
use Rattle.std.proofs.Common.{◌≡◌, ℕ, ◌*◌, ◌<◌, ◌≤◌, ◌^◌, ◌⊎◌, inl, inr, Option, None, Some, ℤ, pos, ◌+ℤ◌, ◌-ℤ◌, ◌*ℤ◌, ◌<ℤ◌, List, map, length, unsigned_abs, refl, ap, subst, ◌∙◌, arith}
use Rattle.std.specs.List.{range_with_len}
use Rattle.std.proofs.lemmas.Bool.{cases_lt}
use Rattle.std.proofs.lemmas.Int.{ints}
use Rattle.gj_shape.specs.SlopeRows.{component_in}
use Rattle.gj_shape.specs.Elimination.{KeptRow, Solution, kernel, Passes}
use Rattle.gj_shape.specs.FunctionData.{FunctionData, IsWithinBounds}
use Rattle.gj_shape.specs.Perturbation.{perturbation_of, IsGreatestSize}
use Rattle.gj_shape.specs.Table.{table, IsMinimal}
use Rattle.gj_shape.specs.declared.extremality.CoverLine.{CoverLine}
use Rattle.gj_shape.specs.declared.extremality.Halves.{Halves}
use Rattle.gj_theory.proofs.SlacksAndSizes.{least_slack}
use Rattle.gj_elim.specs.KeptRows.{marked_in}
use Rattle.gj_theory.proofs.Passing.{none_passes}
use Rattle.gj_perturb.specs.SlopeSums.{slope_sum, slope_at, IsWideSum}
use Rattle.gj_perturb.specs.Split.{IsWide}
use Rattle.gj_perturb.specs.declared.tables.Perturbation.{Perturbation}
use Rattle.gj_proof.specs.declared.numbers.Numbers.TheVariants.{Residues}
use Rattle.gj_extreme.specs.Decision.{AreAllCovered, elimination_over, slope_elimination, slope_perturbation, IsWideBehind, IsTooWide}
use Rattle.gj_extreme.specs.Decision.IsWideBehind.{kernel_passes, perturbation_passes, scale_passes}
use Rattle.gj_extreme.proofs.ListedHalves.{AreSums}

pub elimination_wide : (f : FunctionData) (lines : List CoverLine) (component : ℕ → ℕ) (n : ℕ) →
    AreAllCovered f lines component n →
    Passes (slope_elimination f component n).marked →
    length (elimination_over Residues f component n).kept < n → IsTooWide f
elimination_wide f lines component n covered passes fewer =
    record {
      lines = lines;
      component = component;
      n = n;
      covered = covered;
      passes =
          inl (passes, fewer);
    }

-- no number of the elimination passes
abbrev IsNarrow : FunctionData → (ℕ → ℕ) → ℕ → Type 0
IsNarrow f component n = Passes (slope_elimination f component n).marked → ⊥

behind_wide : (f : FunctionData) (lines : List CoverLine) (component : ℕ → ℕ) (n : ℕ)
    (s : Solution) → AreAllCovered f lines component n →
    IsNarrow f component n → kernel n (slope_elimination f component n).kept ≡ Some s →
    IsWideBehind f component s → IsTooWide f
behind_wide f lines component n s covered narrow e wide =
    record {
      lines = lines;
      component = component;
      n = n;
      covered = covered;
      passes =
          inr (narrow, (s, e, wide));
    }

-- the kernel of the rows that are kept
pub kernel_wide : (f : FunctionData) (lines : List CoverLine) (component : ℕ → ℕ) (n m : ℕ)
    (kept : List KeptRow) →
    AreAllCovered f lines component n → IsNarrow f component n →
    kernel n (slope_elimination f component n).kept ≡ kernel m kept →
    Passes (marked_in (kernel m kept)) → IsTooWide f
kernel_wide f lines component n m kept covered narrow same passes =
    by_solution (kernel m kept) refl passes
  where
    by_solution : (o : Option Solution) → kernel m kept ≡ o → Passes (marked_in o) → IsTooWide f
    by_solution None e p = absurd (none_passes p)
    by_solution (Some s) e p =
        behind_wide f lines component n s covered narrow (same ∙ e) (kernel_passes p)

-- a sum of slopes
pub sum_wide : (f : FunctionData) (lines : List CoverLine) (component : List ℕ) (n : ℕ)
    (s : Solution) → length component ≡ f.order →
    AreAllCovered f lines (component_in component) n → IsNarrow f (component_in component) n →
    kernel n (slope_elimination f (component_in component) n).kept ≡ Some s →
    IsWideSum component s.numbers → IsTooWide f
sum_wide f lines component n s len covered narrow e wide =
    let i = wide.index in
    let below : wide.index < f.order = subst (λ (q : ℕ). i < q) len wide.below in
    let same : slope_sum component s.numbers i
    ≡ slope_perturbation f (component_in component) s.numbers i =
    ap (λ q. perturbation_of q (slope_at component s.numbers) i) len in
    behind_wide f lines (component_in component) n s covered narrow e
    (perturbation_passes i below (subst (λ (z : ℤ). 2 ^ 127 ≤ unsigned_abs z) same
    (by_size (cases_lt (unsigned_abs (slope_sum component s.numbers i)) (2 ^ 127)))))
  where
    by_size : (unsigned_abs (slope_sum component s.numbers wide.index) < 2 ^ 127)
        ⊎ (2 ^ 127 ≤ unsigned_abs (slope_sum component s.numbers wide.index)) →
        2 ^ 127 ≤ unsigned_abs (slope_sum component s.numbers wide.index)
    by_size (inl small) = absurd (wide.wide small)
    by_size (inr large) = large

-- the scale of the halves
pub scale_wide : (f : FunctionData) (lines : List CoverLine) (component : List ℕ) (n : ℕ)
    (s : Solution) (p : Perturbation) →
    IsWithinBounds f → IsMinimal f → AreAllCovered f lines (component_in component) n →
    IsNarrow f (component_in component) n →
    kernel n (slope_elimination f (component_in component) n).kept ≡ Some s →
    AreSums f component s.numbers p → IsWide f p → IsTooWide f
scale_wide f lines component n s p l minimal covered narrow e sums wide =
    let g = slope_perturbation f (component_in component) s.numbers in
    let slack = least_slack f 1 l minimal (omega arith) in
    let u = slack.0 in
    let size = wide.size in
    let h : Halves = record {
      order = f.order * 1;
      scale = pos (3 * size * (f.scale * 1));
      first = map (λ i. pos (3 * size) *ℤ table f 1 i +ℤ pos u *ℤ g i)
          (range_with_len 0 (f.order * 1));
      second = map (λ i. pos (3 * size) *ℤ table f 1 i -ℤ pos u *ℤ g i)
          (range_with_len 0 (f.order * 1));
    } in
    let above : 2 ^ 124 < 3 * wide.size * (f.scale * 1) =
    subst (λ (k : ℕ). 2 ^ 124 < 3 * wide.size * (f.scale * k)) sums.times wide.above in
    behind_wide f lines (component_in component) n s covered narrow e
    (scale_passes h record {
      u = u;
      p = size;
      least_slack = slack.1;
      greatest_size = subst (λ (q : ℕ → ℤ). IsGreatestSize q size) sums.same wide.greatest;
      order = refl;
      scale = refl;
      first = refl;
      second = refl;
    } (above_as_number (3 * size * (f.scale * 1)) above))
  where
    above_as_number : (k : ℕ) → 2 ^ 124 < k → pos (2 ^ 124) <ℤ pos k
    above_as_number k h = omega (arith, ints)
