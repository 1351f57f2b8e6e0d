-- Where the decision gives a proof, no number is too wide.
use Rattle.std.proofs.Common.{◌≡◌, ℕ, ◌⊎◌, inl, inr, ◌*◌, ◌<◌, ◌≤◌, ◌^◌, Option, None, Some, ℤ, pos, ◌≤ℤ◌, List, length, unsigned_abs, sym, ap, ap₂, subst, ◌∙◌, mul-le-mul_left, arith}
use Rattle.std.proofs.lemmas.Int.{ints}
use Rattle.gj_frac.specs.Fraction.{Fits}
use Rattle.gj_shape.specs.Elimination.{Elimination, Solution, Passes, kernel}
use Rattle.gj_shape.specs.FunctionData.{FunctionData, IsWithinBounds}
use Rattle.gj_shape.specs.Limits.{greatest_halves_scale}
use Rattle.gj_shape.specs.SlopeRows.{component_in}
use Rattle.gj_shape.specs.declared.extremality.CoverLine.{CoverLine}
use Rattle.gj_shape.specs.declared.extremality.LimitHalves.{LimitHalves}
use Rattle.gj_theory.proofs.Eliminations.{elimination_has}
use Rattle.gj_theory.proofs.Kernels.{kernel_none}
use Rattle.gj_theory.proofs.SoundArithmetic.{whole_sound}
use Rattle.gj_jumps.specs.LimitSystem.{Limits}
use Rattle.gj_limit_averages.specs.Moved.{IsBoundOf}
use Rattle.gj_limit_halves.specs.LimitHalves.{AreLimitHalvesOf, IsWideSplit}
use Rattle.gj_limit_halves.specs.Sides.{HasWide}
use Rattle.gj_limit_system.specs.Unknowns.{columns_for}
use Rattle.gj_proof.specs.declared.numbers.Numbers.TheVariants.{Whole, Residues}
use Rattle.gj_limit_proof.specs.LimitText.{HasText}
use Rattle.gj_limit_proof.specs.declared.claim.LimitClaim.{LimitClaim}
use Rattle.gj_limit_proof.specs.declared.claim.LimitClaim.TheVariants.{Extreme, NotExtreme}
use Rattle.gj_limit_proof.specs.declared.claim.LimitPivotRow.{LimitPivotRow}
use Rattle.gj_limit_extreme.specs.Decision.{AreExtremeRows, AreKernelHalves, IsLimitDecided, IsWideBehind, IsLimitTooWide, columns_of, elimination_over, limit_elimination, kernel_limits}
use Rattle.gj_limit_extreme.specs.Decision.IsWideBehind.{kernel_passes, perturbation_passes, scale_passes}
use Rattle.gj_limit_extreme.proofs.DecidedGroups.{system_rows, system_columns}
use Rattle.gj_limit_extreme.proofs.OneCover.{one_all_covered}
use Rattle.gj_limit_extreme.proofs.OneDecision.{one_elimination, one_solution, zigzag_not_covered, one_size}

extreme_not_wide : (f : FunctionData) (lines : List CoverLine) (rows : List LimitPivotRow) →
    AreExtremeRows Whole f lines rows →
    IsLimitTooWide f → ⊥
extreme_not_wide f lines rows h wide =
    let same = one_elimination Whole f wide.cover h.cover wide.component h.component wide.covered
    h.covered in
    let one = one_all_covered f wide.cover h.cover wide.component h.component wide.covered
    h.covered in
    elim wide.passes [
      | inl passes ↦ h.needed (subst (λ (e : Elimination). Passes e.marked) same passes.0)
      | inr (narrow, behind) ↦
          let n = columns_of f h.cover in
          let comp = component_in h.component in
          let kept = (limit_elimination f h.component n).kept in
          let has = elimination_has whole_sound n (system_rows f comp n)
          (system_columns f comp n) in
          let some : kernel n kept ≡ Some behind.0 =
          sym (ap₂ (λ i e. kernel i e.kept) (ap (columns_for f.order) one.count_same) same)
          ∙ behind.1 in
          apart behind.0 (kernel n kept) some ((kernel_none n kept has.triangular).1 h.all)
    ]
  where
    apart : (s : Solution) (o : Option Solution) → o ≡ Some s → o ≡ None → ⊥
    apart s o some none = cc

residues_not_wide : (f : FunctionData) (lines : List CoverLine) (rows : List LimitPivotRow) →
    AreExtremeRows Residues f lines rows →
    IsLimitTooWide f → ⊥
residues_not_wide f lines rows h wide =
    elim wide.passes [
      | inl passes ↦
          let one = one_all_covered f wide.cover h.cover wide.component h.component wide.covered
          h.covered in
          let over = one_elimination Residues f wide.cover h.cover wide.component h.component
          wide.covered h.covered in
          let same : length (elimination_over Residues f wide.component
          (columns_of f wide.cover)).kept
          ≡ length (elimination_over Residues f h.component (columns_of f h.cover)).kept =
          ap (λ e. length e.kept) over in
          let count : columns_of f wide.cover ≡ columns_of f h.cover =
          ap (columns_for f.order) one.count_same in
          fewer_and_full _ _ _ _ passes.1 h.all same count
      | inr (narrow, behind) ↦
          let plain = one_elimination Whole f wide.cover h.cover wide.component h.component
          wide.covered h.covered in
          narrow (subst (λ (e : Elimination). Passes e.marked) (sym plain) h.needed)
    ]
  where
    fewer_and_full : (x y m n : ℕ) → x < m → y ≡ n → x ≡ y → m ≡ n → ⊥
    fewer_and_full x y m n fewer full same count = omega arith

-- ---- the numbers of the kernel's halves

-- numbers behind a scale within its limit are small
small_behind : (p s x : ℕ) → 1 ≤ s → 3 * p * (s * 1) ≤ 2 ^ 124 → x ≤ p → x < 2 ^ 127
small_behind p s x some low below =
    let more : 3 * p * 1 ≤ 3 * p * (s * 1) =
    mul-le-mul_left (3 * p) (let e : 1 ≤ s * 1 = omega arith in e) in
    omega arith

from_pos : (a b : ℕ) → pos a ≤ℤ pos b → a ≤ b
from_pos a b e = omega (arith, ints)

-- if the scale of halves is within its limit, the perturbation is narrow
narrow_halves : (f : FunctionData) (w : Limits ℤ) (h : LimitHalves) → IsWithinBounds f →
    h.scale ≤ℤ pos greatest_halves_scale →
    AreLimitHalvesOf f 1 w h → (HasWide f.order w → ⊥) × (IsWideSplit f 1 w → ⊥)
narrow_halves f w h bounds low halves = (
  λ wide. no_wide wide.i wide.wide,
  λ wide. no_split wide.size
      (one_size w wide.size halves.p wide.greatest halves.greatest) wide.above,
)
  where
    scale_low : 3 * halves.p * (f.scale * 1) ≤ 2 ^ 124
    scale_low = from_pos (3 * halves.p * (f.scale * 1)) (2 ^ 124)
        (subst (λ (x : ℤ). x ≤ℤ pos (2 ^ 124)) halves.scale low)

    no_wide : (i : ℕ) → (Fits (w.left i) → ⊥) ⊎ (Fits (w.value i) → ⊥) ⊎ (Fits (w.right i) → ⊥) → ⊥
    no_wide i (inl left) =
        left (small_behind halves.p f.scale (unsigned_abs (w.left i)) bounds.scale_low scale_low
        (halves.greatest.bound.left i))
    no_wide i (inr (inl value)) =
        value (small_behind halves.p f.scale (unsigned_abs (w.value i)) bounds.scale_low scale_low
        (halves.greatest.bound.value i))
    no_wide i (inr (inr right)) =
        right (small_behind halves.p f.scale (unsigned_abs (w.right i)) bounds.scale_low scale_low
        (halves.greatest.bound.right i))

    no_split : (size : ℕ) → size ≡ halves.p → greatest_halves_scale < 3 * size * (f.scale * 1) → ⊥
    no_split size same above =
        let more : 2 ^ 124 < 3 * halves.p * (f.scale * 1) =
        subst (λ (x : ℕ). 2 ^ 124 < 3 * x * (f.scale * 1)) same above in
        let low = scale_low in
        omega arith

kernel_not_wide : (f : FunctionData) (h : LimitHalves) → IsWithinBounds f →
    h.scale ≤ℤ pos greatest_halves_scale →
    (by_kernel : AreKernelHalves f h) → IsWideBehind f by_kernel.component by_kernel.solution → ⊥
kernel_not_wide f h bounds low by_kernel (kernel_passes passes) = by_kernel.solution_fits passes
kernel_not_wide f h bounds low by_kernel (perturbation_passes wide) =
    (narrow_halves f (kernel_limits f by_kernel.component by_kernel.solution) h bounds low
    by_kernel.halves).0 wide
kernel_not_wide f h bounds low by_kernel (scale_passes wide) =
    (narrow_halves f (kernel_limits f by_kernel.component by_kernel.solution) h bounds low
    by_kernel.halves).1 wide

-- a proof that the decision gives, and that has a text, excludes numbers that are too wide
pub decided_not_wide : (f : FunctionData) (c : LimitClaim) → IsWithinBounds f → HasText c →
    IsLimitDecided f c → IsLimitTooWide f → ⊥
decided_not_wide f (Extreme Whole g lines rows) bounds text h wide =
    extreme_not_wide f lines rows h.2 wide
decided_not_wide f (Extreme Residues g lines rows) bounds text h wide =
    residues_not_wide f lines rows h.2 wide
decided_not_wide f (NotExtreme g halves) bounds text (is, minimal, inl zig) wide =
    zigzag_not_covered f halves wide.cover wide.component zig wide.covered
decided_not_wide f (NotExtreme g halves) bounds text (is, minimal, inr by_kernel) wide =
    let one = one_all_covered f wide.cover by_kernel.cover wide.component by_kernel.component
    wide.covered by_kernel.covered in
    let same = one_elimination Whole f wide.cover by_kernel.cover wide.component by_kernel.component
    wide.covered by_kernel.covered in
    elim wide.passes [
      | inl passes ↦ by_kernel.fits (subst (λ (e : Elimination). Passes e.marked) same passes.0)
      | inr (narrow, behind) ↦
          let solution = one_solution f wide.cover by_kernel.cover wide.component
          by_kernel.component behind.0 by_kernel.solution
          wide.covered by_kernel.covered behind.1 by_kernel.solves in
          kernel_not_wide f halves bounds text.scale_high by_kernel
          (subst (λ (s : Solution). IsWideBehind f by_kernel.component s) solution
          (subst (λ (c : List ℕ). IsWideBehind f c behind.0) one.component_same behind.2))
    ]
