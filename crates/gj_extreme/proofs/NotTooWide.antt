-- Where the decision gives a proof of a minimal function, no number is too wide.
use Rattle.std.proofs.Common.{◌≡◌, ℕ, inl, inr, ◌*◌, ◌<◌, ◌≤◌, ◌^◌, Option, None, Some, ℤ, pos, ◌<ℤ◌, ◌≤ℤ◌, List, length, map, unsigned_abs, sym, ap, ap₂, subst, ◌∙◌, mul-le-mul_left, arith}
use Rattle.std.proofs.Math.Path.{fun_ext}
use Rattle.std.proofs.lemmas.Int.{ints}
use Rattle.gj_shape.specs.Elimination.{Elimination, Solution, Passes, kernel}
use Rattle.gj_shape.specs.FunctionData.{FunctionData, IsWithinBounds}
use Rattle.gj_shape.specs.Perturbation.{AreHalvesOf}
use Rattle.gj_shape.specs.SlopeRows.{row_names}
use Rattle.gj_shape.specs.Table.{IsMinimal}
use Rattle.gj_shape.specs.declared.extremality.CoverLine.{CoverLine}
use Rattle.gj_shape.specs.declared.extremality.Halves.{Halves}
use Rattle.gj_theory.proofs.Eliminations.{elimination_has}
use Rattle.gj_theory.proofs.SoundArithmetic.{whole_sound}
use Rattle.gj_theory.proofs.FirstFailed.{first_denies}
use Rattle.gj_theory.proofs.Kernels.{kernel_none}
use Rattle.gj_theory.proofs.TestsFromMinimal.{tests_from_minimal}
use Rattle.gj_proof.specs.declared.claim.Claim.{Claim}
use Rattle.gj_proof.specs.declared.claim.Claim.TheVariants.{Minimal, NotMinimal, Cut, Extreme, ExtremeByResidues, NotExtreme}
use Rattle.gj_proof.specs.declared.numbers.Numbers.TheVariants.{Whole, Residues}
use Rattle.gj_proof.specs.declared.pivot.PivotRow.{PivotRow}
use Rattle.gj_proof.specs.PresentRows.{named_row}
use Rattle.gj_proof.specs.ProofText.{HasText}
use Rattle.gj_extreme.specs.Decision.{elimination_over, slope_elimination, slope_perturbation, AreExtremeRows, AreSlopeHalves, IsDecided, IsWideBehind, IsTooWide}
use Rattle.gj_extreme.specs.Decision.IsWideBehind.{kernel_passes, perturbation_passes, scale_passes}
use Rattle.gj_extreme.proofs.DecidedHalves.{begun_columns}
use Rattle.gj_extreme.proofs.OneDecision.{one_all_covered, one_elimination, one_solution, perturbation_same, one_pair, zigzag_not_covered}

extreme_not_wide : (f : FunctionData) (lines : List CoverLine) (rows : List PivotRow) →
    IsWithinBounds f →
    AreExtremeRows Whole f lines rows → IsTooWide f → ⊥
extreme_not_wide f lines rows l h wide =
    let same = one_elimination Whole f wide.lines lines wide.component h.component wide.n h.n l
    wide.covered h.covered in
    let one = one_all_covered f wide.lines lines wide.component h.component wide.n h.n wide.covered
    h.covered in
    elim (wide.passes) [
      | inl passes ↦ h.needed (subst (λ (e : Elimination). Passes e.marked) same passes.0)
      | inr (narrow, behind) ↦
          let kept = (slope_elimination f h.component h.n).kept in
          let has = elimination_has whole_sound h.n
          (map (named_row f h.component h.n) (row_names f))
          (begun_columns f h.component h.n (row_names f)) in
          let some : kernel h.n kept ≡ Some behind.0 =
          sym (ap₂ (λ i e. kernel i e.kept) one.count_same same) ∙ behind.1 in
          let none : kernel h.n kept ≡ None = (kernel_none h.n kept has.triangular).1 h.all in
          apart behind.0 (kernel h.n kept) some none
    ]
  where
    apart : (s : Solution) (o : Option Solution) → o ≡ Some s → o ≡ None → ⊥
    apart s o some none = cc

residues_not_wide : (f : FunctionData) (lines : List CoverLine) (rows : List PivotRow) →
    IsWithinBounds f →
    AreExtremeRows Residues f lines rows → IsTooWide f → ⊥
residues_not_wide f lines rows l h wide =
    let one = one_all_covered f wide.lines lines wide.component h.component wide.n h.n wide.covered
    h.covered in
    elim (wide.passes) [
      | inl passes ↦
          let over = one_elimination Residues f wide.lines lines wide.component h.component wide.n
          h.n l wide.covered h.covered in
          let same : length (elimination_over Residues f wide.component wide.n).kept
          ≡ length (elimination_over Residues f h.component h.n).kept =
          ap (λ e. length e.kept) over in
          let fewer = passes.1 in
          let count = one.count_same in
          let all = h.all in
          omega arith
      | inr (narrow, behind) ↦
          let plain = one_elimination Whole f wide.lines lines wide.component h.component wide.n h.n
          l wide.covered h.covered in
          narrow (subst (λ (e : Elimination). Passes e.marked) (sym plain) h.needed)
    ]

-- numbers behind a scale within its limit
scale_apart : (p s x : ℕ) → 1 ≤ s → 3 * p * (s * 1) ≤ 2 ^ 124 → x ≤ p → 2 ^ 127 ≤ x → ⊥
scale_apart p s x some low below high =
    let more : 3 * p * 1 ≤ 3 * p * (s * 1) =
    mul-le-mul_left (3 * p) (let e : 1 ≤ s * 1 = omega arith in e) in
    omega arith

slope_not_wide : (f : FunctionData) (h : Halves) → IsWithinBounds f → h.scale ≤ℤ pos (2 ^ 124) →
    (slope : AreSlopeHalves f h) →
    (component : ℕ → ℕ) → ((c : ℕ) → c < f.order → component c ≡ slope.component c) →
    (s : Solution) → s ≡ slope.solution →
    IsWideBehind f component s → ⊥
slope_not_wide f h l low slope component numbers s same (kernel_passes passes) =
    slope.solution_fits (subst (λ (t : Solution). Passes t.marked) same passes)
slope_not_wide f h l low slope component numbers s same (perturbation_passes i below wide) =
    let is : slope_perturbation f component s.numbers i
    ≡ slope_perturbation f slope.component slope.solution.numbers i =
    perturbation_same f component slope.component s.numbers l numbers i
    ∙ ap (λ t. slope_perturbation f slope.component t.numbers i) same in
    let at_most = slope.halves.greatest_size.greatest i in
    let scale : pos (3 * slope.halves.p * (f.scale * 1)) ≤ℤ pos (2 ^ 124) =
    subst (λ (x : ℤ). x ≤ℤ pos (2 ^ 124)) slope.halves.scale low in
    scale_apart slope.halves.p f.scale
    (unsigned_abs (slope_perturbation f slope.component slope.solution.numbers i)) l.scale_low
    (from_pos (3 * slope.halves.p * (f.scale * 1)) (2 ^ 124) scale) at_most
    (subst (λ (x : ℤ). 2 ^ 127 ≤ unsigned_abs x) is wide)
  where
    from_pos : (a b : ℕ) → pos a ≤ℤ pos b → a ≤ b
    from_pos a b e = omega (arith, ints)
slope_not_wide f h l low slope component numbers s same (scale_passes other halves wide) =
    let p = slope_perturbation f component s.numbers in
    let r = slope_perturbation f slope.component slope.solution.numbers in
    let is : (i : ℕ) → p i ≡ r i =
    λ i. perturbation_same f component slope.component s.numbers l numbers i
    ∙ ap (λ t. slope_perturbation f slope.component t.numbers i) same in
    let one : other ≡ h =
    one_pair f 1 r other h (subst (λ (x : ℕ → ℤ). AreHalvesOf f 1 x other) (fun_ext is) halves)
    slope.halves in
    apart h.scale (2 ^ 124) low (subst (λ (x : Halves). pos (2 ^ 124) <ℤ x.scale) one wide)
  where
    apart : (x : ℤ) (top : ℕ) → x ≤ℤ pos top → pos top <ℤ x → ⊥
    apart x top low high = omega (arith, ints)

-- a proof that the decision gives of a minimal function, and that has a text, excludes numbers that
-- are too wide
pub decided_not_wide : (f : FunctionData) (c : Claim) → IsWithinBounds f → IsMinimal f → HasText c →
    IsDecided f c → IsTooWide f → ⊥
decided_not_wide f (Minimal g) l minimal text h wide = h
decided_not_wide f (NotMinimal g v) l minimal text h wide =
    first_denies f v h.1 (tests_from_minimal f minimal)
decided_not_wide f (Cut rule rows) l minimal text h wide = h
decided_not_wide f (Extreme g lines rows) l minimal text h wide =
    extreme_not_wide f lines rows l h.3 wide
decided_not_wide f (ExtremeByResidues g lines rows) l minimal text h wide =
    residues_not_wide f lines rows l h.3 wide
decided_not_wide f (NotExtreme g halves) l minimal text (is, same_minimal, continuous, inl zig)
    wide =
    zigzag_not_covered f halves wide.lines wide.component wide.n zig wide.covered
decided_not_wide f (NotExtreme g halves) l minimal text (is, same_minimal, continuous, inr slope)
    wide =
    let one = one_all_covered f wide.lines slope.lines wide.component slope.component wide.n slope.n
    wide.covered slope.covered in
    let same = one_elimination Whole f wide.lines slope.lines wide.component slope.component wide.n
    slope.n l wide.covered slope.covered in
    elim (wide.passes) [
      | inl passes ↦ slope.fits (subst (λ (e : Elimination). Passes e.marked) same passes.0)
      | inr (narrow, behind) ↦
          slope_not_wide f halves l text.scale_high slope wide.component one.numbers_same behind.0
          (one_solution f wide.lines slope.lines wide.component slope.component wide.n slope.n
          behind.0 slope.solution l wide.covered
          slope.covered behind.1 slope.solves) behind.2
    ]
