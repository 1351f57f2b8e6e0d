-- The numbers of the kernel that the decision finds, and those that are too wide.
use Rattle.std.proofs.Common.{◌≡◌, ℕ, inl, inr, ◌<◌, Option, None, Some, ℤ, List, length, refl, sym, ap, subst, ◌∙◌, arith}
use Rattle.std.specs.Prelude.{All, IfSome}
use Rattle.std.proofs.lemmas.List.{get_or_default}
use Rattle.gj_cover.specs.declared.covered.Cover.{Cover}
use Rattle.gj_elim.specs.KeptRows.{marked_in}
use Rattle.gj_elim.proofs.KernelFits.{kernel_fits}
use Rattle.gj_frac.specs.Fraction.{Fits}
use Rattle.gj_shape.specs.Elimination.{Solution, kernel, Passes}
use Rattle.gj_shape.specs.FunctionData.{FunctionData, IsWithinBounds}
use Rattle.gj_shape.specs.SlopeRows.{component_in}
use Rattle.gj_theory.proofs.Eliminations.{elimination_has}
use Rattle.gj_theory.proofs.Kernels.{kernel_none}
use Rattle.gj_theory.proofs.Passing.{none_passes}
use Rattle.gj_theory.proofs.SoundArithmetic.{whole_sound}
use Rattle.gj_jumps.specs.LimitCover.{IsTightAt}
use Rattle.gj_limit_system.specs.Unknowns.{slope_column}
use Rattle.gj_limit_system.proofs.Components.{length_is, component_low}
use Rattle.gj_limit_extreme.specs.Decision.{AreAllCovered, columns_of, limit_elimination, IsWideBehind, IsLimitTooWide}
use Rattle.gj_limit_extreme.specs.Decision.IsWideBehind.{kernel_passes}
use Rattle.gj_limit_extreme.specs.RowsToCome.{AreInserted}
use Rattle.gj_limit_extreme.specs.declared.inserted_rows.Rows.{Rows}
use Rattle.gj_limit_extreme.proofs.DecidedGroups.{system_rows, system_columns}
use Rattle.gj_limit_extreme.proofs.KernelLimits.{kernel_perturbs}

-- the numbers are those of the kernel, none of whose marked numbers passes
pub record IsKernel (f : FunctionData) (cover : Cover) (component : List ℕ) (numbers : List ℤ) :
    Type 0 where
  pub solution : Solution
  pub solves : kernel (columns_of f cover) (limit_elimination f component (columns_of f cover)).kept
      ≡ Some solution
  pub fits : Passes solution.marked → ⊥
  pub same : numbers ≡ solution.numbers

module _ (f : FunctionData) (cover : Cover) (component : List ℕ) (rows : Rows)
    (inserted : AreInserted f component (columns_of f cover) rows) where
  -- the basis has the kernel of the rows that are kept of all
  pub kernel_same : kernel (columns_of f cover)
      (limit_elimination f component (columns_of f cover)).kept
      ≡ kernel rows.basis.columns rows.basis.kept
  kernel_same =
      ap (kernel (columns_of f cover)) inserted.kept
      ∙ ap (λ m. kernel m rows.basis.kept) (sym inserted.columns.basis)

  -- if fewer rows are kept than there are columns, there is one
  pub kernel_found : (numbers : List ℤ) → length rows.basis.kept < rows.basis.columns →
      IfSome (kernel rows.basis.columns rows.basis.kept) (λ s. numbers ≡ s.numbers) →
      (Passes (marked_in (kernel rows.basis.columns rows.basis.kept)) → ⊥) →
      IsKernel f cover component numbers
  kernel_found numbers fewer value narrow =
      by_solution (kernel rows.basis.columns rows.basis.kept) refl value narrow
    where
      by_solution : (o : Option Solution) → kernel rows.basis.columns rows.basis.kept ≡ o →
          IfSome o (λ s. numbers ≡ s.numbers) →
          (Passes (marked_in o) → ⊥) → IsKernel f cover component numbers
      by_solution None e is fits =
          let n = columns_of f cover in
          let comp = component_in component in
          let has = elimination_has whole_sound n (system_rows f comp n)
          (system_columns f comp n) in
          let full = (kernel_none n (limit_elimination f component n).kept has.triangular).0
          (kernel_same ∙ e) in
          let len = ap length inserted.kept in
          let columns = inserted.columns.basis in
          absurd (fewer_and_full _ _ _ _ fewer full len columns)
        where
          fewer_and_full : (x m y n : ℕ) → x < m → y ≡ n → y ≡ x → m ≡ n → ⊥
          fewer_and_full x m y n fewer full same count = omega arith
      by_solution (Some s) e is fits =
          record { solution = s; solves = kernel_same ∙ e; fits = fits; same = is }

  -- a number of the kernel passes
  pub kernel_wide : AreAllCovered f cover component →
      Passes (marked_in (kernel rows.basis.columns rows.basis.kept)) → IsLimitTooWide f
  kernel_wide covered passes = by_solution (kernel rows.basis.columns rows.basis.kept) refl passes
    where
      by_solution : (o : Option Solution) → kernel rows.basis.columns rows.basis.kept ≡ o →
          Passes (marked_in o) → IsLimitTooWide f
      by_solution None e p = absurd (none_passes p)
      by_solution (Some s) e p = record {
        cover = cover;
        component = component;
        covered = covered;
        passes = inr (inserted.fits, (s, kernel_same ∙ e, kernel_passes p));
      }

  -- a number behind the kernel does
  pub behind_wide : AreAllCovered f cover component → (numbers : List ℤ) →
      (found : IsKernel f cover component numbers) →
      IsWideBehind f component found.solution → IsLimitTooWide f
  behind_wide covered numbers found wide = record {
    cover = cover;
    component = component;
    covered = covered;
    passes = inr (inserted.fits, (found.solution, found.solves, wide));
  }

module _ (f : FunctionData) (cover : Cover) (component : List ℕ) (numbers : List ℤ)
    (bounds : IsWithinBounds f)
    (covered : AreAllCovered f cover component) (found : IsKernel f cover component numbers) where
  -- they have a number for each column
  pub kernel_covers : All (λ c. slope_column (length component) c < length numbers) component
  kernel_covers k d below =
      let columns : length numbers ≡ columns_of f cover =
      ap length found.same
      ∙ (kernel_perturbs f cover component found.solution bounds covered
      found.solves).columns in
      let len = length_is f.order (IsTightAt f) cover component covered.is_cover covered.numbers in
      let low : k < f.order = subst (λ (q : ℕ). k < q) len below in
      let here = component_low f.order (IsTightAt f) cover component covered.is_cover
      covered.numbers k low in
      let read = get_or_default component k d 0 below in
      omega arith

  -- and they fit
  pub numbers_fit : All Fits numbers
  numbers_fit =
      subst (All Fits) (sym found.same)
      (kernel_fits (columns_of f cover) (limit_elimination f component (columns_of f cover)).kept
      found.solution found.solves found.fits)
