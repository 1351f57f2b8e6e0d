-- The numbers of the kernel that the decision finds.
use Rattle.std.proofs.Common.{◌≡◌, ℕ, ◌<◌, Option, None, Some, ℤ, List, length, refl, sym, ap, subst, ◌∙◌, arith}
use Rattle.std.specs.Prelude.{All, IfSome}
use Rattle.std.proofs.lemmas.List.{get_or_default, length-map}
use Rattle.gj_shape.specs.Elimination.{Solution, kernel, Passes}
use Rattle.gj_shape.specs.FunctionData.{FunctionData}
use Rattle.gj_shape.specs.SlopeRows.{row_names, component_in}
use Rattle.gj_shape.specs.declared.extremality.CoverLine.{CoverLine}
use Rattle.gj_theory.proofs.Eliminations.{elimination_has}
use Rattle.gj_theory.proofs.SoundArithmetic.{whole_sound}
use Rattle.gj_theory.proofs.Kernels.{kernel_none}
use Rattle.gj_elim.specs.KeptRows.{marked_in}
use Rattle.gj_extreme.specs.Decision.{AreAllCovered, slope_elimination}
use Rattle.gj_extreme.proofs.DecidedHalves.{begun_columns, solution_solves, components_below}
use Rattle.gj_extreme.proofs.RenumberedKernel.{kernel_renumbered}
use Rattle.gj_extreme.specs.RowsToCome.{AreInserted}
use Rattle.gj_extreme.specs.declared.inserted_rows.Rows.{Rows}
use Rattle.gj_theory.specs.HandedOver.{renumbered}

-- the numbers are those of the kernel, none of whose marked numbers passes
pub record IsKernel (f : FunctionData) (component : ℕ → ℕ) (n : ℕ) (numbers : List ℤ) : Type 0 where
  pub solution : Solution
  pub solves : kernel n (slope_elimination f component n).kept ≡ Some solution
  pub fits : Passes solution.marked → ⊥
  pub same : numbers ≡ solution.numbers

-- the basis has the kernel of the rows that are kept of all
pub kernel_same : (f : FunctionData) (component : ℕ → ℕ) (n : ℕ) (rows : Rows) →
    AreInserted f component n rows →
    kernel n (slope_elimination f component n).kept ≡ kernel rows.basis.columns rows.basis.kept
kernel_same f component n rows h =
    ap (kernel n) h.kept ∙ kernel_renumbered h.numbers n rows.basis.kept
    ∙ ap (λ m. kernel m rows.basis.kept) (sym h.columns)

-- if fewer rows are kept than there are components, there is one
pub kernel_found : (f : FunctionData) (component : ℕ → ℕ) (n : ℕ) (rows : Rows) (numbers : List ℤ) →
    AreInserted f component n rows → length rows.basis.kept < n →
    IfSome (kernel rows.basis.columns rows.basis.kept) (λ s. numbers ≡ s.numbers) →
    (Passes (marked_in (kernel rows.basis.columns rows.basis.kept)) → ⊥) →
    IsKernel f component n numbers
kernel_found f component n rows numbers h fewer value narrow =
    by_solution (kernel rows.basis.columns rows.basis.kept) refl value narrow
  where
    by_solution : (o : Option Solution) → kernel rows.basis.columns rows.basis.kept ≡ o →
        IfSome o (λ s. numbers ≡ s.numbers) →
        (Passes (marked_in o) → ⊥) → IsKernel f component n numbers
    by_solution None e is fits =
        let triangular = (elimination_has whole_sound n _
        (begun_columns f component n (row_names f))).triangular in
        let full = (kernel_none n (slope_elimination f component n).kept triangular).0
        (kernel_same f component n rows h ∙ e) in
        let len = ap length h.kept in
        let same = length-map rows.basis.kept (renumbered h.numbers) in
        absurd (omega arith)
    by_solution (Some s) e is fits =
        record {
          solution = s;
          solves = kernel_same f component n rows h ∙ e;
          fits = fits;
          same =
              is;
        }

-- they have a number for each component
pub kernel_covers : (f : FunctionData) (lines : List CoverLine) (component : List ℕ) (n : ℕ)
    (numbers : List ℤ) →
    length component ≡ f.order → AreAllCovered f lines (component_in component) n →
    IsKernel f (component_in component) n numbers →
    All (λ c. c < length numbers) component
kernel_covers f lines component n numbers len covered h = λ k d below.
    let solves = solution_solves f (component_in component) n h.solution h.solves in
    let columns : length numbers ≡ n = ap length h.same ∙ solves.columns in
    let low : k < f.order = subst (λ (q : ℕ). k < q) len below in
    let here = components_below f lines (component_in component) n covered k low in
    let read = get_or_default component k d 0 below in
    omega arith
