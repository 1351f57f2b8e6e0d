-- The decision by residues, from the log of the rows that residues keep.
use Rattle.std.proofs.Common.{◌≡◌, ℕ, ◌<◌, ℤ, List, length, map, ap, ap₂, subst, subst₂, ◌∙◌}
use Rattle.std.specs.Prelude.{All}
use Rattle.gj_shape.specs.Elimination.{elimination_by, Passes}
use Rattle.gj_shape.specs.FunctionData.{FunctionData}
use Rattle.gj_shape.specs.Residues.{modulo}
use Rattle.gj_shape.specs.SlopeRows.{row_of, row_names}
use Rattle.gj_shape.specs.declared.extremality.CoverLine.{CoverLine}
use Rattle.gj_shape.specs.declared.extremality.RowName.{RowName}
use Rattle.gj_elim.specs.KeptRows.{log_row}
use Rattle.gj_elim.specs.declared.log.LogRow.{LogRow}
use Rattle.gj_residue.specs.Settled.{IsFullLog}
use Rattle.gj_system.specs.Components.{IsNameBelow}
use Rattle.gj_theory.specs.Modulus.{modulus}
use Rattle.gj_theory.proofs.ExtremeByCover.{each_row}
use Rattle.gj_proof.specs.PresentRows.{named_row}
use Rattle.gj_proof.specs.declared.numbers.Numbers.TheVariants.{Residues}
use Rattle.gj_proof.specs.declared.pivot.PivotRow.{PivotRow}
use Rattle.gj_extreme.specs.Decision.{AreAllCovered, AreExtremeRows, IsTooWide, elimination_over, slope_elimination, group_of}
use Rattle.gj_extreme.specs.RowsToCome.{rows_named}
use Rattle.gj_extreme.proofs.WideParts.{elimination_wide}

-- the points of each name are below the order
pub names_are_below : (f : FunctionData) → All (λ name. IsNameBelow name f.order) (row_names f)
names_are_below f =
    each_row (λ name. IsNameBelow name f.order) f tt tt (λ a b a_low b_low tight. (a_low, b_low))

pub rows_by_residues : (f : FunctionData) (lines : List CoverLine) (component : ℕ → ℕ) (n : ℕ)
    (rows : List (List ℤ)) (log : List LogRow)
    (groups : List PivotRow) → AreAllCovered f lines component n →
    Passes (slope_elimination f component n).marked →
    rows ≡ rows_named f component n (row_names f) → IsFullLog n rows log →
    groups ≡ map (group_of f) (elimination_over Residues f component n).kept →
    AreExtremeRows Residues f lines groups
rows_by_residues f lines component n rows log groups covered passes are h groups_are = record {
  component = component;
  n = n;
  covered = covered;
  needed = passes;
  all = (subst (λ (rs : List (List ℤ)). IsFullLog n rs log) are h).full;
  rows_are = groups_are;
}

pub wide_by_residues : (f : FunctionData) (lines : List CoverLine) (component : ℕ → ℕ) (n m : ℕ)
    (rows : List (List ℤ)) →
    AreAllCovered f lines component n → Passes (slope_elimination f component n).marked →
    rows ≡ rows_named f component n (row_names f) →
    m ≡ n → length (elimination_by (modulo modulus) m rows).kept < m → IsTooWide f
wide_by_residues f lines component n m rows covered passes are columns fewer =
    elimination_wide f lines component n covered passes
    (subst₂ (λ (k : ℕ) (rs : List (List ℤ)). length (elimination_by (modulo modulus) k rs).kept < k)
    columns are fewer)

-- the rows that are made of the names
pub rows_are : (f : FunctionData) (component : ℕ → ℕ) (n q k : ℕ) (names : List RowName)
    (rows : List (List ℤ)) →
    rows ≡ map (row_of component n q k) names → q ≡ f.order → k ≡ f.place → names ≡ row_names f →
    rows ≡ rows_named f component n (row_names f)
rows_are f component n q k names rows are order place same =
    are ∙ ap₂ (λ i j. map (row_of component n i j) names) order place
    ∙ ap (map (named_row f component n)) same

pub log_of : (f : FunctionData) (component : ℕ → ℕ) (n : ℕ) (rows : List (List ℤ))
    (log : List LogRow) →
    rows ≡ rows_named f component n (row_names f) → IsFullLog n rows log →
    log ≡ map log_row (elimination_over Residues f component n).kept
log_of f component n rows log are h =
    (subst (λ (rs : List (List ℤ)). IsFullLog n rs log) are h).log_is
