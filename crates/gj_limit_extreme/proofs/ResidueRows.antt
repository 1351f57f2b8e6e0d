-- The decision by residues, from the log of the rows that residues keep.
use Rattle.std.proofs.Common.{◌≡◌, ℕ, ◌<◌, inl, ℤ, List, length, map, refl, ap, ap₂, subst, subst₂, ◌∙◌}
use Rattle.std.specs.Prelude.{All}
use Rattle.std.proofs.Math.Path.{fun_ext}
use Rattle.gj_cover.specs.declared.covered.Cover.{Cover}
use Rattle.gj_elim.specs.KeptRows.{log_row}
use Rattle.gj_elim.specs.declared.log.LogRow.{LogRow}
use Rattle.gj_residue.specs.Settled.{IsFullLog}
use Rattle.gj_shape.specs.Elimination.{elimination_by, Passes}
use Rattle.gj_shape.specs.FunctionData.{FunctionData}
use Rattle.gj_shape.specs.Residues.{modulo}
use Rattle.gj_shape.specs.SlopeRows.{component_in}
use Rattle.gj_theory.specs.Modulus.{modulus}
use Rattle.gj_limit_system.specs.LimitRows.{limit_rows}
use Rattle.gj_limit_system.specs.Unknowns.{ColumnData, columns_for}
use Rattle.gj_limit_system.specs.declared.limit_row.LimitRow.{LimitRow}
use Rattle.gj_proof.specs.declared.numbers.Numbers.TheVariants.{Residues}
use Rattle.gj_limit_proof.specs.LimitRowsKept.{named_row}
use Rattle.gj_limit_proof.specs.declared.claim.LimitPivotRow.{LimitPivotRow}
use Rattle.gj_limit_extreme.specs.Decision.{AreAllCovered, AreExtremeRows, IsLimitTooWide, columns_of, elimination_over, limit_elimination, group_of}
use Rattle.gj_limit_extreme.specs.SystemRows.{columns_in, row_in, IsSystemOf}
use Rattle.gj_limit_extreme.proofs.DecidedGroups.{system_rows}
use Rattle.gj_limit_extreme.proofs.SystemRows.{row_of_system}

-- the rows that are made of the names
pub rows_are : (f : FunctionData) (s : ColumnData) (names : List LimitRow) → IsSystemOf f s →
    names ≡ limit_rows f →
    map (row_in s) names ≡ system_rows f (component_in s.component) (columns_in s)
rows_are f s names is same =
    ap (λ g. map g names) (fun_ext (λ name. row_of_system f s name is))
    ∙ ap (map (named_row f (component_in s.component) (columns_in s))) same

-- the system has the columns of the cover
pub columns_are : (f : FunctionData) (s : ColumnData) (cover : Cover) → IsSystemOf f s →
    s.count ≡ cover.count →
    columns_in s ≡ columns_of f cover
columns_are f s cover is count = ap₂ columns_for is.order count

pub log_of : (f : FunctionData) (s : ColumnData) (rows : List (List ℤ)) (log : List LogRow) →
    rows ≡ system_rows f (component_in s.component) (columns_in s) →
    IsFullLog (columns_in s) rows log →
    log ≡ map log_row (elimination_over Residues f s.component (columns_in s)).kept
log_of f s rows log are full = (subst (λ rs. IsFullLog (columns_in s) rs log) are full).log_is

module _ (f : FunctionData) (s : ColumnData) (cover : Cover) (is : IsSystemOf f s)
    (count : s.count ≡ cover.count)
    (covered : AreAllCovered f cover s.component)
    (passes : Passes (limit_elimination f s.component (columns_in s)).marked) where
  all_pass : Passes (limit_elimination f s.component (columns_of f cover)).marked
  all_pass = subst (λ (n : ℕ). Passes (limit_elimination f s.component n).marked)
      (columns_are f s cover is count) passes

  pub rows_by_residues : (rows : List (List ℤ)) (log : List LogRow) (groups : List LimitPivotRow) →
      rows ≡ system_rows f (component_in s.component) (columns_in s) →
      IsFullLog (columns_in s) rows log →
      groups ≡ map (group_of f) (elimination_over Residues f s.component (columns_in s)).kept →
      AreExtremeRows Residues f cover.lines groups
  rows_by_residues rows log groups are full groups_are =
      let columns = columns_are f s cover is count in
      record {
        cover = cover;
        component = s.component;
        covered = covered;
        lines_are = refl;
        needed = all_pass;
        all = subst (λ (n : ℕ). length (elimination_over Residues f s.component n).kept ≡ n) columns
            (subst (λ rs. IsFullLog (columns_in s) rs log) are full).full;
        rows_are = groups_are
            ∙ ap (λ (n : ℕ). map (group_of f) (elimination_over Residues f s.component n).kept)
            columns;
      }

  pub wide_by_residues : (rows : List (List ℤ)) (m : ℕ) →
      rows ≡ system_rows f (component_in s.component) (columns_in s) →
      m ≡ columns_in s → length (elimination_by (modulo modulus) m rows).kept < m → IsLimitTooWide f
  wide_by_residues rows m are columns fewer = record {
    cover = cover;
    component = s.component;
    covered = covered;
    passes = inl (
      all_pass,
      subst (λ (n : ℕ). length (elimination_over Residues f s.component n).kept < n)
          (columns_are f s cover is count)
          (subst₂ (λ n rs. length (elimination_by (modulo modulus) n rs).kept < n) columns are
          fewer),
    );
  }
