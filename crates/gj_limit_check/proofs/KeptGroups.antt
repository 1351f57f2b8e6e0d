-- The rows that groups keep: triangular, and solved by what solves the rows with which the groups
-- begin; as many as columns leave only 0.
use Rattle.std.proofs.Common.{◌≡◌, ℕ, inr, ◌+◌, Option, None, Some, ℤ, pos, List, [], ◌∷◌, ◌++◌, length, map, refl, ◌∙◌, arith, lit<}
use Rattle.std.specs.Prelude.{All}
use Rattle.std.proofs.lemmas.List.{length_push, length-map}
use Rattle.std.proofs.lemmas.List.FromFn.{length-map-range_with_len}
use Rattle.std.proofs.lemmas.List.Elements.{All-nil, All-head, All-tail}
use Rattle.gj_shape.specs.Elimination.{KeptRow, at_column, scaled, kept_entries, kept_behind}
use Rattle.gj_shape.specs.FunctionData.{FunctionData}
use Rattle.gj_shape.specs.Residues.{residue, residues, inverse, times_inverse, modulo, SolvesModulo}
use Rattle.gj_theory.specs.Modulus.{modulus}
use Rattle.gj_theory.specs.TriangularResidues.{SolvesKeptModulo, AreTriangularResidues}
use Rattle.gj_theory.specs.TriangularRows.{Solves, SolvesKept, AreTriangular, present_row_by, present_row}
use Rattle.gj_theory.proofs.Eliminations.{columns_after_steps, present_row_solved}
use Rattle.gj_theory.proofs.Insertions.{leaves_kept}
use Rattle.gj_theory.proofs.Inverses.{inverse_none}
use Rattle.gj_theory.proofs.ResidueElimination.{to_modulo, kept_residues_leave_zero}
use Rattle.gj_theory.proofs.ResidueSteps.{solves_residues, inverse_keeps, modulo_sound}
use Rattle.gj_theory.proofs.SoundArithmetic.{whole_sound, whole_kept}
use Rattle.gj_theory.proofs.Triangular.{no_rows_triangular, zeros_of}
use Rattle.gj_proof.specs.declared.numbers.Numbers.{Numbers}
use Rattle.gj_proof.specs.declared.numbers.Numbers.TheVariants.{Whole, Residues}
use Rattle.gj_proof.specs.PresentRows.{arithmetic_of, entries_or_none}
use Rattle.gj_proof.specs.Rules.{MeetsPivotBy}
use Rattle.gj_check.proofs.ExtremeMeaning.{some_columns, pivot_free}
use Rattle.gj_limit_proof.specs.declared.claim.LimitPivotRow.{LimitPivotRow}
use Rattle.gj_limit_proof.specs.LimitRowsKept.{named_row, begun_row, row_kept_by, rows_behind_by}

-- ---- present rows

module _ (f : FunctionData) (component : ℕ → ℕ) (n : ℕ) where
  -- the row with which a group begins
  abbrev named : LimitPivotRow → List ℤ
  named group = named_row f component n group.name

  abbrev pub rows_of : List LimitPivotRow → List (List ℤ)
  rows_of groups = map (λ group. named_row f component n group.name) groups

  named_length : (group : LimitPivotRow) → length (named group) ≡ n
  named_length group = length-map-range_with_len _ 0 n

  -- behind kept rows a group has a new pivot
  abbrev HasPivot : Numbers → List KeptRow → LimitPivotRow → Type 0
  HasPivot numbers kept group =
      MeetsPivotBy numbers n kept
      (present_row_by (arithmetic_of numbers) kept
      (begun_row (arithmetic_of numbers) f component n group.name) group.reduce) group.pivot

  -- so has each, behind those that the groups before it keep
  abbrev pub HavePivots : Numbers → List KeptRow → List LimitPivotRow → Type 0
  HavePivots numbers kept [] = Unit {0}
  HavePivots numbers kept (group ∷ more) =
      HasPivot numbers kept group
      × HavePivots numbers
      (kept ++ row_kept_by (arithmetic_of numbers) f component n kept group ∷ []) more

  -- ---- of whole numbers

  group_keeps : (w : List ℤ) (kept : List KeptRow) (group : LimitPivotRow) →
      Solves w (named group) → AreTriangular n kept →
      SolvesKept w kept → HasPivot Whole kept group →
      AreTriangular n (kept ++ row_kept_by (arithmetic_of Whole) f component n kept group ∷ [])
      × SolvesKept w (kept ++ row_kept_by (arithmetic_of Whole) f component n kept group ∷ [])
  unfolding kept_behind
  group_keeps w kept group row h solved pivot =
      let columns : All (λ k. length k.entries ≡ n) kept = λ i d low. (h.rows i d low).columns in
      let present = present_row kept (named group) group.reduce in
      let c = group.pivot in
      let len = named_length group in
      let long : length present ≡ n =
      some_columns n present c
      (columns_after_steps whole_sound n kept (named group) group.reduce columns (inr len))
      pivot.not_zero in
      let left =
      leaves_kept whole_sound n kept present c (kept_entries present c) h long pivot.column
      (pivot_free kept c pivot.new)
      pivot.zero_before (whole_kept present c (kept_entries present c) pivot.not_zero refl) in
      let here = present_row_solved whole_sound n kept (named group) w group.reduce columns len
      solved row in (
        left.triangular (length kept) group.reduce,
        (left.solutions (length kept) group.reduce w).onward (solved, here),
      )

  -- the rows behind groups: triangular, solved, and as many more as groups
  record AreKept (w : List ℤ) (count : ℕ) (kept : List KeptRow) : Type 0 where
    triangular : AreTriangular n kept
    solved : SolvesKept w kept
    many : length kept ≡ count

  groups_keep : (w : List ℤ) (kept : List KeptRow) (groups : List LimitPivotRow) →
      All (Solves w) (rows_of groups) →
      AreTriangular n kept → SolvesKept w kept → HavePivots Whole kept groups →
      AreKept w (length kept + length groups)
      (rows_behind_by (arithmetic_of Whole) f component n kept groups)
  groups_keep w kept [] all h solved pivots =
      record { triangular = h; solved = solved; many = omega arith }
  groups_keep w kept (group ∷ more) all h solved pivots =
      let next = group_keeps w kept group (All-head (Solves w) (named group) (rows_of more) all) h
      solved pivots.0 in
      let row = row_kept_by (arithmetic_of Whole) f component n kept group in
      let long = length_push kept row in
      let behind =
      groups_keep w (kept ++ row ∷ []) more (All-tail (Solves w) (named group) (rows_of more) all)
      next.0 next.1 pivots.1 in
      record {
        triangular = behind.triangular;
        solved = behind.solved;
        many = let many =
            behind.many in omega arith;
      }

  -- ---- of residues

  abbrev modulo_row : List KeptRow → LimitPivotRow → KeptRow
  modulo_row kept group = row_kept_by (modulo modulus) f component n kept group

  -- the kept rows behind a group: triangular, and solved modulo the modulus by what solves the kept
  -- rows before and its row
  record KeepsModulo (kept : List KeptRow) (group : LimitPivotRow) (after : List KeptRow) :
      Type 0 where
    triangular : AreTriangularResidues n after
    solved : (w : List ℤ) → SolvesKeptModulo modulus w kept → SolvesModulo modulus w (named group) →
        SolvesKeptModulo modulus w after

  keeps_by_inverse : (kept : List KeptRow) (group : LimitPivotRow) (present : List ℤ) →
      AreTriangularResidues n kept →
      MeetsPivotBy Residues n kept present group.pivot → length present ≡ n →
      ((w : List ℤ) → SolvesKeptModulo modulus w kept → SolvesModulo modulus w (named group) →
      SolvesModulo modulus w present) →
      (o : Option ℕ) → inverse modulus (at_column present group.pivot) ≡ o →
      KeepsModulo kept group (kept ++ record {
        number = length kept;
        reduce = group.reduce;
        pivot = group.pivot;
        entries = entries_or_none (times_inverse modulus present o);
      } ∷ [])
  unfolding kept_behind
  keeps_by_inverse kept group present h meets long solves None e =
      absurd ((inverse_none modulus (at_column present group.pivot) (lit< tt)).0 e meets.1)
  keeps_by_inverse kept group present h meets long solves (Some u) e =
      let c = group.pivot in
      let entries = residues modulus (scaled (pos u) present) in
      let pivot = meets.0 in
      let left =
      leaves_kept (modulo_sound modulus (lit< tt)) n kept present c entries h long pivot.column
      (pivot_free kept c pivot.new)
      pivot.zero_before (inverse_keeps modulus present c u (lit< tt) e) in
      record {
        triangular = left.triangular (length kept) group.reduce;
        solved = λ w all row. (left.solutions (length kept) group.reduce w).onward
            (all, solves w all row);
      }

  group_keeps_modulo : (kept : List KeptRow) (group : LimitPivotRow) →
      AreTriangularResidues n kept → HasPivot Residues kept group →
      KeepsModulo kept group (kept ++ modulo_row kept group ∷ [])
  group_keeps_modulo kept group h meets =
      let begun = residues modulus (named group) in
      let present = present_row_by (modulo modulus) kept begun group.reduce in
      let c = group.pivot in
      let columns : All (λ k. length k.entries ≡ n) kept = λ i d low. (h.rows i d low).columns in
      let len : length begun ≡ n = length-map (named group) (residue modulus)
      ∙ named_length group in
      let long : length present ≡ n =
      some_columns n present c
      (columns_after_steps (modulo_sound modulus (lit< tt)) n kept begun group.reduce columns
      (inr len)) meets.0.not_zero in
      keeps_by_inverse kept group present h meets long
      (λ w all row.
      present_row_solved (modulo_sound modulus (lit< tt)) n kept begun w group.reduce columns len
      all
      (solves_residues modulus (named group) w (lit< tt) row))
      (inverse modulus (at_column present c)) refl

  -- the rows behind groups, which what solves all their rows modulo the modulus solves, and as many
  -- more as groups
  record AreKeptModulo (kept : List KeptRow) (groups : List LimitPivotRow) (after : List KeptRow) :
      Type 0 where
    triangular : AreTriangularResidues n after
    solved : (w : List ℤ) → SolvesKeptModulo modulus w kept →
        All (SolvesModulo modulus w) (rows_of groups) →
        SolvesKeptModulo modulus w after
    many : length after ≡ length kept + length groups

  groups_keep_modulo : (kept : List KeptRow) (groups : List LimitPivotRow) →
      AreTriangularResidues n kept →
      HavePivots Residues kept groups →
      AreKeptModulo kept groups (rows_behind_by (modulo modulus) f component n kept groups)
  groups_keep_modulo kept [] h meets =
      record { triangular = h; solved = λ w all rows. all; many = omega arith }
  groups_keep_modulo kept (group ∷ more) h meets =
      let next = group_keeps_modulo kept group h meets.0 in
      let long = length_push kept (modulo_row kept group) in
      let behind = groups_keep_modulo (kept ++ modulo_row kept group ∷ []) more next.triangular
      meets.1 in
      record {
        triangular = behind.triangular;
        solved = λ w all rows.
            behind.solved w (next.solved w all
            (All-head (SolvesModulo modulus w) (named group) (rows_of more) rows))
            (All-tail (SolvesModulo modulus w) (named group) (rows_of more) rows);
        many = let many = behind.many in omega arith;
      }

  -- ---- as many groups as columns leave only 0

  pub groups_leave_zero : (numbers : Numbers) (rows : List LimitPivotRow) (w : List ℤ) →
      HavePivots numbers [] rows → length rows ≡ n →
      length w ≡ n → All (Solves w) (rows_of rows) → All (λ x. x ≡ pos 0) w
  groups_leave_zero Whole rows w pivots full long solved =
      let kept = groups_keep w [] rows solved (no_rows_triangular n)
      (All-nil (λ k. Solves w k.entries)) pivots in
      zeros_of n (rows_behind_by (arithmetic_of Whole) f component n [] rows) w kept.triangular
      (let many = kept.many in omega arith) long
      kept.solved
  groups_leave_zero Residues rows w pivots full long solved =
      let kept = groups_keep_modulo [] rows (no_rows_triangular n) pivots in
      kept_residues_leave_zero modulus n (rows_behind_by (modulo modulus) f component n [] rows)
      (rows_of rows) w (lit< tt)
      kept.triangular (let many = kept.many in omega arith)
      (λ v len all. kept.solved v (All-nil (λ k. SolvesModulo modulus v k.entries))
      (to_modulo modulus v (rows_of rows) all))
      long solved
