use Rattle.std.proofs.Common.{◌≡◌, ℕ, ℤ, List, Option, Some, refl, ap, sym, subst, length, ◌∙◌}
use Rattle.gj_shape.specs.Elimination.{Insertion, KeptRow, Passes, whole_numbers, inserted, kept_entries}
use Rattle.gj_elim.specs.Basis.{data_of}
use Rattle.gj_elim.specs.Progress.{IsLeft, IsFreeColumn, kept_at}
use Rattle.gj_elim.specs.Data.{BasisData}
use Rattle.gj_elim.specs.Tables.{AreKept, rows_of}
use Rattle.std.specs.Prelude.{All, IfSome}
use Rattle.gj_frac.specs.Fraction.{Fits}
use Rattle.gj_theory.specs.TriangularRows.{AreTriangular}
use Rattle.gj_elim.specs.declared.log.Inserted.TheVariants.{Pivot}
use Rattle.gj_elim.proofs.Keeping.{IsInserted, insertion_read, nothing_inserted, row_inserted, triangular_from, solutions_from, same_error}
use Rattle.gj_frac.proofs.Refusals.{on_err}
use Rattle.std.proofs.lemmas.Result.{err_from_is_err_and}
use Rattle.gj_elim.proofs.KeptTables.{held}
use Rattle.gj_elim.proofs.basis.Basis.insert.Goals as goal

abbrev basis_data : ℕ → ℕ → List KeptRow → BasisData
basis_data columns inserted kept = record { columns = columns; inserted = inserted; kept = kept }

pub returns-in_err-left-clause-wide : goal.returns-in_err-left-clause-wide
returns-in_err-left-clause-wide c =
    let whole = insertion_read (data_of c.self.inside) c.args.self.now c.self.inside.kept.log.items
    c.self.inside.kept.rows.items c.args.row.now
    c.args.row.now c.self.view_is
    refl
    refl c.requires.columns in
    λ e. subst (λ (i : Insertion). Passes i.marked) whole
    (c.in_err-left.ensures.wide
    (same_error c.from_residual.result c.in_err-left.field-0.0 _ c.from_residual.ensures.0
    c.from_residual.ensures.1 e))

pub returns-in-None : goal.returns-in-None
returns-in-None c =
    let D = data_of c.self.inside in
    let columns : length c.args.row.now ≡ D.columns = c.requires.columns
    ∙ sym (ap (λ d. d.columns) c.self.view_is) in
    let whole = insertion_read D D c.self.inside.kept.log.items c.self.inside.kept.rows.items
    c.args.row.now
    c.args.row.now refl refl refl
    columns in
    let left = subst (λ (i : Insertion). IsLeft whole_numbers i c.in_ok-left.left
    c.reduce_row.new.row c.reduce_row.new.reduce.items) whole
    c.in_ok-left.ensures.left in
    let told = nothing_inserted whole_numbers D c.args.self.now c.args.row.now c.reduce_row.new.row
    c.reduce_row.new.reduce.items c.in_ok-left.left
    c.self.view_is left (ap (λ o. kept_at whole_numbers o c.reduce_row.new.row) c.in-None.is) in
    record {
      kept = told.kept;
      answer = told.answer;
      narrow = λ p.
          c.in_ok-left.ensures.narrow (subst (λ (i : Insertion). Passes i.marked)
          (sym (whole ∙ ap (λ b. inserted b.columns b.kept c.args.row.now) c.self.view_is)) p);
      wide = λ e. absurd cc;
      unchanged = tt;
      solutions = λ w. solutions_from D c.args.self.now c.args.row.now w _ c.self.view_is
          c.self.invariant.kept.triangular c.requires.columns told.rows;
      triangular = triangular_from D c.args.row.now _ c.self.invariant.kept.triangular columns
          told.rows;
    }

-- ---- what a call needs

columns_are : (c : goal.After-reduce_row-arg-2-1) → length c.args.row.now ≡ c.self.inside.columns
columns_are c = c.requires.columns ∙ sym (ap (λ d. d.columns) c.self.view_is)

pub reduce_row-requires-clause-kept : goal.reduce_row-requires-clause-kept
reduce_row-requires-clause-kept c =
    subst (λ (n : ℕ). AreKept n c.self.inside.kept) (sym (columns_are c)) c.self.invariant.kept

pub reduce_row-requires-clause-row_columns : goal.reduce_row-requires-clause-row_columns
reduce_row-requires-clause-row_columns c =
    ap length c.as_mut_slice.ensures.value ∙ c.self.invariant.columns ∙ sym (columns_are c)

pub reduce_row-requires-clause-small_columns : goal.reduce_row-requires-clause-small_columns
reduce_row-requires-clause-small_columns c =
    ap length c.as_mut_slice-2.ensures.value ∙ c.self.invariant.small_columns ∙ sym (columns_are c)

pub reduce_row-requires-clause-fits : goal.reduce_row-requires-clause-fits
reduce_row-requires-clause-fits c = c.requires.entries

pub reduce_row-requires-clause-empty : goal.reduce_row-requires-clause-empty
reduce_row-requires-clause-empty c = c.clear.ensures.items

-- the column at which something is left
free_column : (c : goal.After-as_slice-in-Some) →
    IsFreeColumn (length c.args.row.now) c.self.inside.kept.log.items c.in-Some.column
free_column c =
    subst (λ (o : Option ℕ). IfSome o (IsFreeColumn (length c.args.row.now)
    c.self.inside.kept.log.items))
    c.in-Some.is
    c.in_ok-left.ensures.within

row_held : (c : goal.After-as_slice-in-Some) →
    c.as_slice-in-Some.result.now ≡ c.reduce_row.new.row
row_held c =
    c.as_slice-in-Some.ensures.value
    ∙ (held _ c.self.inside.row _ _ c.self.inside.row.ok.0 c.self.invariant.columns
    c.as_mut_slice.ensures.value c.reduce_row.auto.row).is

columns_of_row : (c : goal.After-as_slice-in-Some) → length c.args.row.now ≡ c.self.inside.columns
columns_of_row c = c.requires.columns ∙ sym (ap (λ d. d.columns) c.self.view_is)

-- the columns of the row that is handed on
row_columns : (c : goal.After-as_slice-in-Some) →
    length c.as_slice-in-Some.result.now ≡ c.self.inside.columns
row_columns c =
    ap length c.as_slice-in-Some.ensures.value
    ∙ (held _ c.self.inside.row _ _ c.self.inside.row.ok.0 c.self.invariant.columns
    c.as_mut_slice.ensures.value c.reduce_row.auto.row).columns

pub keep-requires-clause-kept : goal.keep-requires-clause-kept
keep-requires-clause-kept c =
    subst (λ (n : ℕ). AreKept n c.self.inside.kept) (sym (row_columns c)) c.self.invariant.kept

pub keep-requires-clause-fits : goal.keep-requires-clause-fits
keep-requires-clause-fits c =
    subst (λ (xs : List ℤ). All Fits xs) (sym (row_held c))
    (subst (λ (o : Option ℕ). IfSome o (λ _. All Fits c.reduce_row.new.row)) c.in-Some.is
    c.in_ok-left.ensures.fits)

pub keep-requires-clause-free : goal.keep-requires-clause-free
keep-requires-clause-free c =
    subst (λ (n : ℕ). IsFreeColumn n c.self.inside.kept.log.items c.in-Some.column)
    (columns_of_row c ∙ sym (row_columns c)) (free_column c)

pub invariant_of-self-in_err-keep-in-Some : goal.invariant_of-self-in_err-keep-in-Some
invariant_of-self-in_err-keep-in-Some c =
    let row = held _ c.self.inside.row _ _ c.self.inside.row.ok.0 c.self.invariant.columns
    c.as_mut_slice.ensures.value c.reduce_row.auto.row in record {
      kept = subst (λ (n : ℕ). AreKept n c.keep.new.kept)
          (ap length c.as_slice-in-Some.ensures.value ∙ row.columns)
          c.in_err-keep-in-Some.ensures.unchanged;
      columns = row.columns;
      small_columns = (held _ c.self.inside.small _ _ c.self.inside.small.ok.0
          c.self.invariant.small_columns c.as_mut_slice-2.ensures.value
          c.reduce_row.auto.small).columns;
    }

-- what is left is kept
row_told : (c : goal.After-self-in-Some-1) → IsInserted whole_numbers (data_of c.self.inside)
    c.args.self.now c.args.row.now (rows_of c.keep.new.kept) (Pivot c.in-Some.column)
row_told c =
    let D = data_of c.self.inside in
    let columns : length c.args.row.now ≡ D.columns = c.requires.columns
    ∙ sym (ap (λ d. d.columns) c.self.view_is) in
    let whole = insertion_read D D c.self.inside.kept.log.items c.self.inside.kept.rows.items
    c.args.row.now
    c.args.row.now refl refl refl
    columns in
    let left = subst (λ (i : Insertion). IsLeft whole_numbers i c.in_ok-left.left
    c.reduce_row.new.row c.reduce_row.new.reduce.items) whole
    c.in_ok-left.ensures.left in
    let row = held _ c.self.inside.row _ _ c.self.inside.row.ok.0 c.self.invariant.columns
    c.as_mut_slice.ensures.value c.reduce_row.auto.row in
    row_inserted whole_numbers D c.args.self.now c.args.row.now c.reduce_row.new.row
    c.reduce_row.new.reduce.items c.in_ok-left.left
    c.self.inside.kept.log.items c.keep.new.kept.log.items c.self.inside.kept.rows.items
    c.keep.new.kept.rows.items
    record {
      number = c.self.inside.inserted;
      reduce = c.as_slice.result.now;
      pivot =
          c.in-Some.column;
    }
    (kept_entries c.as_slice-in-Some.result.now c.in-Some.column) c.self.view_is left
    c.in-Some.is refl c.self.invariant.kept.lines c.in_ok-keep-in-Some.ensures.line
    c.in_ok-keep-in-Some.ensures.entries refl
    c.as_slice.ensures.value
    (ap (λ xs. Some (kept_entries xs c.in-Some.column))
    (sym (c.as_slice-in-Some.ensures.value ∙ row.is)))

pub invariant_of-self-in-Some : goal.invariant_of-self-in-Some
invariant_of-self-in-Some c =
    let columns = c.requires.columns ∙ sym (ap (λ d. d.columns) c.self.view_is) in
    let row = held _ c.self.inside.row _ _ c.self.inside.row.ok.0 c.self.invariant.columns
    c.as_mut_slice.ensures.value c.reduce_row.auto.row in
    let row_columns = ap length c.as_slice-in-Some.ensures.value ∙ row.columns in
    record {
      kept = subst (λ (n : ℕ). AreKept n c.keep.new.kept) row_columns
          (c.in_ok-keep-in-Some.ensures.kept
          (subst (λ (n : ℕ). AreTriangular n (rows_of c.keep.new.kept)) (sym row_columns)
          (triangular_from (data_of c.self.inside) c.args.row.now _
          c.self.invariant.kept.triangular columns (row_told c).rows)));
      columns = row.columns;
      small_columns = (held _ c.self.inside.small _ _ c.self.inside.small.ok.0
          c.self.invariant.small_columns c.as_mut_slice-2.ensures.value
          c.reduce_row.auto.small).columns;
    }

pub returns-in_ok-keep-in-Some : goal.returns-in_ok-keep-in-Some
returns-in_ok-keep-in-Some c =
    let D = data_of c.self.inside in
    let columns : length c.args.row.now ≡ D.columns = c.requires.columns
    ∙ sym (ap (λ d. d.columns) c.self.view_is) in
    let whole = insertion_read D D c.self.inside.kept.log.items c.self.inside.kept.rows.items
    c.args.row.now c.args.row.now refl refl refl columns in
    let told = row_told c in
    record {
      kept = told.kept;
      answer = told.answer;
      narrow = λ p.
          c.in_ok-left.ensures.narrow (subst (λ (i : Insertion). Passes i.marked)
          (sym (whole ∙ ap (λ b. inserted b.columns b.kept c.args.row.now) c.self.view_is)) p);
      wide = λ e. absurd cc;
      unchanged = tt;
      solutions = λ w. solutions_from D c.args.self.now c.args.row.now w _ c.self.view_is
          c.self.invariant.kept.triangular c.requires.columns told.rows;
      triangular = triangular_from D c.args.row.now _ c.self.invariant.kept.triangular columns
          told.rows;
    }

pub invariant_of-self : goal.invariant_of-self
invariant_of-self c = record {
  kept = c.self.invariant.kept;
  columns = (held _ c.self.inside.row _ _ c.self.inside.row.ok.0 c.self.invariant.columns
      c.as_mut_slice.ensures.value c.reduce_row.auto.row).columns;
  small_columns = (held _ c.self.inside.small _ _ c.self.inside.small.ok.0
      c.self.invariant.small_columns c.as_mut_slice-2.ensures.value
      c.reduce_row.auto.small).columns;
}

pub invariant_of-self-in-None : goal.invariant_of-self-in-None
invariant_of-self-in-None c = record {
  kept = c.self.invariant.kept;
  columns = (held _ c.self.inside.row _ _ c.self.inside.row.ok.0 c.self.invariant.columns
      c.as_mut_slice.ensures.value c.reduce_row.auto.row).columns;
  small_columns = (held _ c.self.inside.small _ _ c.self.inside.small.ok.0
      c.self.invariant.small_columns c.as_mut_slice-2.ensures.value
      c.reduce_row.auto.small).columns;
}

pub returns-in_err-left-clause-kept : goal.returns-in_err-left-clause-kept
returns-in_err-left-clause-kept c =
    rw (err_from_is_err_and c.from_residual.result c.from_residual.ensures.1).1 tt

pub returns-in_err-left-clause-answer : goal.returns-in_err-left-clause-answer
returns-in_err-left-clause-answer c =
    rw (err_from_is_err_and c.from_residual.result c.from_residual.ensures.1).1 tt

pub returns-in_err-left-clause-narrow : goal.returns-in_err-left-clause-narrow
returns-in_err-left-clause-narrow c =
    rw (err_from_is_err_and c.from_residual.result c.from_residual.ensures.1).1 tt

pub returns-in_err-left-clause-solutions : goal.returns-in_err-left-clause-solutions
returns-in_err-left-clause-solutions c =
    rw (err_from_is_err_and c.from_residual.result c.from_residual.ensures.1).1 tt

pub returns-in_err-left-clause-triangular : goal.returns-in_err-left-clause-triangular
returns-in_err-left-clause-triangular c =
    rw (err_from_is_err_and c.from_residual.result c.from_residual.ensures.1).1 tt

pub returns-in_err-keep-in-Some-clause-kept : goal.returns-in_err-keep-in-Some-clause-kept
returns-in_err-keep-in-Some-clause-kept c =
    rw (err_from_is_err_and c.from_residual-in_err-keep-in-Some.result
    c.from_residual-in_err-keep-in-Some.ensures.1).1 tt

pub returns-in_err-keep-in-Some-clause-answer : goal.returns-in_err-keep-in-Some-clause-answer
returns-in_err-keep-in-Some-clause-answer c =
    rw (err_from_is_err_and c.from_residual-in_err-keep-in-Some.result
    c.from_residual-in_err-keep-in-Some.ensures.1).1 tt

pub returns-in_err-keep-in-Some-clause-narrow : goal.returns-in_err-keep-in-Some-clause-narrow
returns-in_err-keep-in-Some-clause-narrow c =
    rw (err_from_is_err_and c.from_residual-in_err-keep-in-Some.result
    c.from_residual-in_err-keep-in-Some.ensures.1).1 tt

pub returns-in_err-keep-in-Some-clause-solutions : goal.returns-in_err-keep-in-Some-clause-solutions
returns-in_err-keep-in-Some-clause-solutions c =
    rw (err_from_is_err_and c.from_residual-in_err-keep-in-Some.result
    c.from_residual-in_err-keep-in-Some.ensures.1).1 tt

pub returns-in_err-keep-in-Some-clause-triangular :
    goal.returns-in_err-keep-in-Some-clause-triangular
returns-in_err-keep-in-Some-clause-triangular c =
    rw (err_from_is_err_and c.from_residual-in_err-keep-in-Some.result
    c.from_residual-in_err-keep-in-Some.ensures.1).1 tt

pub returns-in_err-left-clause-unchanged : goal.returns-in_err-left-clause-unchanged
returns-in_err-left-clause-unchanged c = on_err _ _ c.self.view_is

pub returns-in_err-keep-in-Some-clause-unchanged : goal.returns-in_err-keep-in-Some-clause-unchanged
returns-in_err-keep-in-Some-clause-unchanged c =
    on_err _ _ (ap (basis_data c.self.inside.columns c.self.inside.inserted)
    c.in_err-keep-in-Some.ensures.same ∙ c.self.view_is)
