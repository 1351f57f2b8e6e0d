use Rattle.std.proofs.Common.{ℕ, ◌≡◌, Option, Some, pos, map, refl, ap, sym, subst, length, ◌∙◌, lit<}
use Rattle.std.specs.Prelude.{IfSome}
use Rattle.gj_shape.specs.Elimination.{at_column, scaled, inserted_by}
use Rattle.gj_shape.specs.Residues.{residues, inverse, times_inverse, modulo}
use Rattle.gj_theory.specs.Modulus.{modulus}
use Rattle.gj_theory.specs.TriangularResidues.{AreTriangularResidues}
use Rattle.gj_elim.specs.Progress.{IsLeft, kept_at}
use Rattle.gj_elim.specs.declared.log.Inserted.TheVariants.{Pivot, Nothing}
use Rattle.gj_elim.proofs.Keeping.{IsInserted, nothing_inserted, row_inserted}
use Rattle.gj_elim.proofs.KeptTables.{held}
use Rattle.gj_residue.specs.Basis.{data_of}
use Rattle.gj_residue.specs.Rows.{numbers_of, kept_residues, AreKeptResidues, column_of}
use Rattle.gj_residue.specs.declared.reduce.Left.{Left}
use Rattle.gj_residue.proofs.Inserting.{lines_too, triangular_from_modulo, solved_from_modulo}
use Rattle.gj_residue.proofs.basis.ResidueBasis.insert.Goals as goal

-- ---- nothing is kept

nothing_told : (c : goal.After-self-in-None-1) → IsInserted (modulo modulus)
    (data_of c.self.inside) c.args.self.now c.args.row.now (kept_residues c.self.inside.kept)
    Nothing
nothing_told c =
    let D = data_of c.self.inside in
    let columns : length c.args.row.now ≡ D.columns = c.requires.columns
    ∙ sym (ap (λ d. d.columns) c.self.view_is) in
    nothing_inserted (modulo modulus) D c.args.self.now c.args.row.now
    (numbers_of c.reduce_row.new.row) c.reduce_row.new.reduce.items (column_of c.in_ok-left.left)
    c.self.view_is
    (subst (λ (n : ℕ). IsLeft (modulo modulus)
    (inserted_by (modulo modulus) n D.kept c.args.row.now) (column_of c.in_ok-left.left)
    (numbers_of c.reduce_row.new.row) c.reduce_row.new.reduce.items) columns
    c.in_ok-left.ensures.left)
    (ap (λ (o : Option Left). kept_at (modulo modulus) (column_of o)
    (numbers_of c.reduce_row.new.row)) c.in-None.is)

pub returns-in-None-clause-kept : goal.returns-in-None-clause-kept
returns-in-None-clause-kept c = (nothing_told c).kept

pub returns-in-None-clause-solved : goal.returns-in-None-clause-solved
returns-in-None-clause-solved c w all solved =
    let D = data_of c.self.inside in
    solved_from_modulo D c.args.self.now c.args.row.now w _ (lit< tt) c.self.view_is
    c.self.invariant.kept.triangular
    (c.requires.columns ∙ sym (ap (λ d. d.columns) c.self.view_is)) (nothing_told c).rows all
    solved

-- ---- what is left is kept

row_told : (c : goal.After-self-in-Some-1) → IsInserted (modulo modulus)
    (data_of c.self.inside) c.args.self.now c.args.row.now (kept_residues c.keep.new.kept)
    (Pivot c.in-Some.left.column)
row_told c =
    let D = data_of c.self.inside in
    let columns : length c.args.row.now ≡ D.columns = c.requires.columns
    ∙ sym (ap (λ d. d.columns) c.self.view_is) in
    let row = held _ c.self.inside.row _ _ c.self.inside.row.ok.0 c.self.invariant.columns
    c.as_mut_slice.ensures.value c.reduce_row.auto.row in
    let left = c.in-Some.left in
    let factor : Some left.factor
    ≡ inverse modulus (at_column (numbers_of c.reduce_row.new.row) left.column) =
    subst (λ (o : Option Left). IfSome o (λ l. Some l.factor
    ≡ inverse modulus (at_column (numbers_of c.reduce_row.new.row) l.column))) c.in-Some.is
    c.in_ok-left.ensures.factor in
    row_inserted (modulo modulus) D c.args.self.now c.args.row.now
    (numbers_of c.reduce_row.new.row) c.reduce_row.new.reduce.items (column_of c.in_ok-left.left)
    c.self.inside.kept.log.items c.keep.new.kept.log.items
    (map numbers_of c.self.inside.kept.rows.items) (map numbers_of c.keep.new.kept.rows.items)
    record { number = c.self.inside.inserted; reduce = c.as_slice.result.now; pivot = left.column }
    (residues modulus (scaled (pos left.factor) (numbers_of c.as_slice-in-Some.result.now)))
    c.self.view_is
    (subst (λ (n : ℕ). IsLeft (modulo modulus)
    (inserted_by (modulo modulus) n D.kept c.args.row.now) (column_of c.in_ok-left.left)
    (numbers_of c.reduce_row.new.row) c.reduce_row.new.reduce.items) columns
    c.in_ok-left.ensures.left)
    (ap column_of c.in-Some.is) refl
    (lines_too c.self.inside.kept.log.items c.self.inside.kept.rows.items
    c.self.invariant.kept.lines)
    c.in_ok-keep-in-Some.ensures.line c.in_ok-keep-in-Some.ensures.entries refl
    c.as_slice.ensures.value
    (ap (times_inverse modulus (numbers_of c.reduce_row.new.row)) (sym factor)
    ∙ ap (λ xs. Some (residues modulus (scaled (pos left.factor) (numbers_of xs))))
    (sym (c.as_slice-in-Some.ensures.value ∙ row.is)))

triangular : (c : goal.After-self-in-Some-1) →
    AreTriangularResidues c.self.inside.columns (kept_residues c.keep.new.kept)
triangular c =
    triangular_from_modulo (data_of c.self.inside) c.args.row.now _ (lit< tt)
    c.self.invariant.kept.triangular
    (c.requires.columns ∙ sym (ap (λ d. d.columns) c.self.view_is)) (row_told c).rows

pub invariant_of-self-in-Some : goal.invariant_of-self-in-Some
invariant_of-self-in-Some c =
    let row = held _ c.self.inside.row _ _ c.self.inside.row.ok.0 c.self.invariant.columns
    c.as_mut_slice.ensures.value c.reduce_row.auto.row in
    let columns = ap length c.as_slice-in-Some.ensures.value ∙ row.columns in record {
      kept = subst (λ (n : ℕ). AreKeptResidues n c.keep.new.kept) columns
          (c.in_ok-keep-in-Some.ensures.kept
          (subst (λ (n : ℕ). AreTriangularResidues n (kept_residues c.keep.new.kept))
          (sym columns) (triangular c)));
      columns = row.columns;
    }

pub returns-in_ok-keep-in-Some-clause-kept : goal.returns-in_ok-keep-in-Some-clause-kept
returns-in_ok-keep-in-Some-clause-kept c = (row_told c).kept

pub returns-in_ok-keep-in-Some-clause-solved : goal.returns-in_ok-keep-in-Some-clause-solved
returns-in_ok-keep-in-Some-clause-solved c w all solved =
    solved_from_modulo (data_of c.self.inside) c.args.self.now c.args.row.now w _ (lit< tt)
    c.self.view_is c.self.invariant.kept.triangular
    (c.requires.columns ∙ sym (ap (λ d. d.columns) c.self.view_is)) (row_told c).rows all solved

pub returns-in_ok-keep-in-Some-clause-triangular :
    goal.returns-in_ok-keep-in-Some-clause-triangular
returns-in_ok-keep-in-Some-clause-triangular c = triangular c
