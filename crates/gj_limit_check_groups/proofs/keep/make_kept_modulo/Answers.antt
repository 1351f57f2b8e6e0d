use Rattle.std.proofs.Common.{rules, ◌≡◌, ℕ, ◌<◌, ℤ, pos, ◌-ℤ◌, ◌*ℤ◌, List, None, Some, map, sym, ap, subst, ◌∙◌, arith, lit<}
use Rattle.std.specs.Prelude.{All, IfSome}
use Rattle.std.proofs.lemmas.Int.{ints, to_z-of_z}
use mir.Syntax.{w128}
use Rattle.gj_lemmas.proofs.Integers.{mul_comm_z}
use Rattle.gj_shape.specs.Elimination.{scaled}
use Rattle.gj_shape.specs.Residues.{residue, inverse, residues, times_inverse, IsZeroModulo, IsInvertible}
use Rattle.gj_theory.specs.Modulus.{modulus}
use Rattle.gj_theory.proofs.Inverses.{inverse_found, inverse_none}
use Rattle.gj_theory.proofs.Modulo.{residue_of_zero, zero_is}
use Rattle.gj_check_groups.specs.RowNumbers.{IsResidue}
use Rattle.gj_check_groups.proofs.ResidueRows.{inverse_is_residue, multiplied}
use Rattle.gj_sparse_elim.specs.declared.entry.Entry.{Entry}
use Rattle.gj_sparse_elim.specs.Sparse.{factor_at, dense, AreSparse}
use Rattle.gj_sparse_elim.proofs.SparseRows.{at_dense}
use Rattle.gj_limit_check_groups.specs.declared.change.Change.TheVariants.{Multiply}
use Rattle.gj_limit_check_groups.specs.Changes.{CanChange, changed_entry}
use Rattle.gj_limit_check_groups.proofs.ChangedRows.{changed_row, entry_has}
use Rattle.gj_limit_check_groups.proofs.keep.make_kept_modulo.Goals as goal

zero_is_residue : IsResidue (pos 0)
zero_is_residue = record { low = omega (arith, ints); below = omega (arith, ints) }

is_residue : (x : ℤ) (row : List Entry) (c : ℕ) → x ≡ factor_at row c →
    All (λ e. IsResidue e.factor) row → IsResidue x
is_residue x row c is all = subst IsResidue (sym is) (entry_has IsResidue row c zero_is_residue all)

pub inverse_modulo-requires : goal.inverse_modulo-requires
inverse_modulo-requires c =
    is_residue _ c.args.row.now c.args.column
    (to_z-of_z w128 c.factor_of.result (search rules) ∙ c.factor_of.ensures) c.requires.residues

-- the inverse is invertible
invertible : (x : ℤ) (w : ℕ) → inverse modulus x ≡ Some w → IsInvertible modulus (pos w)
invertible x w is =
    let found = (subst (λ o. IfSome o
    (λ w. (w < modulus) × IsZeroModulo modulus (pos w *ℤ x -ℤ pos 1))) is
    (inverse_found modulus x (lit< tt))).1 in (
      x,
      zero_is modulus (x *ℤ pos w -ℤ pos 1) (pos w *ℤ x -ℤ pos 1)
          (ap (λ z. z -ℤ pos 1) (mul_comm_z x (pos w))) found,
    )

-- a row that is multiplied by it
record IsMultiplied (n : ℕ) (row after : List Entry) (w : ℕ) : Type 0 where
  pub sparse : AreSparse n after
  pub value : dense n after ≡ residues modulus (scaled (pos w) (dense n row))

can_multiply : (x : ℤ) (row : List Entry) (w : ℕ) → inverse modulus x ≡ Some w →
    All (λ e. IsResidue e.factor) row →
    All (λ e. CanChange (Multiply (pos w)) e.factor) row
can_multiply x row w is all k d below =
    (inverse_is_residue x w is, all k d below, invertible x w is)

is_multiplied : (n : ℕ) (x : ℤ) (row after : List Entry) (w : ℕ) (u : ℤ) → AreSparse n row →
    All (λ e. IsResidue e.factor) row → inverse modulus x ≡ Some w → u ≡ pos w →
    after ≡ map (changed_entry (Multiply u)) row → IsMultiplied n row after w
is_multiplied n x row after w u sparse all is u_is after_is =
    let by : after ≡ map (changed_entry (Multiply (pos w))) row =
    after_is ∙ ap (λ z. map (changed_entry (Multiply z)) row) u_is in
    let product : pos w *ℤ pos 0 ≡ pos 0 = omega (arith, ints) in
    let none : residue modulus (pos w *ℤ pos 0) ≡ pos 0 = ap (residue modulus) product
    ∙ residue_of_zero modulus in
    let (made, whole) = changed_row (Multiply (pos w)) n row none sparse
    (can_multiply x row w is all) in record {
      sparse = subst (AreSparse n) (sym by) made;
      value = ap (dense n) by ∙ whole ∙ sym (multiplied (pos w) (dense n row));
    }

pub change_all-requires : goal.change_all-requires
change_all-requires c =
    let x = to_z-of_z w128 c.factor_of.result (search rules) in
    let u = to_z-of_z w128 c.from.result (search rules) ∙ c.from.ensures in
    let is = sym (simp x at c.inverse_modulo.ensures) ∙ c.in-Some.is in
    subst (λ (z : ℤ). All (λ e. CanChange (Multiply z) e.factor) c.args.row.now) (sym u)
    (can_multiply c.factor_of.result c.args.row.now c.in-Some.factor is c.requires.residues)

pub returns-in-Some-clause-sparse : goal.returns-in-Some-clause-sparse
returns-in-Some-clause-sparse c n sparse =
    let x = to_z-of_z w128 c.factor_of.result (search rules) in
    let u = to_z-of_z w128 c.from.result (search rules) ∙ c.from.ensures in
    let is = sym (simp x at c.inverse_modulo.ensures) ∙ c.in-Some.is in
    (is_multiplied n c.factor_of.result c.args.row.now c.change_all.new.row c.in-Some.factor _
    sparse c.requires.residues is u
    c.change_all.ensures).sparse

pub returns-in-Some-clause-value : goal.returns-in-Some-clause-value
returns-in-Some-clause-value c n sparse below =
    let row = c.args.row.now in
    let x = to_z-of_z w128 c.factor_of.result (search rules) in
    let u = to_z-of_z w128 c.from.result (search rules) ∙ c.from.ensures in
    let is = sym (simp x at c.inverse_modulo.ensures) ∙ c.in-Some.is in
    let entry = c.factor_of.ensures ∙ sym (at_dense n row c.args.column below) in
    ap Some
    (is_multiplied n c.factor_of.result row c.change_all.new.row c.in-Some.factor _ sparse
    c.requires.residues is u
    c.change_all.ensures).value
    ∙ sym (ap (times_inverse modulus (dense n row)) (ap (inverse modulus) (sym entry) ∙ is))

pub returns-in_default-clause-value : goal.returns-in_default-clause-value
returns-in_default-clause-value c n sparse below =
    let x = to_z-of_z w128 c.factor_of.result (search rules) in
    let is : inverse modulus c.factor_of.result ≡ None = sym (simp x at c.inverse_modulo.ensures)
    ∙ c.in_default.is in
    absurd ((inverse_none modulus (factor_at c.args.row.now c.args.column) (lit< tt)).0
    (ap (inverse modulus) (sym c.factor_of.ensures) ∙ is) c.requires.invertible)
