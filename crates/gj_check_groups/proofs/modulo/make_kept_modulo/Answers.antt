use Rattle.std.proofs.Common.{rules, ◌≡◌, pos, None, Some, get_or, sym, ap, subst, ◌∙◌, lit<}
use Rattle.std.proofs.lemmas.Int.{to_z-of_z}
use mir.Syntax.{w128}
use Rattle.gj_shape.specs.Elimination.{at_column, scaled}
use Rattle.gj_shape.specs.Residues.{inverse, residues, times_inverse}
use Rattle.gj_theory.specs.Modulus.{modulus}
use Rattle.gj_theory.proofs.Inverses.{inverse_none}
use Rattle.gj_check_groups.specs.RowNumbers.{IsResidue}
use Rattle.gj_check_groups.proofs.ResidueRows.{inverse_is_residue}
use Rattle.gj_check_groups.proofs.modulo.make_kept_modulo.Goals as goal

pub multiply-requires-clause-factor : goal.multiply-requires-clause-factor
multiply-requires-clause-factor c =
    let x = to_z-of_z w128 (get_or c.args.row.now c.args.column (pos 0)) (search rules) in
    let is : inverse modulus (at_column c.args.row.now c.args.column) ≡ Some c.in-Some.factor =
    sym (simp x at c.inverse_modulo.ensures) ∙ c.in-Some.is in
    subst IsResidue (sym (to_z-of_z w128 c.from.result (search rules) ∙ c.from.ensures))
    (inverse_is_residue (at_column c.args.row.now c.args.column) c.in-Some.factor is)

pub returns-in-Some : goal.returns-in-Some
returns-in-Some c =
    let row = c.args.row.now in
    let x = to_z-of_z w128 (get_or row c.args.column (pos 0)) (search rules) in
    let u = to_z-of_z w128 c.from.result (search rules) ∙ c.from.ensures in
    let is : inverse modulus (at_column row c.args.column) ≡ Some c.in-Some.factor =
    sym (simp x at c.inverse_modulo.ensures) ∙ c.in-Some.is in
    ap Some (c.multiply.ensures ∙ ap (λ k. residues modulus (scaled k row)) u)
    ∙ sym (ap (times_inverse modulus row) is)

pub returns-in_default : goal.returns-in_default
returns-in_default c =
    let x = to_z-of_z w128 (get_or c.args.row.now c.args.column (pos 0)) (search rules) in
    let is : inverse modulus (at_column c.args.row.now c.args.column) ≡ None =
    sym (simp x at c.inverse_modulo.ensures) ∙ c.in_default.is in
    absurd ((inverse_none modulus (at_column c.args.row.now c.args.column) (lit< tt)).0 is
    c.requires.invertible)
