use Rattle.std.proofs.Common.{rules, pos, ap, sym, subst, get_or, ◌-ℤ◌, ◌*ℤ◌, ◌∙◌, arith}
use Rattle.std.proofs.lemmas.Int.{to_z-of_z}
use Rattle.std.proofs.lemmas.List.Elements.{All-get_or}
use mir.Syntax.{w128}
use Rattle.gj_shape.specs.Elimination.{at_column}
use Rattle.gj_shape.specs.Residues.{residue}
use Rattle.gj_theory.specs.Modulus.{modulus}
use Rattle.gj_theory.proofs.ResidueSteps.{length-reduced_modulo}
use Rattle.gj_check_groups.specs.RowNumbers.{IsResidue}
use Rattle.gj_check_groups.proofs.ResidueRows.{done_more, done_all, reduced_entry, reduced_at}
use Rattle.gj_check_groups.proofs.modulo.reduce_modulo.Goals as goal

pub less_product-requires-clause-number : goal.less_product-requires-clause-number
less_product-requires-clause-number c =
    let x = to_z-of_z w128 (get_or c.loop-i.row c.loop-i.i (pos 0)) (search rules) in
    subst IsResidue (sym (x ∙ c.loop-i.invariant.later c.loop-i.i (omega arith)))
    (All-get_or IsResidue c.args.row.now c.loop-i.i (pos 0) (omega arith) c.requires.row)

pub loop-i-preserved : goal.loop-i-preserved
unfolding reduced_entry
loop-i-preserved c =
    let x = to_z-of_z w128 (get_or c.loop-i.row c.loop-i.i (pos 0)) (search rules) in
    let u = to_z-of_z w128 (get_or c.args.row.now c.args.column (pos 0)) (search rules) in
    let e = to_z-of_z w128 (get_or c.args.kept.now c.loop-i.i (pos 0)) (search rules) in
    done_more (reduced_entry c.args.kept.now c.args.row.now c.args.column) c.args.row.now
    c.loop-i.row c.loop-i.i
    _ c.loop-i.invariant (omega arith)
    (to_z-of_z w128 c.less_product.result (search rules) ∙ simp (x, u, e) at c.less_product.ensures
    ∙ ap (λ y. residue modulus
    (y -ℤ at_column c.args.row.now c.args.column *ℤ at_column c.args.kept.now c.loop-i.i))
    (c.loop-i.invariant.later c.loop-i.i (omega arith)))

pub returns : goal.returns
returns c =
    done_all (reduced_entry c.args.kept.now c.args.row.now c.args.column) c.args.row.now
    c.loop-i.row c.loop-i.i _
    c.loop-i.invariant (omega arith)
    (length-reduced_modulo modulus c.args.kept.now c.args.row.now c.args.column c.requires.columns
    ∙ sym c.loop-i.auto.row)
    (λ k. reduced_at c.args.kept.now c.args.row.now c.args.column k c.requires.columns)
