use Rattle.std.proofs.Common.{rules, pos, get_or, ◌∙◌, arith}
use Rattle.std.proofs.lemmas.Int.{to_z-of_z}
use mir.Syntax.{w128}
use Rattle.gj_shape.specs.Residues.{residue}
use Rattle.gj_theory.specs.Modulus.{modulus}
use Rattle.gj_theory.proofs.DividedRows.{over_more, over_all}
use Rattle.gj_check_groups.proofs.modulo.take_residues.Goals as goal

pub loop-x-preserved : goal.loop-x-preserved
loop-x-preserved c =
    let x = to_z-of_z w128 (get_or c.loop-x.row c.loop-x.x-index (pos 0)) (search rules) in
    over_more (residue modulus) c.args.row.now c.loop-x.row c.loop-x.x-index _
    (omega arith) c.loop-x.auto.row c.loop-x.invariant
    (to_z-of_z w128 c.residue_of.result (search rules) ∙ simp x at c.residue_of.ensures)

pub returns : goal.returns
returns c =
    over_all (residue modulus) c.args.row.now c.loop-x.row c.loop-x.x-index
    (omega arith) c.loop-x.auto.row c.loop-x.invariant
