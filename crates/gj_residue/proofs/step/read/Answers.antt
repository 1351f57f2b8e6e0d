use Rattle.std.proofs.Common.{rules, pos, sym, get_or, ◌∙◌, arith}
use Rattle.std.proofs.lemmas.Int.{to_z-of_z}
use Rattle.std.proofs.lemmas.List.{length-map}
use mir.Syntax.{w128}
use Rattle.gj_shape.specs.Residues.{residue}
use Rattle.gj_theory.specs.Modulus.{modulus}
use Rattle.gj_residue.proofs.EachEntry.{done_more, done_all, all_low, read_entry, read_at}
use Rattle.gj_residue.proofs.step.read.Goals as goal

pub loop-i-preserved : goal.loop-i-preserved
unfolding read_entry
loop-i-preserved c =
    let x = to_z-of_z w128 (get_or c.args.row.now c.loop-i.i (pos 0)) (search rules) in
    done_more (read_entry c.args.row.now) c.args.out.now c.loop-i.out c.loop-i.i c.residue_of.result
    c.loop-i.invariant
    (omega arith) (simp x at c.residue_of.ensures.value) c.residue_of.ensures.below

pub returns-clause-value : goal.returns-clause-value
returns-clause-value c =
    done_all (read_entry c.args.row.now) c.args.out.now c.loop-i.out c.loop-i.i _ c.loop-i.invariant
    (omega arith)
    (length-map c.args.row.now (residue modulus) ∙ c.requires ∙ sym c.loop-i.auto.out)
    (read_at c.args.row.now)

pub returns-clause-below : goal.returns-clause-below
returns-clause-below c =
    all_low (read_entry c.args.row.now) c.args.out.now c.loop-i.out c.loop-i.i c.loop-i.invariant
    (omega arith)
