use Rattle.std.proofs.Common.{pos, ap, sym, get_or, ◌-ℤ◌, ◌*ℤ◌, ◌∙◌, arith}
use Rattle.gj_shape.specs.Residues.{residue}
use Rattle.gj_theory.specs.Modulus.{modulus}
use Rattle.gj_residue.proofs.EachEntry.{done_more, done_all, all_low, reduced_entry, reduced_at, length-reduced}
use Rattle.gj_residue.proofs.step.reduce_by.Goals as goal

pub loop-i-preserved : goal.loop-i-preserved
unfolding reduced_entry
loop-i-preserved c =
    done_more (reduced_entry c.args.kept.now c.args.row.now c.args.column) c.args.row.now
    c.loop-i.row c.loop-i.i
    c.less_product.result c.loop-i.invariant (omega arith)
    (c.less_product.ensures.value
    ∙ ap
    (λ x. residue modulus
    (pos x -ℤ pos (get_or c.args.row.now c.args.column 0) *ℤ pos
    (get_or c.args.kept.now c.loop-i.i 0)))
    (c.loop-i.invariant.later c.loop-i.i (omega arith)))
    c.less_product.ensures.below

pub returns-clause-value : goal.returns-clause-value
returns-clause-value c =
    done_all (reduced_entry c.args.kept.now c.args.row.now c.args.column) c.args.row.now
    c.loop-i.row c.loop-i.i _
    c.loop-i.invariant (omega arith)
    (length-reduced c.args.kept.now c.args.row.now c.args.column c.requires.columns
    ∙ sym c.loop-i.auto.row)
    (λ k. reduced_at c.args.kept.now c.args.row.now c.args.column k c.requires.columns)

pub returns-clause-below : goal.returns-clause-below
returns-clause-below c =
    all_low (reduced_entry c.args.kept.now c.args.row.now c.args.column) c.args.row.now c.loop-i.row
    c.loop-i.i c.loop-i.invariant
    (omega arith)
