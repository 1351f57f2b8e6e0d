use Rattle.std.proofs.Common.{pos, ap, sym, ◌*ℤ◌, ◌∙◌, arith}
use Rattle.gj_shape.specs.Residues.{residue}
use Rattle.gj_theory.specs.Modulus.{modulus}
use Rattle.gj_residue.proofs.EachEntry.{done_more, done_all, multiplied_entry, multiplied_at, length-multiplied}
use Rattle.gj_residue.proofs.step.multiply.Goals as goal

pub loop-x-preserved : goal.loop-x-preserved
unfolding multiplied_entry
loop-x-preserved c =
    done_more (multiplied_entry c.args.factor c.args.row.now) c.args.row.now c.loop-x.row
    c.loop-x.x-index c.product.result
    c.loop-x.invariant (omega arith)
    (c.product.ensures.value
    ∙ ap (λ x. residue modulus (pos c.args.factor *ℤ pos x))
    (c.loop-x.invariant.later c.loop-x.x-index (omega arith)))
    c.product.ensures.below

pub returns : goal.returns
returns c = record {
  value = done_all (multiplied_entry c.args.factor c.args.row.now) c.args.row.now c.loop-x.row
      c.loop-x.x-index _
      c.loop-x.invariant (omega arith) (length-multiplied c.args.factor c.args.row.now
      ∙ sym c.loop-x.auto.row)
      (multiplied_at c.args.factor c.args.row.now);
}
