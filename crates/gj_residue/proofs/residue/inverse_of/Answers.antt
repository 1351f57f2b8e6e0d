use Rattle.std.proofs.Common.{sym, lit<, arith}
use Rattle.gj_theory.specs.Modulus.{modulus}
use Rattle.gj_theory.proofs.Euclid.{euclid_start, euclid_step, euclid_inverse, euclid_none}
use Rattle.gj_residue.proofs.residue.inverse_of.Goals as goal

pub loop-next-init : goal.loop-next-init
loop-next-init c = euclid_start modulus c.args.x (lit< tt)

pub loop-next-preserved : goal.loop-next-preserved
loop-next-preserved c =
    euclid_step modulus c.args.x c.loop-next.remainder c.loop-next.next c.loop-next.factor
    c.loop-next.next_factor
    c.less_product-rest_factor.result c.loop-next.invariant
    (lit< tt) c.less_product-rest_factor.ensures.below
    c.less_product-rest_factor.ensures.value

pub returns-then-remainder-eq1 : goal.returns-then-remainder-eq1
returns-then-remainder-eq1 c =
    sym
    (euclid_inverse modulus c.args.x c.loop-next.next c.loop-next.factor c.loop-next.next_factor
    c.loop-next.remainder (lit< tt)
    c.loop-next.invariant (omega arith))

pub returns-else-remainder-eq1 : goal.returns-else-remainder-eq1
returns-else-remainder-eq1 c =
    sym
    (euclid_none modulus c.args.x c.loop-next.next c.loop-next.factor c.loop-next.next_factor
    c.loop-next.remainder (lit< tt)
    c.loop-next.invariant (omega arith) (omega arith))
