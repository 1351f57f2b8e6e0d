use Rattle.std.proofs.Common.{pos, ◌*ℤ◌, lit<}
use Rattle.gj_theory.specs.Modulus.{modulus}
use Rattle.gj_residue.proofs.Residues.{residue_taken}
use Rattle.gj_residue.proofs.residue.less_product.Goals as goal

pub returns-clause-value : goal.returns-clause-value
returns-clause-value c =
    residue_taken modulus c.args.x c.product.result (pos c.args.u *ℤ pos c.args.e)
    (lit< tt) c.product.ensures.below
    c.product.ensures.value
