use Rattle.std.proofs.Common.{◌^◌, ◌∙◌, arith}
use Rattle.std.proofs.Math.Nat.{one-mul}
use Rattle.gj_frac.proofs.TenPowers.{ten_at}
use Rattle.gj_frac.proofs.decimals.power_of_ten.Goals as goal

pub returns : goal.returns
returns c = ten_at 1 39 c.args.exponent _ (omega arith) ∙ one-mul (10 ^ c.args.exponent)
