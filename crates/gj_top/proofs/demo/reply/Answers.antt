use Rattle.std.proofs.Common.{refl}
use Rattle.gj_top.proofs.demo.reply.Goals as goal

pub returns : goal.returns
returns c = λ input. record { thing = c.args.n; spelled = refl; replied = c.in_ok-summary.ensures }
