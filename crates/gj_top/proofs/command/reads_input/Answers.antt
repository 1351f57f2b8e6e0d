use Rattle.std.proofs.Common.{refl, sym}
use Rattle.gj_top.proofs.Commands.{others_read}
use Rattle.gj_top.proofs.command.reads_input.Goals as goal

pub returns-in-Demo : goal.returns-in-Demo
returns-in-Demo c = rw c.in-Demo.is refl

pub returns-in_default : goal.returns-in_default
returns-in_default c =
    sym (others_read c.args.request.command c.args.request.json c.args.request.jumps
    c.in_default.not-Demo)
