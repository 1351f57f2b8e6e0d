use Rattle.std.proofs.Common.{rules, pos, get_or, arith}
use Rattle.gj_elim.proofs.SmallDivisors.{division_start, division_more, division_end, read_quotient_small}
use Rattle.gj_elim.proofs.lazy.divide_within.Goals as goal

pub loop-i-init : goal.loop-i-init
loop-i-init c = division_start c.args.row.now c.args.from c.args.to c.requires.zero

pub loop-i-preserved : goal.loop-i-preserved
loop-i-preserved c =
    division_more c.args.row.now c.loop-i.row c.loop-i.i c.args.divisor _ c.loop-i.invariant
    (omega arith) c.loop-i.auto.row
    c.requires.divisor c.requires.some
    (read_quotient_small (get_or c.loop-i.row c.loop-i.i (pos 0)) c.args.divisor
    (search rules) c.requires.some c.requires.small)

pub returns : goal.returns
returns c =
    division_end c.args.row.now c.loop-i.row c.args.from c.args.to c.loop-i.i c.loop-i.invariant
    c.requires.zero (omega arith) c.loop-i.auto.row
