use Rattle.std.proofs.Common.{arith}
use Rattle.gj_theory.proofs.DividedRows.{divided_small}
use Rattle.gj_elim.proofs.lazy.divide_small.Goals as goal

pub returns-else-divisor-gt1 : goal.returns-else-divisor-gt1
returns-else-divisor-gt1 c =
    divided_small c.args.row.now c.divisor_within-divisor.result
    c.divisor_within-divisor.ensures.value (omega arith)
