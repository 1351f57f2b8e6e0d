use Rattle.std.proofs.Common.{arith}
use Rattle.gj_theory.proofs.DividedRows.{divided_small}
use Rattle.gj_sparse_elim.proofs.tighten.divide.Goals as goal

pub returns-else-divisor-gt1 : goal.returns-else-divisor-gt1
returns-else-divisor-gt1 c =
    divided_small c.args.row.now c.divisor_from-divisor.result c.divisor_from-divisor.ensures.value
    (omega arith)
