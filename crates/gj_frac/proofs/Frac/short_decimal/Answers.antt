use Rattle.std.proofs.Common.{arith}
use Rattle.gj_frac.proofs.OddParts.{twos_left}
use Rattle.gj_frac.proofs.TenPowers.{signed_decimal_is}
use Rattle.gj_frac.proofs.Frac.short_decimal.Goals as goal

pub without_fives-requires-clause-odd : goal.without_fives-requires-clause-odd
without_fives-requires-clause-odd c = twos_left c.args.size c.min-twos.result c.args.places
    (omega arith) (omega arith) c.min-twos.ensures

pub returns : goal.returns
returns c =
    signed_decimal_is c.args.is_negative _ _ c.args.size c.min-twos.result c.args.places
    (omega arith) (omega arith) c.min-twos.ensures c.without_fives.ensures
