use Rattle.std.proofs.Common.{arith}
use Rattle.gj_lex.proofs.Decimals.{decimal_some, decimal_at_most}
use Rattle.gj_lex.proofs.digits.write_digits.Goals as goal

pub write_digits-requires : goal.write_digits-requires
write_digits-requires c = (omega (arith, decimal_at_most c.args.n (omega arith)), omega arith)

pub returns-then-n-clause-begins : goal.returns-then-n-clause-begins
returns-then-n-clause-begins c = omega (arith, decimal_some c.args.n (omega arith))

pub returns-then-n-clause-room : goal.returns-then-n-clause-room
returns-then-n-clause-room c = omega (arith, decimal_at_most c.args.n (omega arith))
