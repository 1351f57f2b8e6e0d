use Rattle.std.proofs.Common.{arith}
use Rattle.gj_lex.proofs.Decimals.{decimal_some}
use Rattle.gj_lex.proofs.WordBytes.{decimal_bytes, decimal_is_word}
use Rattle.gj_lex.proofs.laws.count_is_one_word.Goals as goal

pub returns : goal.returns
returns c = record {
  some = λ n small. decimal_some n (omega arith);
  bytes = λ n small. decimal_bytes n (omega arith);
  word = λ n small. decimal_is_word n (omega arith);
}
