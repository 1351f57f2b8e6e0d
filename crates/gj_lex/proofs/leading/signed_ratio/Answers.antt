use Rattle.std.proofs.Common.{pos}
use Rattle.gj_frac.proofs.SameValues.{negation_is}
use Rattle.gj_lex.proofs.leading.signed_ratio.Goals as goal

pub returns-then-is_negative : goal.returns-then-is_negative
returns-then-is_negative c =
    rw c.if-is_negative.true
    (negation_is c.of_small-size.result c.neg.result (pos c.args.top) (pos c.args.bottom)
    c.neg.ensures c.of_small-size.ensures)
