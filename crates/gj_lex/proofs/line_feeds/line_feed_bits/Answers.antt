use Rattle.std.proofs.lemmas.Simd.{length-chunk}
use Rattle.std.proofs.Common.{take, drop}
use Rattle.gj_lex.proofs.LineFeedBits.{compared_bits}
use Rattle.gj_lex.proofs.line_feeds.line_feed_bits.Goals as goal

pub returns : goal.returns
returns c k =
    compared_bits (take 32 (drop c.args.from c.args.text.now)) k
    (length-chunk c.args.from 32 c.args.text.now c.requires)
