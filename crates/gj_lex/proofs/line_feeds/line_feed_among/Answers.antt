use Rattle.gj_lex.proofs.LineFeedBits.{none_among, first_among}
use Rattle.gj_lex.proofs.line_feeds.line_feed_among.Goals as goal

pub returns-then-bits-eq0 : goal.returns-then-bits-eq0
returns-then-bits-eq0 c =
    none_among c.args.text.now c.args.from c.line_feed_bits-bits.result
    c.line_feed_bits-bits.ensures c.if-bits-eq0.true

pub returns : goal.returns
returns c =
    first_among c.args.text.now c.args.from c.line_feed_bits-bits.result
    c.line_feed_bits-bits.ensures c.if-bits-eq0.false
    c.line_feed_bits-bits.type_inv
