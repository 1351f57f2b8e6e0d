use Rattle.std.proofs.Common.{subst}
use Rattle.memchr.specs.Find.{TakesFirst}
use Rattle.gj_lex.specs.Lines.{is_line_feed}
use Rattle.gj_lex.proofs.FirstPlaces.{position_of_next}
use Rattle.gj_lex.proofs.line_feeds.far_line_feed.Goals as goal

pub returns : goal.returns
returns c =
    position_of_next is_line_feed c.args.text.now c.next.new.self c.next.result
    (subst (λ all. TakesFirst all c.next.result c.next.new.self) c.memchr_iter.ensures.value
    c.next.ensures.steps)
