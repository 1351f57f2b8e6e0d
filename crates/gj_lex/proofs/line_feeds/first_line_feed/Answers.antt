use Rattle.std.proofs.Common.{Some, length}
use Rattle.memchr.specs.Find.{Passes}
use Rattle.gj_lex.specs.Lines.{is_line_feed}
use Rattle.gj_lex.proofs.FirstPlaces.{position_of_first, first_wider}
use Rattle.gj_lex.proofs.line_feeds.first_line_feed.Goals as goal

pub returns-in-Some : goal.returns-in-Some
returns-in-Some c =
    let text = c.args.text.now in
    let feeds = Passes is_line_feed text in
    position_of_first is_line_feed text (Some c.in-Some.place)
    (first_wider feeds 0 128 (length text) c.in-Some.place c.if-text-ge128.true c.in-Some.ensures)
