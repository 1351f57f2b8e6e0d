use Rattle.gj_lex.specs.Lines.{is_line_feed}
use Rattle.gj_lex.proofs.LineEnds.{line_at}
use Rattle.gj_lex.proofs.Places.{first_from}
use Rattle.gj_lex.proofs.cursor.line_end.Goals as goal

pub returns-in-Some : goal.returns-in-Some
returns-in-Some c =
    let place = first_from is_line_feed c.args.bytes.now c.args.start _ c.requires
    c.first_line_feed.ensures in
    line_at _ _ _ c.requires (place.0 c.in-Some.len c.in-Some.is).0

pub returns-in-None : goal.returns-in-None
returns-in-None c =
    let place = first_from is_line_feed c.args.bytes.now c.args.start _ c.requires
    c.first_line_feed.ensures in
    line_at _ _ _ c.requires (place.1 c.in-None.is)
