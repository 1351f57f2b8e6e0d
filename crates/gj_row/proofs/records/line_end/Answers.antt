use Rattle.gj_row.specs.Reading.{is_line_end}
use Rattle.gj_lex.proofs.FirstPlaces.{position_of_first}
use Rattle.gj_row.proofs.records.line_end.Goals as goal

pub returns : goal.returns
returns c = position_of_first is_line_end c.args.text.now c.memchr2.result c.memchr2.ensures
