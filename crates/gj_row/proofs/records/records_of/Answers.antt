use Rattle.gj_row.proofs.Lines.{no_quote_found, starts}
use Rattle.gj_row.proofs.records.records_of.Goals as goal

pub returns-in-None : goal.returns-in-None
returns-in-None c = starts c.args.bytes.now c.without_mark.result.now c.without_mark.ensures
    (no_quote_found c.args.bytes.now c.in-None.ensures)
