use Rattle.gj_row.proofs.SpelledNumbers.{no_entry}
use Rattle.gj_row.proofs.numbers.entry_number.Goals as goal

pub returns-clause-none : goal.returns-clause-none
returns-clause-none c =
    no_entry c.args.word.now c.fraction_of.result (c.if-is_empty.ensures) c.fraction_of.ensures.none
