use Rattle.gj_lex.specs.SpelledNumbers.{IsFractionWord}
use Rattle.gj_lex.specs.declared.spelling.Spelling.TheVariants.{Lenient}
use Rattle.gj_row.proofs.SpelledNumbers.{stops_number}
use Rattle.gj_row.proofs.numbers.right_side.Goals as goal

pub returns-clause-refused : goal.returns-clause-refused
returns-clause-refused c =
    stops_number (IsFractionWord Lenient c.args.word.now) 1 c.fraction_of.result c.within.result
    c.fraction_of.ensures.found
    c.fraction_of.ensures.none c.within.ensures.refused
