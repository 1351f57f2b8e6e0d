use Rattle.gj_lex.proofs.SpelledWords.{no_fraction}
use Rattle.gj_lex.proofs.spelled.fraction_of.Goals as goal

pub returns-in-Lenient-clause-none : goal.returns-in-Lenient-clause-none
returns-in-Lenient-clause-none c =
    no_fraction c.args.spelling c.args.word.now _ c.in-Lenient.is c.read_number.ensures.only
