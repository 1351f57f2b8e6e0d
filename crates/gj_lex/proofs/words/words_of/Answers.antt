use Rattle.gj_lex.proofs.WordRuns.{no_more_words}
use Rattle.gj_lex.proofs.WordTexts.{texts_of_words}
use Rattle.gj_lex.proofs.words.words_of.Goals as goal

pub returns-clause-spans : goal.returns-clause-spans
returns-clause-spans c =
    no_more_words c.args.line.now c.loop-start.place c.loop-start.words.items
    c.in_default.ensures.none c.loop-start.invariant.so_far

pub returns-clause-texts : goal.returns-clause-texts
returns-clause-texts c = texts_of_words c.args.line.now c.loop-start.words.items
    (returns-clause-spans c)
