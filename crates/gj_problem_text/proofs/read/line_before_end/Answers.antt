use Rattle.std.proofs.Common.{codes, sym, ◌∙◌}
use Rattle.gj_lex.specs.Words.{word_texts}
use Rattle.gj_lex.specs.declared.spelling.Spelling.TheVariants.{Lenient}
use Rattle.gj_forms.proofs.WhereLaws.{begun, other_word}
use Rattle.gj_problem_text.proofs.ShortEntries.{entry_no_end}
use Rattle.gj_problem_text.proofs.read.line_before_end.Goals as goal

pub returns-in-None-clause-other : goal.returns-in-None-clause-other
returns-in-None-clause-other c = λ is.
    let line = c.in_ok-line.line in
    let more = begun Lenient c.args.text.now line.start.now (word_texts line.bytes.now)
    (codes "end") line.rest.now c.in_ok-line.ensures.found is in
    c.in-None.ensures.none more.0 more.1

pub returns-then-is_some-clause-other : goal.returns-then-is_some-clause-other
returns-then-is_some-clause-other c = λ is.
    let line = c.in_ok-line.line in
    let words = word_texts line.bytes.now in
    other_word Lenient c.args.text.now line.start.now words (codes "end") line.rest.now
    c.in_ok-line.ensures.found
    (λ more e. entry_no_end c.behind_entry.result words more
    (sym c.is_some.ensures ∙ c.if-is_some.true) c.behind_entry.ensures e) is
