use Rattle.gj_problem_text.proofs.ShortEntries.{word_and_space}
use Rattle.gj_problem_text.proofs.entries.behind_entry.Goals as goal

pub returns : goal.returns
returns c = word_and_space c.args.line.now c.in_ok-rest.rest.now c.in_ok-rest.ensures.found
