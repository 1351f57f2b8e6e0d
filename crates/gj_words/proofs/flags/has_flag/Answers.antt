use Rattle.std.proofs.Common.{◌∙◌, map, sym}
use Rattle.std.specs.String.{string_bytes}
use Rattle.gj_words.proofs.FlagFacts.{stands, stands_not}
use Rattle.gj_words.proofs.flags.has_flag.Goals as goal

pub returns-in-0-clause-given : goal.returns-in-0-clause-given
returns-in-0-clause-given c =
    sym (stands_not c.args.flag.now (map string_bytes c.args.words.now)
    (sym c.in-0.is ∙ c.count_of.ensures))

pub returns-in-1-clause-given : goal.returns-in-1-clause-given
returns-in-1-clause-given c =
    sym (stands c.args.flag.now (map string_bytes c.args.words.now)
    (sym c.in-1.is ∙ c.count_of.ensures))
