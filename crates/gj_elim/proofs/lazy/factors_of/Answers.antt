use Rattle.std.proofs.Common.{rules}
use Rattle.gj_elim.proofs.LazyRows.{exact_factors}
use Rattle.gj_elim.proofs.lazy.factors_of.Goals as goal

pub returns-then-entry-pivot-eq0 : goal.returns-then-entry-pivot-eq0
returns-then-entry-pivot-eq0 c =
    exact_factors c.args.pivot c.args.entry (search rules)
    (search rules) c.requires.positive c.if-entry-pivot-eq0.true
