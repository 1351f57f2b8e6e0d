use Rattle.gj_limit_check.proofs.RulesGiveMeaning.{meaning_of_rules}
use Rattle.gj_limit_check.proofs.laws.limit_rules_give_meaning.Goals as goal

pub returns : goal.returns
returns c = meaning_of_rules
