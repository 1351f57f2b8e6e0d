-- The rules on groups among the checker's rules (own).
use Rattle.gj_check_groups.specs.declared.failure.GroupRule.{GroupRule}
use Rattle.gj_check_groups.specs.declared.failure.GroupRule.TheVariants as groups
use Rattle.gj_check.specs.declared.rules.CheckRule.{CheckRule}
use Rattle.gj_check.specs.declared.rules.CheckRule.TheVariants.{Row, Reduce, Size, Pivot}

-- the checker's rule that is a rule on groups
abbrev pub rule_on_groups : GroupRule → CheckRule
rule_on_groups groups.Row = Row
rule_on_groups groups.Reduce = Reduce
rule_on_groups groups.Size = Size
rule_on_groups groups.Pivot = Pivot
