-- The words of the checker's rules (own).
use Rattle.std.specs.Prelude.{ℕ, List, codes}
use Rattle.gj_check.specs.declared.rules.CheckRule.{CheckRule}
use Rattle.gj_check.specs.declared.rules.CheckRule.TheVariants.{Minimal, Continuous, Point, Cover, Row, Reduce, Size, Pivot, Rank, Scale, Range, Average, First, Second, Same, Fraction, Limit, Name, Value}

-- the word of a rule
abbrev pub rule_word : CheckRule → List ℕ
rule_word Minimal = codes "minimal"
rule_word Continuous = codes "continuous"
rule_word Point = codes "point"
rule_word Cover = codes "cover"
rule_word Row = codes "row"
rule_word Reduce = codes "reduce"
rule_word Size = codes "size"
rule_word Pivot = codes "pivot"
rule_word Rank = codes "rank"
rule_word Scale = codes "scale"
rule_word Range = codes "range"
rule_word Average = codes "average"
rule_word First = codes "first"
rule_word Second = codes "second"
rule_word Same = codes "same"
rule_word Fraction = codes "fraction"
rule_word Limit = codes "limit"
rule_word Name = codes "name"
rule_word Value = codes "value"
