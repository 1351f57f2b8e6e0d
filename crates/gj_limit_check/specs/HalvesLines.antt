-- The rules on halves among the checker's rules, and the numbers of their lines (own).
use Rattle.std.specs.Prelude.{ℕ, ◌+◌}
use Rattle.gj_shape.specs.FunctionData.{FunctionData}
use Rattle.gj_check.specs.declared.rules.CheckRule.{CheckRule}
use Rattle.gj_check.specs.declared.rules.CheckRule.TheVariants as rules
use Rattle.gj_limit_check_halves.specs.declared.failure.HalvesFailure.{HalvesFailure}
use Rattle.gj_limit_check_halves.specs.declared.failure.HalvesFailure.TheVariants.{Scale, Range, Average, First, Second, Same}

-- the checker's rule that fails
abbrev pub halves_rule : HalvesFailure → CheckRule
halves_rule Scale = rules.Scale
halves_rule (Range i) = rules.Range
halves_rule (Average i) = rules.Average
halves_rule First = rules.First
halves_rule Second = rules.Second
halves_rule Same = rules.Same

-- the number of its line: of that of the halves, or of the numbers at a point
abbrev pub halves_fault_line : FunctionData → HalvesFailure → ℕ
halves_fault_line f (Range i) = f.order + 5 + (i + 1)
halves_fault_line f (Average i) = f.order + 5 + (i + 1)
halves_fault_line f _ = f.order + 5
