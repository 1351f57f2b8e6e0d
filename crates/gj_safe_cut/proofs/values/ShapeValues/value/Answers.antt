use Rattle.std.proofs.Common.{rules, IsTrue, false}
use Rattle.gj_rule.specs.declared.kind.RuleKind.TheVariants.{Table}
use Rattle.gj_rule.proofs.ClosedForm.{rest_parts}
use Rattle.gj_safe_cut.proofs.ValueParts.{value_of_part, part_in_range, fine_from_part}
use Rattle.gj_safe_cut.proofs.values.ShapeValues.value.Goals as goal

false_is_not_true : IsTrue false → ⊥
false_is_not_true h = search rules

pub returns-then-is_in_range-clause-value : goal.returns-then-is_in_range-clause-value
returns-then-is_in_range-clause-value c =
    let rest = c.fract-rest.result in
    value_of_part (Table c.args.self.now) c.args.x rest c.table_value.result
    (rest_parts c.args.x rest c.fract-rest.ensures.value)
    c.fract-rest.ensures.not_negative c.fract-rest.ensures.below_one c.table_value.ensures

pub returns-else-is_in_range-clause-wide : goal.returns-else-is_in_range-clause-wide
returns-else-is_in_range-clause-wide c = λ fine.
    let rest = c.fract-rest.result in
    false_is_not_true (c.if-is_in_range.ensures.1
    (part_in_range c.args.x rest (rest_parts c.args.x rest c.fract-rest.ensures.value)
    c.fract-rest.ensures.not_negative c.fract-rest.ensures.below_one fine))

pub returns-then-is_in_range-clause-narrow : goal.returns-then-is_in_range-clause-narrow
returns-then-is_in_range-clause-narrow c coarse =
    let rest = c.fract-rest.result in
    coarse (fine_from_part c.args.x rest (rest_parts c.args.x rest c.fract-rest.ensures.value)
    (c.if-is_in_range.ensures.0 (search rules)))
