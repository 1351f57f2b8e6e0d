-- The kinds of rules, their values and their places (Gomory and Johnson 1972).
use Rattle.std.specs.Prelude.{pos}
use Rattle.gj_frac.specs.declared.Frac.{Frac}
use Rattle.gj_frac.specs.Fraction.{IsRatio, numerator, denominator, IsInside, HasDenominatorBelow}
use Rattle.gj_shape.specs.Limits.{denominator_bound}
use Rattle.gj_shape.specs.FunctionData.{IsWithinBounds}
use Rattle.gj_shape.specs.Table.{IsMinimal}
use Rattle.gj_theory.specs.Cuts.{IsGmicValue, IsValueOf}
use Rattle.gj_rule.specs.declared.kind.RuleKind.{RuleKind}
use Rattle.gj_rule.specs.declared.kind.RuleKind.TheVariants.{Gmic, Table}

-- the f of a mixed-integer cut is between 0 and 1 and has a denominator of at most 2^31 - 1
abbrev pub IsKind : RuleKind → Type 0
IsKind (Gmic f) = IsInside f × HasDenominatorBelow denominator_bound f
IsKind (Table shape) = Unit {0}

-- what holds of the kind of each rule: that, or the bounds of functions
abbrev pub IsKindWithinBounds : RuleKind → Type 0
IsKindWithinBounds (Gmic f) = IsKind (Gmic f)
IsKindWithinBounds (Table shape) = IsWithinBounds shape

-- y is the kind's value at x
abbrev pub IsKindValue : RuleKind → Frac → Frac → Type 0
IsKindValue (Gmic f) x y = IsGmicValue f x y
IsKindValue (Table shape) x y = IsValueOf shape x y

-- x is the kind's place f
abbrev pub HasPlace : RuleKind → Frac → Type 0
HasPlace (Gmic f) x = IsRatio x (numerator f) (denominator f)
HasPlace (Table shape) x = IsRatio x (pos shape.place) (pos shape.order)

-- the kind is minimal: the mixed-integer cut is so for each f
abbrev pub IsMinimalKind : RuleKind → Type 0
IsMinimalKind (Gmic f) = Unit {0}
IsMinimalKind (Table shape) = IsMinimal shape
