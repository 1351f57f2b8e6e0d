-- What a rule keeps (own).
use Rattle.gj_frac.specs.declared.Frac.{Frac}
use Rattle.gj_rule.specs.declared.kind.RuleKind.{RuleKind}
use Rattle.gj_rule.specs.Kind.{IsKindValue}
use Rattle.gj_shape.specs.Limits.{IsRowNumber}

-- a kind and an evaluator
pub record KeptRule (E : Type 0) : Type 0 where
  pub kind : RuleKind
  pub eval : E

-- the evaluator may be called at each fraction of the range, and answers the kind's value there
pub record Evaluates {E : Type 0} (pre : E → Frac → Type 0) (post : E → Frac → Frac → Type 0)
    (kind : RuleKind) (eval : E) : Type 0 where
  pub callable : (x : Frac) → IsRowNumber x → pre eval x
  pub gives : (x y : Frac) → IsRowNumber x → post eval x y → IsKindValue kind x y
