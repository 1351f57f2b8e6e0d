-- What the tests of minimality say of a rule (own).
use Rattle.gj_shape.specs.FirstViolation.{IsFirstViolation, PassesAll}
use Rattle.gj_shape.specs.declared.violations.Violation.{Violation}
use Rattle.gj_proof.specs.CutRules.{MakesCuts}
use Rattle.gj_proof.specs.ProofText.{IfFunction, IsBoundedRule, subject_of_rule}
use Rattle.gj_proof.specs.declared.cut.CutRule.{CutRule}
use Rattle.gj_proof.specs.declared.cut.CutRule.TheVariants.{Gmic, Table}

-- the violation is the first of the rule's function
abbrev pub IsViolationOf : CutRule → Violation → Type 0
IsViolationOf Gmic v = ⊥
IsViolationOf (Table f) v = IsFirstViolation f v

-- the rule makes cuts, as the tests of minimality say of a function within the limits
pub record PassesTests (r : CutRule) : Type 0 where
  pub bounded : IsBoundedRule r
  pub makes_cuts : MakesCuts r
  pub tests : IfFunction (subject_of_rule r) PassesAll
