-- Which rules make cuts (Gomory and Johnson 1972; the form is own).
use Rattle.gj_shape.specs.FunctionData.{IsContinuous}
use Rattle.gj_shape.specs.Table.{IsMinimal}
use Rattle.gj_proof.specs.declared.cut.CutRule.{CutRule}
use Rattle.gj_proof.specs.declared.cut.CutRule.TheVariants.{Gmic, Table}

-- the rule makes cuts: a function is minimal
abbrev pub MakesCuts : CutRule → Type 0
MakesCuts Gmic = Unit {0}
MakesCuts (Table f) = IsMinimal f

-- the rule makes cuts where columns are continuous: a function is minimal and continuous
abbrev pub MakesContinuousCuts : CutRule → Type 0
MakesContinuousCuts Gmic = Unit {0}
MakesContinuousCuts (Table f) = IsMinimal f × IsContinuous f
