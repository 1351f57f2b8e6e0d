-- Why a rule makes no cuts: the first violation of its function, or its first jump (own).
use Rattle.std.specs.Prelude.{ℕ, ◌≡◌, List, ◌++◌, codes}
use Rattle.gj_shape.specs.FirstViolation.{IsFirstViolation}
use Rattle.gj_shape.specs.Table.{IsMinimal}
use Rattle.gj_shape.specs.declared.violations.Violation.{Violation}
use Rattle.gj_proof.specs.ProofText.{violation_line}
use Rattle.gj_proof.specs.declared.cut.CutRule.{CutRule}
use Rattle.gj_proof.specs.declared.cut.CutRule.TheVariants.{Gmic, Table}
use Rattle.gj_top.specs.declared.reply.End.{End}
use Rattle.gj_top.specs.declared.reply.End.TheVariants.{NotContinuous, NoFunction}
use Rattle.gj_top.specs.Continuity.{NamesFirstJump}

-- the text names the first violation of a function that is not minimal
abbrev pub NamesViolation : CutRule → List ℕ → Type 0
NamesViolation Gmic text = ⊥
NamesViolation (Table f) text = (v : Violation) × IsFirstViolation f v
    × (text ≡ codes "no function " ++ violation_line v)

-- the text names the first jump of a minimal function
abbrev pub NamesJump : CutRule → List ℕ → Type 0
NamesJump Gmic text = ⊥
NamesJump (Table f) text = IsMinimal f × NamesFirstJump f text

-- the reply to a rule that makes no cuts where columns are continuous
abbrev pub IsObjection : CutRule → End → List ℕ → Type 0
IsObjection r NoFunction text = NamesViolation r text
IsObjection r NotContinuous text = NamesJump r text
IsObjection r end text = ⊥
