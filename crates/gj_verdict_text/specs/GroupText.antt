-- The text of a verdict on the table of a function's own order (own).
use Rattle.std.specs.Prelude.{ℕ, pos, ◌≡◌, List, ◌++◌, codes}
use Rattle.gj_frac.specs.declared.Frac.{Frac}
use Rattle.gj_frac.specs.Fraction.{IsRatio}
use Rattle.gj_shape.specs.FunctionData.{FunctionData}
use Rattle.gj_function_lines.specs.FunctionLines.{line, order_line, place_line}
use Rattle.gj_proof.specs.ProofText.{violation_line}
use Rattle.gj_proof.specs.ProofText.{halves_text}
use Rattle.gj_group.specs.declared.decision.GroupAnswer.{GroupAnswer}
use Rattle.gj_group.specs.declared.decision.GroupAnswer.TheVariants.{NotMinimal, Extreme, NotExtreme}

-- the line of the verdict, and those that show it
abbrev pub verdict_lines : GroupAnswer → List ℕ
verdict_lines (NotMinimal v) = line (codes "verdict not-minimal") ++ violation_line v
verdict_lines Extreme = line (codes "verdict extreme")
verdict_lines (NotExtreme h) = line (codes "verdict not-extreme") ++ halves_text h

-- the text is `gj-group 1`, the order, the place and the verdict
pub record IsGroupText (f : FunctionData) (answer : GroupAnswer) (text : List ℕ) : Type 0 where
  pub place : Frac
  pub place_is : IsRatio place (pos f.place) (pos f.order)
  pub spelled : text ≡ line (codes "gj-group 1") ++ order_line f.order ++ place_line place
      ++ verdict_lines answer ++ line (codes "end")
