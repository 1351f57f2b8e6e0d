-- Commands for continuous functions, and the first jump of another function (own).
use Rattle.std.specs.Prelude.{ℕ, pos, ◌≡◌, List, codes}
use Rattle.gj_frac.specs.declared.Frac.{Frac}
use Rattle.gj_frac.specs.Fraction.{IsRatio}
use Rattle.gj_shape.specs.FunctionData.{FunctionData, IsContinuous, IsFirstJump}
use Rattle.gj_function_lines.specs.FunctionLines.{fraction_line}
use Rattle.gj_top.specs.declared.reply.End.{End}
use Rattle.gj_top.specs.declared.reply.End.TheVariants.{NotContinuous}

-- the function jumps
abbrev pub Jumps : FunctionData → Type 0
Jumps f = IsContinuous f → ⊥

-- the text names the first jump, at i/q
pub record NamesFirstJump (f : FunctionData) (text : List ℕ) : Type 0 where
  pub index : ℕ
  pub first : IsFirstJump f index
  pub point : Frac
  pub point_is : IsRatio point (pos index) (pos f.order)
  pub spelled : text ≡ fraction_line (codes "not continuous ") point

-- a continuous function is replied to so; of one that jumps the first jump is named
abbrev pub IsContinuousReply : (FunctionData → End → List ℕ → Type 0) → FunctionData → End →
    List ℕ → Type 0
IsContinuousReply replies f NotContinuous text = NamesFirstJump f text
IsContinuousReply replies f end text = IsContinuous f × replies f end text
