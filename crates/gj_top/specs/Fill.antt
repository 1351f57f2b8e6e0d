-- The command `fill`: a function text is answered with the two-slope fill-in of its function, by
-- breakpoints (Gomory and Johnson 1972; the form is own).
use Rattle.std.specs.Prelude.{ℕ, pos, ◌≡◌, false, List, ◌++◌, map, codes}
use Rattle.gj_frac.specs.declared.Frac.{Frac}
use Rattle.gj_frac.specs.Fraction.{IsRatio}
use Rattle.gj_lex.specs.NumberText.{fraction_text}
use Rattle.gj_shape.specs.FunctionData.{FunctionData, IsContinuous}
use Rattle.gj_function_lines.specs.FunctionLines.{line}
use Rattle.gj_function_text.specs.FunctionText.{canonical_breaks_text, even_break}
use Rattle.gj_fill.specs.FillPoints.{AreFillPoints, IsFillIn}
use Rattle.gj_fill.specs.FirstPair.{IsFirstPair}
use Rattle.gj_top.specs.declared.reply.End.{End}
use Rattle.gj_top.specs.declared.reply.End.TheVariants.{Done, NotSubadditive}
use Rattle.gj_top.specs.Promise.{Promise}
use Rattle.gj_top.specs.Task.{Task}
use Rattle.gj_top.specs.Forms.{function_promise, function_task}
use Rattle.gj_top.specs.Continuity.{IsContinuousReply}

-- the function is continuous, and the text is that of the points of its fill-in
pub record IsFillText (f : FunctionData) (text : List ℕ) : Type 0 where
  pub continuous : IsContinuous f
  pub place : Frac
  pub points : List (Frac × Frac)
  pub place_is : IsRatio place (pos f.place) (pos f.order)
  pub points_are : AreFillPoints f points
  -- which is the function at the multiples of 1/order, subadditive, and affine between its points
  pub fill_in : IsFillIn f points_are.rise points_are.fall
  pub spelled : text ≡ canonical_breaks_text place (map even_break points)

-- the text names the first two multiples of 1/order at which the function is not subadditive
pub record NamesFirstPair (f : FunctionData) (text : List ℕ) : Type 0 where
  pub a : ℕ
  pub b : ℕ
  pub first : IsFirstPair f a b
  pub x : Frac
  pub y : Frac
  pub x_is : IsRatio x (pos a) (pos f.order)
  pub y_is : IsRatio y (pos b) (pos f.order)
  pub spelled : text ≡ line
      (codes "not subadditive " ++ fraction_text x ++ codes " " ++ fraction_text y)

-- of a continuous function that is not subadditive at the multiples of 1/order the first two of
-- these are named
abbrev pub IsFillReply : FunctionData → End → List ℕ → Type 0
IsFillReply f Done text = IsFillText f text
IsFillReply f NotSubadditive text = NamesFirstPair f text
IsFillReply f end text = ⊥

abbrev pub fill_promise : Promise
fill_promise = function_promise false IsFillText

abbrev pub fill : Task
fill = function_task false IsFillText (IsContinuousReply IsFillReply)
