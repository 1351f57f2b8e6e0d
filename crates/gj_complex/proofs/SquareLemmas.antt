-- The numbers of a square, and the limits that they make.
use Rattle.std.proofs.Common.{◌≡◌, ℕ, ◌+◌}
use Rattle.gj_shape.specs.FunctionData.{FunctionData, at}
use Rattle.gj_shape.specs.declared.faces.FaceKind.TheVariants.{Vertex, Horizontal, Vertical, Diagonal, Lower, Upper}
use Rattle.gj_complex.specs.declared.square.Square.{Square}
use Rattle.gj_complex.specs.Squares.{HasLimits}

-- each number of the square is that of the function in the square (a, b)
pub record IsSquareOf (s : Square) (f : FunctionData) (a b : ℕ) : Type 0 where
  pub right_first : s.right_first ≡ at f.right a
  pub value_first : s.value_first ≡ at f.value a
  pub left_first : s.left_first ≡ at f.left (a + 1)
  pub right_second : s.right_second ≡ at f.right b
  pub value_second : s.value_second ≡ at f.value b
  pub left_second : s.left_second ≡ at f.left (b + 1)
  pub value_sum : s.value_sum ≡ at f.value (a + b)
  pub right_sum : s.right_sum ≡ at f.right (a + b)
  pub left_next : s.left_next ≡ at f.left (a + b + 1)
  pub value_next : s.value_next ≡ at f.value (a + b + 1)
  pub right_next : s.right_next ≡ at f.right (a + b + 1)
  pub left_last : s.left_last ≡ at f.left (a + b + 1 + 1)

pub limits_from : (s : Square) (f : FunctionData) (a b : ℕ) → IsSquareOf s f a b → HasLimits s f a b
limits_from s f a b h Vertex = cc
limits_from s f a b h Horizontal = cc
limits_from s f a b h Vertical = cc
limits_from s f a b h Diagonal = cc
limits_from s f a b h Lower = cc
limits_from s f a b h Upper = cc
