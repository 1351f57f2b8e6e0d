-- The pieces of a function between neighbouring grid points (own).
use Rattle.std.specs.Prelude.{ℕ, pos, ◌≡◌, ◌+◌, ◌≤ℤ◌, ◌<ℤ◌}
use Rattle.gj_shape.specs.FunctionData.{FunctionData, at}
use Rattle.gj_check_minimal.specs.declared.pieces.Piece.{Piece}

-- the piece has the value at i/q, and the limits at i/q and (i + 1)/q from between them
pub record IsPieceAt (f : FunctionData) (i : ℕ) (p : Piece) : Type 0 where
  pub value : p.value ≡ at f.value i
  pub right : p.right ≡ at f.right i
  pub left : p.left ≡ at f.left (i + 1)

-- its numbers lie from 0 to below the bound
pub record HasNumbersBelow (bound : ℕ) (p : Piece) : Type 0 where
  pub value_low : pos 0 ≤ℤ p.value
  pub value_high : p.value <ℤ pos bound
  pub right_low : pos 0 ≤ℤ p.right
  pub right_high : p.right <ℤ pos bound
  pub left_low : pos 0 ≤ℤ p.left
  pub left_high : p.left <ℤ pos bound
