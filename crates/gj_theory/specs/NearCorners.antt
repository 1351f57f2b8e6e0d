-- Numbers near a corner of a face, where the function is affine (Light on the Infinite Group
-- Relaxation I).
use Rattle.std.specs.Prelude.{ℕ, ℤ, pos, ◌-◌, ◌+ℤ◌, ◌*ℤ◌, List, length, get_or}
use Rattle.gj_shape.specs.SlopeRows.{total}

-- from numbers at the corners of a face: h times the number at the point with the weight 1/h at
-- each other corner and the rest of the weight at the corner c
abbrev pub near_value : ℕ → ℕ → List ℤ → ℤ
near_value h c numbers = pos (h - length numbers) *ℤ get_or numbers c (pos 0) +ℤ total numbers
