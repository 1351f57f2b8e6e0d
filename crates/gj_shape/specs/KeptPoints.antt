-- How `Points` keeps points: three lists of fractions and their least common denominator.
use Rattle.std.specs.Prelude.{ℕ, ◌≡◌, List, [], ◌∷◌, length}
use Rattle.gj_frac.specs.declared.Frac.{Frac}
use Rattle.gj_shape.specs.Given.{in_order}
use Rattle.gj_shape.specs.Denominators.{AreWithinBoundsOver}
use Rattle.gj_shape.specs.declared.points.Point.{Point}

-- the points with these limits from the left, values and limits from the right
abbrev pub points_of : List Frac → List Frac → List Frac → List Point
points_of (l ∷ ls) (v ∷ vs) (r ∷ rs) =
    record { left = l; value = v; right = r } ∷ points_of ls vs rs
points_of ls vs rs = []

-- the lists have one length, and the scale is the least common denominator of all fractions
pub record AreKept (left value right : List Frac) (scale : ℕ) : Type 0 where
  pub value_length : length value ≡ length left
  pub right_length : length right ≡ length left
  pub least : AreWithinBoundsOver (in_order left value right) scale
