-- The points of a function as fractions, and why one cannot follow others (own).
use Rattle.std.specs.Prelude.{ℕ, pos, List, [], ◌∷◌, map, flat_map}
use Rattle.std.specs.List.{AllZip}
use Rattle.gj_frac.specs.declared.Frac.{Frac}
use Rattle.gj_frac.specs.Fraction.{IsRatio}
use Rattle.gj_shape.specs.FunctionData.{FunctionData, at}
use Rattle.gj_shape.specs.Denominators.{IsFractionRefusal}
use Rattle.gj_shape.specs.declared.faults.FractionFault.{FractionFault}
use Rattle.gj_shape.specs.declared.faults.FractionFault.TheVariants as refusal
use Rattle.gj_shape.specs.declared.points.Point.{Point}
use Rattle.gj_shape.specs.declared.points.PointFault.{PointFault}
use Rattle.gj_shape.specs.declared.points.PointFault.TheVariants.{Large, Fine, Memory}

-- the limits from the left, the values and the limits from the right
abbrev pub lefts : List Point → List Frac
lefts points = map (λ p. p.left) points

abbrev pub values : List Point → List Frac
values points = map (λ p. p.value) points

abbrev pub rights : List Point → List Frac
rights points = map (λ p. p.right) points

-- the fractions of a point, and of all points, in the order in which they are tested
abbrev pub fractions_of : Point → List Frac
fractions_of p = p.left ∷ p.value ∷ p.right ∷ []

abbrev pub all_fractions : List Point → List Frac
all_fractions points = flat_map fractions_of points

-- the point without a jump that has this value
abbrev pub even_point : Frac → Point
even_point x = record { left = x; value = x; right = x }

-- the points are those of the function, each fraction over its scale
pub record ArePointsOf (f : FunctionData) (points : List Point) : Type 0 where
  pub left_are : AllZip (λ x n. IsRatio x n (pos f.scale)) (lefts points) f.left
  pub value_are : AllZip (λ x n. IsRatio x n (pos f.scale)) (values points) f.value
  pub right_are : AllZip (λ x n. IsRatio x n (pos f.scale)) (rights points) f.right

-- the point is that of the function at i/order, each fraction over its scale
pub record IsPointAt (f : FunctionData) (i : ℕ) (p : Point) : Type 0 where
  pub left_is : IsRatio p.left (at f.left i) (pos f.scale)
  pub value_is : IsRatio p.value (at f.value i) (pos f.scale)
  pub right_is : IsRatio p.right (at f.right i) (pos f.scale)

-- why a point cannot follow the points: its first fraction that fails a test behind theirs is too
-- large, or it is not, and leaves no common denominator from 1 to 2^31 - 1; or there was no memory
abbrev pub IsPointFault : List Point → Point → PointFault → Type 0
IsPointFault points p Large =
    IsFractionRefusal (all_fractions points) (fractions_of p) refusal.Large
IsPointFault points p Fine = IsFractionRefusal (all_fractions points) (fractions_of p) refusal.Fine
IsPointFault points p (Memory e) = Unit {0}

-- the fault of a point with a fraction at fault
abbrev pub point_fault : FractionFault → PointFault
point_fault refusal.Large = Large
point_fault refusal.Fine = Fine
