-- The points between which the fill-in of a continuous function is affine (Gomory and Johnson
-- 1972).
use Rattle.std.specs.Prelude.{ℕ, ℤ, pos, ◌≡◌, ◌⊎◌, ◌*◌, ◌<◌, ◌+ℤ◌, ◌*ℤ◌, neg_ℤ, int_lt, ◌&&◌, if◌then◌else◌, List, [], ◌∷◌, ◌++◌, flat_map}
use Rattle.std.specs.List.{range_with_len, AllZip}
use Rattle.gj_frac.specs.declared.Frac.{Frac}
use Rattle.gj_frac.specs.Fraction.{Fraction, SameValue, difference_of, product_of, fraction_of, AtMostValue}
use Rattle.gj_shape.specs.FunctionData.{FunctionData, at}
use Rattle.gj_shape.specs.TwoSlopes.{rise}
use Rattle.gj_fill.specs.FillIn.{filled, AreGreatestSteps, IsSubadditiveTable}

-- a point of the graph
pub record GraphPoint : Type 0 where
  pub x : Fraction
  pub y : Fraction

-- the point of the function at a/order
abbrev pub value_point : FunctionData → ℕ → GraphPoint
value_point f a = record {
  x = record { top = pos a; bottom = pos f.order };
  y = record { top = at f.value a; bottom = pos f.scale };
}

-- the point behind a/order where the line that rises by s from the value there meets the line that
-- falls by t to the next value
abbrev pub crossing_point : FunctionData → ℤ → ℤ → ℕ → GraphPoint
crossing_point f s t a = record {
  x = record { top = pos a *ℤ (s +ℤ t) +ℤ (rise f a +ℤ t); bottom = pos f.order *ℤ (s +ℤ t) };
  y = record {
    top = at f.value a *ℤ (s +ℤ t) +ℤ s *ℤ (rise f a +ℤ t);
    bottom =
        pos f.scale *ℤ (s +ℤ t);
  };
}

-- the points from a/order up to the next: if the function goes by neither slope there, the crossing
-- of the lines is one
abbrev pub points_from : FunctionData → ℤ → ℤ → ℕ → List GraphPoint
points_from f s t a =
    if int_lt (neg_ℤ t) (rise f a) && int_lt (rise f a) s
    then value_point f a ∷ crossing_point f s t a ∷ []
    else value_point f a ∷ []

-- all points, from 0 up to, not including, 1
abbrev pub fill_points : FunctionData → ℤ → ℤ → List GraphPoint
fill_points f s t = flat_map (points_from f s t) (range_with_len 0 f.order)

-- ---- where a fill-in is affine

-- the point (x, y) lies on the line of this slope through p
abbrev pub IsOnLine : Fraction → GraphPoint → Fraction → Fraction → Type 0
IsOnLine slope p x y = SameValue (difference_of y p.y) (product_of slope (difference_of x p.x))

-- from p to q the fill-in goes along the line of this slope: on it lie q and, at each i/(order m)
-- between the two, the filled value
pub record GoesAlong (f : FunctionData) (s t : ℤ) (slope : Fraction) (p q : GraphPoint) :
    Type 0 where
  pub end : IsOnLine slope p q.x q.y
  pub between : (m i : ℕ) → 0 < m →
      AtMostValue p.x (record { top = pos i; bottom = pos (f.order * m) }) →
      AtMostValue (record { top = pos i; bottom = pos (f.order * m) }) q.x →
      IsOnLine slope p (record { top = pos i; bottom = pos (f.order * m) })
      (record { top = filled (at f.value) s t m i; bottom = pos (f.scale * m) })

-- it goes along a line of the slope order s or of the slope -(order t), each over scale
abbrev pub HasFillSlope : FunctionData → ℤ → ℤ → GraphPoint → GraphPoint → Type 0
HasFillSlope f s t p q =
    GoesAlong f s t (record { top = pos f.order *ℤ s; bottom = pos f.scale }) p q
    ⊎ GoesAlong f s t (record { top = neg_ℤ (pos f.order *ℤ t); bottom = pos f.scale }) p q

-- what holds of a fill-in, whose lines rise by s and fall by t: at the multiples of 1/order it is
-- the function; at each two fractions it is subadditive; and from each of its points to the next,
-- that at 1 behind the last, it is affine, with the slope order s or -(order t), each over scale
pub record IsFillIn (f : FunctionData) (s t : ℤ) : Type 0 where
  pub value : (m a : ℕ) → 0 < m → filled (at f.value) s t m (a * m) ≡ pos m *ℤ at f.value a
  pub subadditive : (m : ℕ) → 0 < m → IsSubadditiveTable (filled (at f.value) s t m)
  pub affine : (front : List GraphPoint) (p q : GraphPoint) (back : List GraphPoint) →
      fill_points f s t ++ value_point f f.order ∷ [] ≡ front ++ p ∷ q ∷ back →
      HasFillSlope f s t p q

-- ---- the points as pairs of fractions

-- the pair tells the point: where it lies, and the value there
pub record IsPairOf (p : GraphPoint) (pair : Frac × Frac) : Type 0 where
  pub x : SameValue (fraction_of pair.0) p.x
  pub value : SameValue (fraction_of pair.1) p.y

-- the pairs are the points of the fill-in of the function
pub record AreFillPoints (f : FunctionData) (points : List (Frac × Frac)) : Type 0 where
  pub rise : ℤ
  pub fall : ℤ
  pub greatest : AreGreatestSteps (at f.value) rise fall
  pub are_points : AllZip IsPairOf (fill_points f rise fall) points
