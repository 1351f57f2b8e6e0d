-- How `Breaks` keeps breakpoints: with the least common denominator of their limits and values.
use Rattle.gj_shape.specs.Points.{all_fractions}
use Rattle.gj_shape.specs.Denominators.{AreWithinBoundsOver}
use Rattle.gj_shape.specs.Breaks.{BreakList, AreBreaks, points_at}
use Rattle.gj_shape.specs.declared.breaks.Breaks.TheInside.{Inside}

abbrev pub breaks_of : Inside → BreakList
breaks_of b = record { place = b.place; order = b.order; breaks = b.breaks.items }

pub record AreKeptBreaks (b : Inside) : Type 0 where
  pub breaks : AreBreaks (breaks_of b)
  pub least : AreWithinBoundsOver (all_fractions (points_at b.breaks.items)) b.scale
