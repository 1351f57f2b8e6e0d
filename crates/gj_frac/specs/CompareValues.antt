-- How two fractions compare (own; by cross products, since denominators are positive).
use Rattle.std.specs.Prelude.{◌*ℤ◌}
use Rattle.std.specs.declared.cmp.Ordering.{Ordering}
use Rattle.std.specs.Ordering.{int_cmp}
use Rattle.gj_frac.specs.declared.Frac.{Frac}
use Rattle.gj_frac.specs.Fraction.{numerator, denominator}

-- the order of the values of x and y
abbrev pub compare_values : Frac → Frac → Ordering
compare_values x y = int_cmp (numerator x *ℤ denominator y) (numerator y *ℤ denominator x)
